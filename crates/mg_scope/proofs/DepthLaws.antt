-- Depths of names, where no name leads back to itself.
use Rattle.std.specs.Prelude.{◌≡◌, ℕ, zero, suc, ◌+◌, ◌<◌, ◌≤◌, List, [], ◌∷◌, ◌++◌, length, Bool, true, false, Option, Some, None, ◌⊎◌}
use Rattle.std.proofs.Common.{inl, inr, refl, ap, sym, ◌∙◌, subst, arith}
use Rattle.gr_base.specs.Lists.{IsAmong, IsWithin, NoneTwice, Each, gathered}
use Rattle.gr_base.proofs.ListLemmas.{Each-at}
use Rattle.gr_base.proofs.Counting.{length-within}
use Rattle.gr_terms.specs.declared.Sym.{Sym}
use Rattle.mg_syntax.specs.declared.item.Class.{Class}
use Rattle.mg_syntax.specs.declared.item.Item.{Item}
use Rattle.mg_syntax.specs.declared.item.Item.TheVariants as item
use Rattle.mg_scope.specs.Classes.{class_of, mentions_of, mentioned}
use Rattle.mg_scope.specs.Cycles.{LeadsTo, HasNoCycle}
use Rattle.mg_scope.specs.Faults.{StandsIn, IsThere, IsScoped}
use Rattle.mg_scope.proofs.CallerLemmas.{stands_by}
use Rattle.mg_scope.proofs.StepLemmas.{class_name, length-class_names, stands-class_names}

-- the greater of two numbers
greater : ℕ → ℕ → ℕ
greater zero n = n
greater (suc m) zero = suc m
greater (suc m) (suc n) = suc (greater m n)

greater_left : (m n : ℕ) → m ≤ greater m n
unfolding greater
greater_left zero n = omega arith
greater_left (suc m) zero = omega arith
greater_left (suc m) (suc n) = let h = greater_left m n in omega (arith, h)

greater_right : (m n : ℕ) → n ≤ greater m n
unfolding greater
greater_right zero n = omega arith
greater_right (suc m) zero = omega arith
greater_right (suc m) (suc n) = let h = greater_right m n in omega (arith, h)

greater_one : (m n : ℕ) → (greater m n ≡ m) ⊎ (greater m n ≡ n)
unfolding greater
greater_one zero n = inr refl
greater_one (suc m) zero = inl refl
greater_one (suc m) (suc n) = elim (greater_one m n) [ inl e ↦ inl (ap suc e) | inr e ↦ inr (ap suc e) ]

-- the greatest of the numbers of names, and one more
above : (Sym → ℕ) → List Sym → ℕ
above f [] = 0
above f (x ∷ xs) = greater (suc (f x)) (above f xs)

above_each : (f : Sym → ℕ) (xs : List Sym) (x : Sym) → IsAmong xs x → f x < above f xs
unfolding above
above_each f [] x i = absurd i
above_each f (y ∷ ys) x (inl e) =
    let h = greater_left (suc (f y)) (above f ys) in
    let s : f x ≡ f y = ap f e in
    omega (arith, h, s)
above_each f (y ∷ ys) x (inr i) =
    let h = greater_right (suc (f y)) (above f ys) in
    let r = above_each f ys x i in
    omega (arith, h, r)

-- a positive bound is reached by one of the names
above_one : (f : Sym → ℕ) (xs : List Sym) (n : ℕ) → above f xs ≡ suc n → (x : Sym) × IsAmong xs x × (f x ≡ n)
unfolding above
above_one f [] n e = absurd (omega (arith, e))
above_one f (y ∷ ys) n e =
    elim (greater_one (suc (f y)) (above f ys)) [
      | inl s ↦ (let h : suc (f y) ≡ suc n = sym s ∙ e in (y, inl refl, omega (arith, h)))
      | inr s ↦ (let r = above_one f ys n (sym s ∙ e) in (r.0, inr r.1, r.2))
    ]

greater_most : (m n k : ℕ) → m ≤ k → n ≤ k → greater m n ≤ k
greater_most m n k a b = elim (greater_one m n) [ inl e ↦ omega (arith, e, a) | inr e ↦ omega (arith, e, b) ]

above_most : (f : Sym → ℕ) (xs : List Sym) (n : ℕ) → ((x : Sym) → f x ≤ n) → above f xs ≤ suc n
unfolding above
above_most f [] n most = omega arith
above_most f (x ∷ xs) n most = let h = most x in greater_most (suc (f x)) (above f xs) (suc n) (omega (arith, h)) (above_most f xs n most)

-- one of the names is at the bound, or f and g have one bound
above_same : (f g : Sym → ℕ) (xs : List Sym) (n : ℕ) → ((x : Sym) → (f x ≡ n) ⊎ (g x ≡ f x)) → ((x : Sym) × IsAmong xs x × (f x ≡ n)) ⊎ (above g xs ≡ above f xs)
unfolding above
above_same f g [] n either = inr refl
above_same f g (x ∷ xs) n either =
    elim (either x) [
      | inl e ↦ inl (x, inl refl, e)
      | inr e ↦ elim (above_same f g xs n either) [
        | inl r ↦ inl (r.0, inr r.1, r.2)
        | inr r ↦ inr (ap (λ z. greater (suc z) (above g xs)) e ∙ ap (λ z. greater (suc (f x)) z) r)
      ]
    ]

module _ (next : Sym → List Sym) where
  -- the longest way from a name, of at most n mentions
  height : ℕ → Sym → ℕ
  height zero a = 0
  height (suc n) a = above (height n) (next a)

  height_most : (n : ℕ) (a : Sym) → height n a ≤ n
  unfolding height
  height_most zero a = omega arith
  height_most (suc n) a = above_most (height n) (next a) n (height_most n)

  -- a way of n mentions
  Way : ℕ → Sym → Type 0
  Way zero a = Unit {0}
  Way (suc n) a = (b : Sym) × IsAmong (next a) b × Way n b

  full : (n : ℕ) (a : Sym) → height n a ≡ n → Way n a
  unfolding height Way
  full zero a e = tt
  full (suc n) a e = let r = above_one (height n) (next a) n e in (r.0, r.1, full n r.0 r.2)

  stable : (n : ℕ) (a : Sym) → (height n a ≡ n) ⊎ (height (suc n) a ≡ height n a)
  unfolding height
  stable zero a = inl refl
  stable (suc n) a =
      elim (above_same (height n) (height (suc n)) (next a) n (stable n)) [
        | inl r ↦
            (let h = above_each (height n) (next a) r.0 r.1 in
            let k = above_most (height n) (next a) n (height_most n) in
            let e = r.2 in
            inl (omega (arith, h, k, e)))
        | inr r ↦ inr r
      ]

  -- the names on a way but for the last one
  on_way : (n : ℕ) (a : Sym) → Way n a → List Sym
  unfolding Way
  on_way zero a way = []
  on_way (suc n) a (b, i, way) = a ∷ on_way n b way

  length-on_way : (n : ℕ) (a : Sym) (way : Way n a) → length (on_way n a way) ≡ n
  unfolding Way on_way
  length-on_way zero a way = refl
  length-on_way (suc n) a (b, i, way) = ap suc (length-on_way n b way)

  leads_on : (n : ℕ) (a x : Sym) (way : Way n a) → IsAmong (on_way n a way) x → (k : ℕ) × LeadsTo next x k a
  unfolding Way on_way
  leads_on zero a x way i = absurd i
  leads_on (suc n) a x (b, call, way) (inl e) = (0, sym e)
  leads_on (suc n) a x (b, call, way) (inr i) = let r = leads_on n b x way i in (suc r.0, (b, call, r.1))

  once_on : HasNoCycle next → (n : ℕ) (a : Sym) (way : Way n a) → NoneTwice (on_way n a way)
  unfolding Way on_way
  once_on none zero a way = tt
  once_on none (suc n) a (b, call, way) = ((λ i. let r = leads_on n b a way i in none a r.0 (b, call, r.1)), once_on none n b way)

  each_on : (P : Sym → Type 0) → ((a b : Sym) → IsAmong (next a) b → P a) → (n : ℕ) (a : Sym) (way : Way n a) → Each P (on_way n a way)
  unfolding Way on_way
  each_on P callers zero a way = tt
  each_on P callers (suc n) a (b, call, way) = (callers a b call, each_on P callers n b way)

-- ways are no longer than there are items
no_long_way : (m : List Item) → HasNoCycle (mentioned m) → (n : ℕ) (a : Sym) → Way (mentioned m) n a → n ≤ length m
no_long_way m none n a way =
    let names = on_way (mentioned m) n a way in
    let stand = each_on (mentioned m) (StandsIn m) (stands_by m) n a way in
    let within : IsWithin names (gathered class_name m) = λ x i. stands-class_names m x (Each-at (StandsIn m) names x stand i) in
    let h = length-within names (gathered class_name m) (once_on (mentioned m) none n a way) within in
    let l = length-class_names m in
    let c = length-on_way (mentioned m) n a way in
    omega (arith, h, l, c)

lower : (m : List Item) → HasNoCycle (mentioned m) → (a b : Sym) → IsAmong (mentioned m a) b
    → height (mentioned m) (suc (suc (length m))) b < height (mentioned m) (suc (suc (length m))) a
unfolding height
lower m none a b i =
    let n = suc (length m) in
    let h = above_each (height (mentioned m) n) (mentioned m a) b i in
    elim (stable (mentioned m) n b) [
      | inl e ↦ (let l = no_long_way m none n b (full (mentioned m) n b e) in absurd (omega (arith, l)))
      | inr e ↦ omega (arith, h, e)
    ]

pub depths : (m : List Item) → IsScoped m → (depth : Sym → ℕ) × ((a b : Sym) → IsAmong (mentioned m a) b → depth b < depth a)
depths m scoped = (height (mentioned m) (suc (suc (length m))), lower m scoped.no_cycle)
