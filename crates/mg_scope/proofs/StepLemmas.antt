-- Fewest steps to a goal, level by level.
use Rattle.std.specs.Prelude.{◌≡◌, ℕ, zero, suc, ◌+◌, ◌<◌, ◌≤◌, List, [], ◌∷◌, ◌++◌, length, take, Option, Some, None, ◌⊎◌, ◌↔◌, get_or, MatchOption}
use Rattle.std.proofs.Common.{inl, inr, refl, ap, sym, ◌∙◌, subst, arith, append_assoc}
use Rattle.std.proofs.lemmas.List.{take_more}
use Rattle.std.proofs.lemmas.Option.{none-some, same_Some}
use Rattle.gr_base.specs.Lists.{IsAmong, IsWithin, NoneTwice, Each, gathered}
use Rattle.gr_base.proofs.ListLemmas.{IsAmong-append_left, IsAmong-append_right, IsAmong-append, IsAmong-one_more, Each-at, Each-append, Each-left, Each-right}
use Rattle.gr_base.proofs.Counting.{length-within}
use Rattle.gr_terms.specs.declared.Sym.{Sym}
use Rattle.mg_syntax.specs.declared.item.Class.{Class}
use Rattle.mg_syntax.specs.declared.item.Item.{Item}
use Rattle.mg_syntax.specs.declared.item.Item.TheVariants as item
use Rattle.mg_scope.specs.Classes.{mentioned}
use Rattle.mg_scope.specs.Cycles.{LeadsTo, IsFirstNearest, IsWayBack, IsCycle}
use Rattle.mg_scope.specs.Faults.{StandsIn, IsThere}
use Rattle.mg_scope.specs.Tables.{Cells, value_at, IsBlank, Puts}
use Rattle.mg_scope.specs.Orders.{Rows, callers_of, AreCallers, IsSet, MeetsAll, AreSteps, IsNearest, IsBest}
use Rattle.mg_scope.specs.Checks.{HasNoWayBack}
use Rattle.mg_scope.proofs.TableLemmas.{Compared, same_name, other_name, compared, puts_here, puts_there}
use Rattle.mg_scope.proofs.ClassLemmas.{class_of-stands}
use Rattle.mg_scope.proofs.CallerLemmas.{stands_by}
use Rattle.mg_scope.proofs.GatherLemmas.{gathered-more}

-- meeting no names, one name, and more of them
pub meets_none : (t : Cells) (count : ℕ) (found : List Sym) → MeetsAll t t [] count found found
meets_none t count found = record { kept = λ a n h. h; fresh = λ a n h. inl h; met = λ a i. absurd i; listed = λ a h. inl h; only = λ a h. inl h; grows = λ a h. h }

pub meets_known : (t : Cells) (y : Sym) (count n : ℕ) (found : List Sym) → value_at t y ≡ Some n → MeetsAll t t (y ∷ []) count found found
meets_known t y count n found at = record {
  kept = λ a n h. h;
  fresh = λ a n h. inl h;
  met = λ a i. elim i [ inl e ↦ (n, ap (value_at t) e ∙ at) | inr f ↦ absurd f ];
  listed = λ a h. inl h;
  only = λ a h. inl h;
  grows = λ a h. h;
}

pub meets_new : (old new : Cells) (y : Sym) (count : ℕ) (found more : List Sym) → value_at old y ≡ None → Puts old new y count → more ≡ found ++ y ∷ [] → MeetsAll old new (y ∷ []) count found more
meets_new old new y count found more none put is = record {
  kept = λ a n h. puts_there old new y count a put (λ e. none-some n (sym none ∙ ap (value_at old) (sym e) ∙ h)) ∙ h;
  fresh = λ a n h. fresh a n h (compared a y);
  met = λ a i. elim i [ inl e ↦ (count, ap (value_at new) e ∙ puts_here old new y count put) | inr f ↦ absurd f ];
  listed = λ a h. listed a h (compared a y);
  only = λ a h. elim (IsAmong-one_more found y a (subst (λ z. IsAmong z a) is h)) [ inl p ↦ inl p | inr e ↦ inr (ap (value_at new) e ∙ puts_here old new y count put) ];
  grows = λ a h. subst (λ z. IsAmong z a) (sym is) (IsAmong-append_left found (y ∷ []) a h);
}
  where
    fresh : (a : Sym) (n : ℕ) → value_at new a ≡ Some n → Compared a y → (value_at old a ≡ Some n) ⊎ ((n ≡ count) × IsAmong (y ∷ []) a)
    fresh a n h (same_name e) = inr (same_Some n count (sym h ∙ ap (value_at new) e ∙ puts_here old new y count put), inl e)
    fresh a n h (other_name o) = inl (sym (puts_there old new y count a put o) ∙ h)

    listed : (a : Sym) → value_at new a ≡ Some count → Compared a y → (value_at old a ≡ Some count) ⊎ IsAmong more a
    listed a h (same_name e) = inr (subst (λ z. IsAmong z a) (sym is) (IsAmong-append_right found (y ∷ []) a (inl e)))
    listed a h (other_name o) = inl (sym (puts_there old new y count a put o) ∙ h)

pub meets_both : (old mid new : Cells) (xs ys : List Sym) (count : ℕ) (f g h : List Sym) → MeetsAll old mid xs count f g → MeetsAll mid new ys count g h → MeetsAll old new (xs ++ ys) count f h
meets_both old mid new xs ys count f g h one two = record {
  kept = λ a n e. two.kept a n (one.kept a n e);
  fresh = λ a n e. elim (two.fresh a n e) [
    | inl p ↦ elim (one.fresh a n p) [ inl q ↦ inl q | inr q ↦ inr (q.0, IsAmong-append_left xs ys a q.1) ]
    | inr p ↦ inr (p.0, IsAmong-append_right xs ys a p.1)
  ];
  met = λ a i. elim (IsAmong-append xs ys a i) [ inl p ↦ (let m = one.met a p in (m.0, two.kept a m.0 m.1)) | inr p ↦ two.met a p ];
  listed = λ a e. elim (two.listed a e) [ inl p ↦ elim (one.listed a p) [ inl q ↦ inl q | inr q ↦ inr (two.grows a q) ] | inr p ↦ inr p ];
  only = λ a e. elim (two.only a e) [ inl p ↦ elim (one.only a p) [ inl q ↦ inl q | inr q ↦ inr (two.kept a count q) ] | inr p ↦ inr p ];
  grows = λ a e. two.grows a (one.grows a e);
}

-- one more name of a list
pub meets_more : (old mid new : Cells) (names : List Sym) (i : ℕ) (d : Sym) (count : ℕ) (f g h : List Sym) → i < length names → MeetsAll old mid (take i names) count f g
    → MeetsAll mid new (get_or names i d ∷ []) count g h → MeetsAll old new (take (i + 1) names) count f h
meets_more old mid new names i d count f g h within one two =
    subst (λ z. MeetsAll old new z count f h) (sym (take_more names i d within)) (meets_both old mid new (take i names) (get_or names i d ∷ []) count f g h one two)

-- the table has the names at up to d steps, and the list has those at just d
pub record IsLevel (next : Sym → List Sym) (goal : Sym) (d : ℕ) (t : Cells) (level : List Sym) : Type 0 where
  pub sound : (a : Sym) (n : ℕ) → value_at t a ≡ Some n → LeadsTo next goal n a × (n ≤ d)
  pub all : (a : Sym) (n : ℕ) → n ≤ d → LeadsTo next goal n a → (i : ℕ) × (value_at t a ≡ Some i) × (i ≤ n)
  pub here : (a : Sym) → value_at t a ≡ Some d → IsAmong level a
  pub each : (a : Sym) → IsAmong level a → value_at t a ≡ Some d

pub first_level : (next : Sym → List Sym) (goal : Sym) (old t : Cells) (level : List Sym) → IsBlank old → Puts old t goal 0 → level ≡ goal ∷ [] → IsLevel next goal 0 t level
first_level next goal old t level blank put is = record {
  sound = λ a n e. sound a n e (compared a goal);
  all = λ a n h way. all a n h way;
  here = λ a e. here a e (compared a goal);
  each = λ a i. elim (subst (λ z. IsAmong z a) is i) [ inl e ↦ ap (value_at t) e ∙ puts_here old t goal 0 put | inr f ↦ absurd f ];
}
  where
    sound : (a : Sym) (n : ℕ) → value_at t a ≡ Some n → Compared a goal → LeadsTo next goal n a × (n ≤ 0)
    sound a n e (same_name s) =
        let z : n ≡ 0 = same_Some n 0 (sym e ∙ ap (value_at t) s ∙ puts_here old t goal 0 put) in
        (subst (λ k. LeadsTo next goal k a) (sym z) s, omega arith)
    sound a n e (other_name o) = absurd (none-some n (sym (blank a) ∙ sym (puts_there old t goal 0 a put o) ∙ e))

    all : (a : Sym) (n : ℕ) → n ≤ 0 → LeadsTo next goal n a → (i : ℕ) × (value_at t a ≡ Some i) × (i ≤ n)
    all a zero h way = (0, ap (value_at t) way ∙ puts_here old t goal 0 put, omega arith)
    all a (suc n) h way = absurd (omega arith)

    here : (a : Sym) → value_at t a ≡ Some 0 → Compared a goal → IsAmong level a
    here a e (same_name s) = subst (λ z. IsAmong z a) (sym is) (inl s)
    here a e (other_name o) = absurd (none-some 0 (sym (blank a) ∙ sym (puts_there old t goal 0 a put o) ∙ e))

-- the callers of names
pub among_gathered : (r : Rows) (level : List Sym) (a b : Sym) → IsAmong level b → IsAmong (callers_of r b) a → IsAmong (gathered (callers_of r) level) a
among_gathered r [] a b i h = absurd i
among_gathered r (x ∷ level) a b (inl e) h = IsAmong-append_left (callers_of r x) (gathered (callers_of r) level) a (subst (λ z. IsAmong (callers_of r z) a) e h)
among_gathered r (x ∷ level) a b (inr i) h = IsAmong-append_right (callers_of r x) (gathered (callers_of r) level) a (among_gathered r level a b i h)

pub gathered_among : (r : Rows) (level : List Sym) (a : Sym) → IsAmong (gathered (callers_of r) level) a → (b : Sym) × IsAmong level b × IsAmong (callers_of r b) a
gathered_among r [] a h = absurd h
gathered_among r (x ∷ level) a h =
    elim (IsAmong-append (callers_of r x) (gathered (callers_of r) level) a h) [
      | inl p ↦ (x, inl refl, p)
      | inr p ↦ (let q = gathered_among r level a p in (q.0, inr q.1, q.2))
    ]

module _ (next : Sym → List Sym) (goal : Sym) where
  -- the callers of a level that were not met are the next level; each name of the level is at d steps
  pub next_level : (r : Rows) (d : ℕ) (t new : Cells) (level found : List Sym) → AreCallers next r → IsLevel next goal d t level
      → MeetsAll t new (gathered (callers_of r) level) (suc d) [] found → IsLevel next goal (suc d) new found
  next_level r d t new level found calls known meets = record { sound = sound; all = all; here = here; each = λ a i. elim (meets.only a i) [ inl f ↦ absurd f | inr e ↦ e ] }
    where
      sound : (a : Sym) (n : ℕ) → value_at new a ≡ Some n → LeadsTo next goal n a × (n ≤ suc d)
      sound a n e =
          elim (meets.fresh a n e) [
            | inl p ↦ (let s = known.sound a n p in let h = s.1 in (s.0, omega (arith, h)))
            | inr p ↦
                (let b = gathered_among r level a p.1 in
                let at = known.each b.0 b.1 in
                let way : LeadsTo next goal (suc d) a = (b.0, (calls a b.0).0 b.2, (known.sound b.0 d at).0) in
                let z : n ≡ suc d = p.0 in
                (subst (λ k. LeadsTo next goal k a) (sym z) way, omega (arith, z)))
          ]

      up : (a b : Sym) (i n : ℕ) → IsAmong (next a) b → value_at t b ≡ Some i → i ≤ n → n ≤ d → (i ≡ d) ⊎ (suc i ≤ d) → (j : ℕ) × (value_at new a ≡ Some j) × (j ≤ suc n)
      up a b i n call at low high (inl top) =
          let m = meets.met a (among_gathered r level a b (known.here b (at ∙ ap Some top)) ((calls a b).1 call)) in
          let h = (sound a m.0 m.1).1 in
          (m.0, m.1, omega (arith, h, top, low))
      up a b i n call at low high (inr below) =
          let k = known.all a (suc i) below (b, call, (known.sound b i at).0) in
          let h = k.2 in
          (k.0, meets.kept a k.0 k.1, omega (arith, h, low))

      split : (i : ℕ) → i ≤ d → (i ≡ d) ⊎ (suc i ≤ d)
      split i h = two d i h
        where
          two : (d i : ℕ) → i ≤ d → (i ≡ d) ⊎ (suc i ≤ d)
          two zero i h = inl (omega arith)
          two (suc d) zero h = inr (omega arith)
          two (suc d) (suc i) h = elim (two d i (omega arith)) [ inl e ↦ inl (omega (arith, e)) | inr e ↦ inr (omega (arith, e)) ]

      all : (a : Sym) (n : ℕ) → n ≤ suc d → LeadsTo next goal n a → (i : ℕ) × (value_at new a ≡ Some i) × (i ≤ n)
      all a zero h way = let k = known.all a zero (omega arith) way in (k.0, meets.kept a k.0 k.1, k.2)
      all a (suc n) h (b, call, more) =
          let k = known.all b n (omega arith) more in
          up a b k.0 n call k.1 k.2 (omega arith) (split k.0 (known.sound b k.0 k.1).1)

      here : (a : Sym) → value_at new a ≡ Some (suc d) → IsAmong found a
      here a e =
          elim (meets.listed a e) [
            | inl p ↦ (let h = (known.sound a (suc d) p).1 in absurd (omega (arith, h)))
            | inr p ↦ p
          ]

  -- where no name is at just d steps the table has all
  pub last_level : (d : ℕ) (t : Cells) (level : List Sym) → IsLevel next goal d t level → ((a : Sym) → value_at t a ≡ Some d → ⊥) → AreSteps next goal t
  last_level d t level known none = ((λ a n e. (known.sound a n e).0), all)
    where
      all : (a : Sym) (n : ℕ) → LeadsTo next goal n a → (i : ℕ) × (value_at t a ≡ Some i) × (i ≤ n)
      all a zero way = known.all a zero (omega arith) way
      all a (suc n) (b, call, more) =
          let k = all b n more in
          let s = known.sound b k.0 k.1 in
          let below : suc k.0 ≤ d = (let h = s.1 in let o : k.0 ≡ d → ⊥ = λ e. none b (k.1 ∙ ap Some e) in omega (arith, h, o)) in
          let r = known.all a (suc k.0) below (b, call, s.0) in
          let h = k.2 in
          let j = r.2 in
          (r.0, r.1, omega (arith, h, j))

-- the names of classes, with repeats
abbrev pub class_name : Item → List Sym
class_name (item.Class k) = k.name ∷ []
class_name (item.Value v) = []
class_name (item.Header h) = []

pub length-class_names : (m : List Item) → length (gathered class_name m) ≤ length m
length-class_names [] = omega arith
length-class_names (item.Class k ∷ m) = let h = length-class_names m in omega (arith, h)
length-class_names (item.Value v ∷ m) = let h = length-class_names m in omega (arith, h)
length-class_names (item.Header x ∷ m) = let h = length-class_names m in omega (arith, h)

pub stands-class_names : (m : List Item) (c : Sym) → StandsIn m c → IsAmong (gathered class_name m) c
stands-class_names [] c (k, i, named) = absurd i
stands-class_names (x ∷ m) c (k, inl e, named) = subst (λ z. IsAmong (gathered class_name (z ∷ m)) c) e (inl (sym named))
stands-class_names (x ∷ m) c (k, inr i, named) = IsAmong-append_right (class_name x) (gathered class_name m) c (stands-class_names m c (k, i, named))

one_value : (t : Cells) (a : Sym) (m n : ℕ) → value_at t a ≡ Some m → value_at t a ≡ Some n → m ≡ n
one_value t a m n e f = same_Some m n (sym e ∙ f)

-- so many classes, at different numbers of steps
pub record IsChain (t : Cells) (m : List Item) (d : ℕ) : Type 0 where
  pub names : List Sym
  pub count : length names ≡ suc d
  pub low : Each (λ a. (n : ℕ) × (value_at t a ≡ Some n) × (n ≤ d)) names
  pub once : NoneTwice names
  pub stand : Each (StandsIn m) names

lower : (t : Cells) (d : ℕ) (names : List Sym) → Each (λ a. (n : ℕ) × (value_at t a ≡ Some n) × (n ≤ d)) names → Each (λ a. (n : ℕ) × (value_at t a ≡ Some n) × (n ≤ suc d)) names
lower t d [] h = tt
lower t d (a ∷ names) (h, more) = let k = h.2 in ((h.0, h.1, omega (arith, k)), lower t d names more)

pub chain : (m : List Item) (goal : Sym) (top : ℕ) (t : Cells) (level : List Sym) → IsLevel (mentioned m) goal top t level → StandsIn m goal
    → (d : ℕ) (a : Sym) → value_at t a ≡ Some d → IsChain t m d
chain m goal top t level known stands zero a at =
    let same : a ≡ goal = (known.sound a zero at).0 in
    record { names = a ∷ []; count = refl; low = ((zero, at, omega arith), tt); once = ((λ i. i), tt); stand = (subst (StandsIn m) (sym same) stands, tt) }
chain m goal top t level known stands (suc d) a at =
    let s = known.sound a (suc d) at in
    let high = s.1 in
    let b = s.0.0 in
    let call = s.0.1 in
    let k = known.all b d (omega (arith, high)) s.0.2 in
    let low = k.2 in
    let exact : k.0 ≡ d = (
    let r = known.all a (suc k.0) (omega (arith, high, low)) (b, call, (known.sound b k.0 k.1).0) in
    let e : r.0 ≡ suc d = one_value t a r.0 (suc d) r.1 at in
    let h = r.2 in
    omega (arith, e, h, low)
    )
    in
    let at_b : value_at t b ≡ Some d = subst (λ (z : ℕ). value_at t b ≡ Some z) exact k.1 in
    let c = chain m goal top t level known stands d b at_b in
    let count = c.count in
    record {
      names = a ∷ c.names;
      count = omega (arith, count);
      low = ((suc d, at, omega arith), lower t d c.names c.low);
      once = (
        (λ i.
            let r = Each-at (λ a. (n : ℕ) × (value_at t a ≡ Some n) × (n ≤ d)) c.names a c.low i in
            let e : r.0 ≡ suc d = one_value t a r.0 (suc d) r.1 at in
            let h = r.2 in
            omega (arith, e, h)),
        c.once,
      );
      stand = (stands_by m a b call, c.stand);
    }

-- there are no more such classes than items
pub no_long_chain : (m : List Item) (goal : Sym) (d : ℕ) (t : Cells) (level : List Sym) → IsLevel (mentioned m) goal d t level → IsThere m goal → length m ≤ d
    → (a : Sym) → value_at t a ≡ Some d → ⊥
no_long_chain m goal d t level known (k, first) long a at =
    let s = class_of-stands m goal k first in
    let c = chain m goal d t level known (k, s.0, s.1) d a at in
    let within : IsWithin c.names (gathered class_name m) = λ x i. stands-class_names m x (Each-at (StandsIn m) c.names x c.stand i) in
    let h = length-within c.names (gathered class_name m) c.once within in
    let l = length-class_names m in
    let n = c.count in
    omega (arith, h, l, n, long)

-- the best of more names
best_past : (t : Cells) (n : ℕ) (names : List Sym) → Each (λ c. value_at t c ≡ None) names → Each (λ c. (i : ℕ) → value_at t c ≡ Some i → n < i) names
best_past t n [] h = tt
best_past t n (c ∷ names) (h, more) = ((λ i e. absurd (none-some i (sym h ∙ e))), best_past t n names more)

raised : (t : Cells) (m n : ℕ) (names : List Sym) → n < m → Each (λ c. (i : ℕ) → value_at t c ≡ Some i → m ≤ i) names → Each (λ c. (i : ℕ) → value_at t c ≡ Some i → n < i) names
raised t m n [] less h = tt
raised t m n (c ∷ names) less (h, more) = ((λ i e. let k = h i e in omega (arith, k, less)), raised t m n names less more)

raised_more : (t : Cells) (m n : ℕ) (names : List Sym) → n < m → Each (λ c. (i : ℕ) → value_at t c ≡ Some i → m < i) names → Each (λ c. (i : ℕ) → value_at t c ≡ Some i → n < i) names
raised_more t m n [] less h = tt
raised_more t m n (c ∷ names) less (h, more) = ((λ i e. let k = h i e in omega (arith, k, less)), raised_more t m n names less more)

pub best_no : (t : Cells) (seen : List Sym) (name : Sym) (best : Option (ℕ × Sym)) → value_at t name ≡ None → IsBest t seen best → IsBest t (seen ++ name ∷ []) best
best_no t seen name None missing h = Each-append (λ c. value_at t c ≡ None) seen (name ∷ []) h (missing, tt)
best_no t seen name (Some (n, b)) missing (before, after, parts, at, less, most) = (
  before,
  after ++ name ∷ [],
  ap (λ z. z ++ name ∷ []) parts ∙ append_assoc before (b ∷ after) (name ∷ []),
  at,
  less,
  Each-append (λ c. (i : ℕ) → value_at t c ≡ Some i → n ≤ i) (b ∷ after) (name ∷ []) most ((λ i e. absurd (none-some i (sym missing ∙ e))), tt),
)

pub best_first : (t : Cells) (seen : List Sym) (name : Sym) (n : ℕ) → value_at t name ≡ Some n → IsBest t seen None → IsBest t (seen ++ name ∷ []) (Some (n, name))
best_first t seen name n at h = (
  seen,
  [],
  refl,
  at,
  best_past t n seen h,
  ((λ i e. let s : n ≡ i = same_Some n i (sym at ∙ e) in omega (arith, s)), tt),
)

pub best_fewer : (t : Cells) (seen : List Sym) (name b : Sym) (n m : ℕ) → value_at t name ≡ Some n → n < m → IsBest t seen (Some (m, b)) → IsBest t (seen ++ name ∷ []) (Some (n, name))
best_fewer t seen name b n m at fewer (before, after, parts, was, less, most) = (
  seen,
  [],
  refl,
  at,
  subst (Each (λ c. (i : ℕ) → value_at t c ≡ Some i → n < i)) (sym parts)
      (Each-append (λ c. (i : ℕ) → value_at t c ≡ Some i → n < i) before (b ∷ after) (raised_more t m n before fewer less) (raised t m n (b ∷ after) fewer most)),
  ((λ i e. let s : n ≡ i = same_Some n i (sym at ∙ e) in omega (arith, s)), tt),
)

pub best_stays : (t : Cells) (seen : List Sym) (name b : Sym) (n m : ℕ) → value_at t name ≡ Some n → m ≤ n → IsBest t seen (Some (m, b)) → IsBest t (seen ++ name ∷ []) (Some (m, b))
best_stays t seen name b n m at no_fewer (before, after, parts, was, less, most) = (
  before,
  after ++ name ∷ [],
  ap (λ z. z ++ name ∷ []) parts ∙ append_assoc before (b ∷ after) (name ∷ []),
  was,
  less,
  Each-append (λ c. (i : ℕ) → value_at t c ≡ Some i → m ≤ i) (b ∷ after) (name ∷ []) most ((λ i e. let s : n ≡ i = same_Some n i (sym at ∙ e) in omega (arith, s, no_fewer)), tt),
)

module _ (next : Sym → List Sym) (goal : Sym) (t : Cells) (steps : AreSteps next goal t) where
  by_steps : (n : ℕ) (names : List Sym) → Each (λ c. (i : ℕ) → value_at t c ≡ Some i → n < i) names → Each (λ c. (i : ℕ) → LeadsTo next goal i c → n < i) names
  by_steps n [] h = tt
  by_steps n (c ∷ names) (h, more) = ((λ i way. let s = steps.1 c i way in let l = h s.0 s.1 in let k = s.2 in omega (arith, l, k)), by_steps n names more)

  by_steps_most : (n : ℕ) (names : List Sym) → Each (λ c. (i : ℕ) → value_at t c ≡ Some i → n ≤ i) names → Each (λ c. (i : ℕ) → LeadsTo next goal i c → n ≤ i) names
  by_steps_most n [] h = tt
  by_steps_most n (c ∷ names) (h, more) = ((λ i way. let s = steps.1 c i way in let l = h s.0 s.1 in let k = s.2 in omega (arith, l, k)), by_steps_most n names more)

  -- the nearest by the table is the nearest
  pub nearest_is : (names : List Sym) (n : ℕ) (b : Sym) → IsNearest t names n b → IsFirstNearest next goal names b
  nearest_is names n b (before, after, parts, at, less, most) =
      (before, after, n, parts, steps.0 b n at, by_steps n before less, by_steps_most n (b ∷ after) most)

  -- where none of what the goal mentions has a number there is no way back
  pub no_way : Each (λ c. value_at t c ≡ None) (next goal) → HasNoWayBack next goal
  no_way none n (b, call, more) =
      let s = steps.1 b n more in
      none-some s.0 (sym (Each-at (λ c. value_at t c ≡ None) (next goal) b none call) ∙ s.1)

  -- a name that is not the goal mentions one at fewer steps
  pub record Closer (a : Sym) (n : ℕ) : Type 0 where
    pub name : Sym
    pub among : IsAmong (next a) name
    pub count : ℕ
    pub at : value_at t name ≡ Some count
    pub fewer : count < n

  pub closer : (a : Sym) (n : ℕ) → value_at t a ≡ Some n → (a ≡ goal → ⊥) → Closer a n
  closer a zero at other = absurd (other (steps.0 a zero at))
  closer a (suc n) at other =
      let way = steps.0 a (suc n) at in
      let s = steps.1 way.0 n way.2 in
      let h = s.2 in
      record { name = way.0; among = way.1; count = s.0; at = s.1; fewer = omega (arith, h) }

  pub nearest_closer : (a : Sym) (n m : ℕ) (b : Sym) → value_at t a ≡ Some n → (a ≡ goal → ⊥) → IsNearest t (next a) m b → m < n
  nearest_closer a n m b at other (before, after, parts, is, less, most) =
      let c = closer a n at other in
      let f = c.fewer in
      elim (IsAmong-append before (b ∷ after) c.name (subst (λ z. IsAmong z c.name) parts c.among)) [
        | inl i ↦ (let h = Each-at (λ c. (i : ℕ) → value_at t c ≡ Some i → m < i) before c.name less i c.count c.at in omega (arith, h, f))
        | inr i ↦ (let h = Each-at (λ c. (i : ℕ) → value_at t c ≡ Some i → m ≤ i) (b ∷ after) c.name most i c.count c.at in omega (arith, h, f))
      ]

  pub some_closer : (a : Sym) (n : ℕ) → value_at t a ≡ Some n → (a ≡ goal → ⊥) → Each (λ c. value_at t c ≡ None) (next a) → ⊥
  some_closer a n at other none =
      let c = closer a n at other in
      none-some c.count (sym (Each-at (λ c. value_at t c ≡ None) (next a) c.name none c.among) ∙ c.at)

-- the names so far lead from the goal to this one, each by the nearest
pub record IsOnWay (next : Sym → List Sym) (goal : Sym) (names : List Sym) (at : Sym) : Type 0 where
  pub others : List Sym
  pub is : names ≡ goal ∷ others
  pub ends : at ≡ goal → IsWayBack next goal goal others
  pub goes_on : (bs : List Sym) → (at ≡ goal → ⊥) → IsWayBack next goal at bs → IsWayBack next goal goal (others ++ at ∷ bs)

pub way_begins : (next : Sym → List Sym) (goal at : Sym) (names : List Sym) → names ≡ goal ∷ [] → IsFirstNearest next goal (next goal) at → IsOnWay next goal names at
way_begins next goal at names is nearest = record {
  others = [];
  is = is;
  ends = λ e. subst (IsFirstNearest next goal (next goal)) e nearest;
  goes_on = λ bs other more. (nearest, other, more);
}

pub way_goes_on : (next : Sym → List Sym) (goal at then : Sym) (names more : List Sym) → IsOnWay next goal names at → (at ≡ goal → ⊥) → more ≡ names ++ at ∷ [] → IsFirstNearest next goal (next at) then
    → IsOnWay next goal more then
way_goes_on next goal at then names more way other is nearest = record {
  others = way.others ++ at ∷ [];
  is = is ∙ ap (λ z. z ++ at ∷ []) way.is;
  ends = λ e. way.goes_on [] other (subst (IsFirstNearest next goal (next at)) e nearest);
  goes_on = λ bs apart back. subst (IsWayBack next goal goal) (sym (append_assoc way.others (at ∷ []) (then ∷ bs))) (way.goes_on (then ∷ bs) other (nearest, apart, back));
}

pub way_ends : (next : Sym → List Sym) (goal at : Sym) (names : List Sym) → IsOnWay next goal names at → at ≡ goal → IsCycle next goal names
way_ends next goal at names way e = (way.others, way.is, way.ends e)

-- the callers of one more name
pub meets_gathered : (r : Rows) (old mid new : Cells) (level : List Sym) (i : ℕ) (d : Sym) (names : List Sym) (count : ℕ) (f g h : List Sym) → i < length level → names ≡ callers_of r (get_or level i d)
    → MeetsAll old mid (gathered (callers_of r) (take i level)) count f g → MeetsAll mid new names count g h → MeetsAll old new (gathered (callers_of r) (take (i + 1) level)) count f h
meets_gathered r old mid new level i d names count f g h within is one two =
    let more : suc i ≡ i + 1 = omega arith in
    subst (λ z. MeetsAll old new z count f h) (sym (gathered-more (callers_of r) level i d within) ∙ ap (λ k. gathered (callers_of r) (take k level)) more)
    (meets_both old mid new (gathered (callers_of r) (take i level)) (callers_of r (get_or level i d)) count f g h one (subst (λ z. MeetsAll mid new z count g h) is two))

pub none_in : {A : Type 0} (xs : List A) (x : A) → length xs ≡ 0 → IsAmong xs x → ⊥
none_in [] x e i = i
none_in (y ∷ ys) x e i = omega arith
