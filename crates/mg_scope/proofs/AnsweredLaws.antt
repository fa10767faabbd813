-- Each metagrammar keeps all rules or has a first fault: each rule holds or fails, and of the items the first that breaks one can be found.
use Rattle.std.specs.Prelude.{◌≡◌, ℕ, zero, suc, ◌+◌, ◌<◌, ◌≤◌, List, [], ◌∷◌, ◌++◌, map, length, take, Option, Some, None, ◌⊎◌, slice_get}
use Rattle.std.proofs.Common.{inl, inr, refl, ap, sym, ◌∙◌, subst, arith}
use Rattle.std.proofs.lemmas.Option.{none-some, same_Some, slice_get_within}
use Rattle.gr_base.specs.Lists.{IsAmong, IsWithin, NoneTwice, Each, gathered}
use Rattle.gr_base.proofs.ListLemmas.{IsAmong-append_left, IsAmong-append_right, IsAmong-append, Each-at, Each-members}
use Rattle.gr_base.proofs.Counting.{length-within}
use Rattle.gr_base.proofs.Numbers.{before_or_at}
use Rattle.gr_terms.specs.declared.Sym.{Sym}
use Rattle.mg_syntax.specs.declared.item.Class.{Class}
use Rattle.mg_syntax.specs.declared.item.Item.{Item}
use Rattle.mg_syntax.specs.declared.item.Item.TheVariants as item
use Rattle.mg_scope.specs.declared.uses.Use.{Use}
use Rattle.mg_scope.specs.declared.uses.Use.TheVariants.{Alone, Bound, Called, Dotted}
use Rattle.mg_scope.specs.declared.refusal.ScopeRefusal.{ScopeRefusal}
use Rattle.mg_scope.specs.declared.refusal.ScopeRefusal.TheVariants.{UnknownClass, ClassCycle, DuplicateClass, UndeclaredVariable, NotExported}
use Rattle.mg_scope.specs.Classes.{class_of, mentions, mentioned, uses_of, bindings, call_variables, exports_of, Sees}
use Rattle.mg_scope.specs.Cycles.{LeadsTo, IsFirstNearest, IsWayBack, IsCycle}
use Rattle.mg_scope.specs.Faults.{IsFirstWithout, StandsOnce, StandsIn, IsThere, IsRightUse, IsRightExport, IsRightDot, IsVariableOf, IsDotOf, IsFaultOf, IsFirstFault, IsScoped}
use Rattle.mg_scope.specs.Variables.{occurrences, variable_in, IsFirstWrongUse}
use Rattle.mg_scope.specs.Checks.{HasNoWayBack, HasRightNames, HasRightVariables, IsRightItem, AreRightTo}
use Rattle.mg_scope.proofs.TableLemmas.{Compared, same_name, other_name, compared}
use Rattle.mg_scope.proofs.ClassLemmas.{class_same}
use Rattle.mg_scope.proofs.CallerLemmas.{stands_by}
use Rattle.mg_scope.proofs.StepLemmas.{class_name, length-class_names, stands-class_names}
use Rattle.mg_scope.proofs.VariableLemmas.{once, counted_once, printed_is}
use Rattle.mg_scope.proofs.CheckLemmas.{unknown_fault, duplicate_fault, cycle_fault, variable_fault, export_fault, dot_fault, unknown_value, first_fault, right_more, item_exists, scoped}

-- a fact holds or fails
abbrev Decided : Type 0 → Type 0
Decided P = P ⊎ (P → ⊥)

not_dec : {P : Type 0} → Decided P → Decided (P → ⊥)
not_dec (inl p) = inr (λ n. n p)
not_dec (inr n) = inl n

both_dec : {P Q : Type 0} → Decided P → Decided Q → Decided (P × Q)
both_dec (inl p) (inl q) = inl (p, q)
both_dec (inl p) (inr n) = inr (λ h. n h.1)
both_dec (inr n) q = inr (λ h. n h.0)

either_dec : {P Q : Type 0} → Decided P → Decided Q → Decided (P ⊎ Q)
either_dec (inl p) q = inl (inl p)
either_dec (inr n) (inl q) = inl (inr q)
either_dec (inr n) (inr k) = inr (λ h. elim h [ inl p ↦ n p | inr q ↦ k q ])

implies_dec : {P Q : Type 0} → Decided P → Decided Q → Decided (P → Q)
implies_dec (inr n) q = inl (λ p. absurd (n p))
implies_dec (inl p) (inl q) = inl (λ _. q)
implies_dec (inl p) (inr n) = inr (λ f. n (f p))

same_dec : (x y : Sym) → Decided (x ≡ y)
same_dec x y = elim (compared x y) [ same_name e ↦ inl e | other_name o ↦ inr o ]

among_dec : (xs : List Sym) (x : Sym) → Decided (IsAmong xs x)
among_dec [] x = inr (λ i. i)
among_dec (y ∷ ys) x = either_dec (same_dec x y) (among_dec ys x)

each_dec : {A : Type 0} (P : A → Type 0) → ((x : A) → Decided (P x)) → (xs : List A) → Decided (Each P xs)
each_dec P dec [] = inl tt
each_dec P dec (x ∷ xs) = both_dec (dec x) (each_dec P dec xs)

first_more : {A : Type 0} (P : A → Type 0) (x : A) (xs : List A) → Decided (P x) → Each P xs ⊎ ((y : A) × IsFirstWithout P xs y) → Each P (x ∷ xs) ⊎ ((y : A) × IsFirstWithout P (x ∷ xs) y)
first_more P x xs (inr wrong) rest = inr (x, ([], xs, refl, tt, wrong))
first_more P x xs (inl fine) (inl each) = inl (fine, each)
first_more P x xs (inl fine) (inr (y, (before, after, parts, each, wrong))) = inr (y, (x ∷ before, after, ap (λ z. x ∷ z) parts, (fine, each), wrong))

first_dec : {A : Type 0} (P : A → Type 0) → ((x : A) → Decided (P x)) → (xs : List A) → Each P xs ⊎ ((y : A) × IsFirstWithout P xs y)
first_dec P dec [] = inl tt
first_dec P dec (x ∷ xs) = first_more P x xs (dec x) (first_dec P dec xs)

any_dec : (P : Sym → Type 0) → ((b : Sym) → Decided (P b)) → (xs : List Sym) → Decided ((b : Sym) × IsAmong xs b × P b)
any_dec P dec [] = inr (λ h. h.1)
any_dec P dec (x ∷ xs) = by (dec x) (any_dec P dec xs)
  where
    by : Decided (P x) → Decided ((b : Sym) × IsAmong xs b × P b) → Decided ((b : Sym) × IsAmong (x ∷ xs) b × P b)
    by (inl p) rest = inl (x, inl refl, p)
    by (inr n) (inl (b, i, p)) = inl (b, inr i, p)
    by (inr n) (inr none) = inr (λ h. elim h.1 [ inl e ↦ n (subst P e h.2) | inr i ↦ none (h.0, i, h.2) ])

there_dec : (m : List Item) (c : Sym) → Decided (IsThere m c)
there_dec m c = by (class_of m c) refl
  where
    by : (r : Option Class) → class_of m c ≡ r → Decided (IsThere m c)
    by None e = inr (λ t. none-some t.0 (sym e ∙ t.1))
    by (Some k) e = inl (k, e)

stands_dec : (items : List Item) (c : Sym) → Decided (StandsIn items c)
stands_dec [] c = inr (λ s. s.1)
stands_dec (item.Class k ∷ items) c = by (compared k.name c) (stands_dec items c)
  where
    by : Compared k.name c → Decided (StandsIn items c) → Decided (StandsIn (item.Class k ∷ items) c)
    by (same_name e) rest = inl (k, inl refl, e)
    by (other_name o) (inl (j, i, named)) = inl (j, inr i, named)
    by (other_name o) (inr none) = inr (λ s. elim s.1 [ inl e ↦ o (ap (λ (z : Class). z.name) (sym (class_same s.0 k e)) ∙ s.2) | inr i ↦ none (s.0, i, s.2) ])
stands_dec (item.Value v ∷ items) c = elim (stands_dec items c) [
  | inl s ↦ inl (s.0, inr s.1, s.2)
  | inr none ↦ inr (λ s. elim s.1 [ inl e ↦ value_class s.0 v e | inr i ↦ none (s.0, i, s.2) ])
]
  where
    value_class : (k : Class) (v : Sym) → item.Class k ≡ item.Value v → ⊥
    value_class k v e = cc
stands_dec (item.Header h ∷ items) c = elim (stands_dec items c) [
  | inl s ↦ inl (s.0, inr s.1, s.2)
  | inr none ↦ inr (λ s. elim s.1 [ inl e ↦ header_class s.0 e | inr i ↦ none (s.0, i, s.2) ])
]
  where
    header_class : (k : Class) → item.Class k ≡ item.Header h → ⊥
    header_class k e = cc

once_dec : (xs : List Sym) (x : Sym) → Decided (StandsOnce xs x)
once_dec xs x = by (occurrences xs x) refl
  where
    by : (n : ℕ) → occurrences xs x ≡ n → Decided (StandsOnce xs x)
    by zero e = inr (λ s. let h = counted_once xs x s in omega (arith, h, e))
    by (suc zero) e = inl (once xs x e)
    by (suc (suc n)) e = inr (λ s. let h = counted_once xs x s in omega (arith, h, e))

-- the rules on variables hold or fail
module _ (m : List Item) (k : Class) where
  sees_dec : (x : Sym) → Decided (Sees m k x)
  sees_dec x = either_dec (among_dec k.declares x) (among_dec (gathered (exports_of m) k.imports) x)

  called_dec : (x : Sym) → Decided (IsAmong (call_variables k) x)
  called_dec x = among_dec (call_variables k) x

  export_dec : (x : Sym) → Decided (IsRightExport m k x)
  export_dec x = both_dec (sees_dec x) (not_dec (called_dec x))

  use_dec : (u : Use) → Decided (IsRightUse m k u)
  use_dec (Alone x) = export_dec x
  use_dec (Bound x c) = both_dec (among_dec k.declares x) (once_dec (call_variables k) x)
  use_dec (Called c) = inl tt
  use_dec (Dotted x y) = both_dec (called_dec x) (sees_dec x)

  -- where the class is bound to the variable, it exports the name
  abbrev IfBound : Sym → Sym → Sym × Sym → Type 0
  IfBound x y b = b.0 ≡ x → IsAmong (exports_of m b.1) y

  dot_dec : (u : Use) → Decided (IsRightDot m k u)
  dot_dec (Alone x) = inl tt
  dot_dec (Bound x c) = inl tt
  dot_dec (Called c) = inl tt
  dot_dec (Dotted x y) =
      elim (each_dec (IfBound x y) (λ b. implies_dec (same_dec b.0 x) (among_dec (exports_of m b.1) y)) (bindings (uses_of k))) [
        | inl each ↦ inl (λ c i. Each-at (IfBound x y) (bindings (uses_of k)) (x, c) each i refl)
        | inr none ↦ inr (λ right. none (Each-members (IfBound x y) (bindings (uses_of k)) (λ b i e. right b.1 (subst (λ z. IsAmong (bindings (uses_of k)) (z, b.1)) e i))))
      ]

  dot_is : (u : Use) → (IsRightDot m k u → ⊥) → (x y : Sym) × IsDotOf u (record { of = Some x; name = y })
  dot_is (Alone x) wrong = absurd (wrong tt)
  dot_is (Bound x c) wrong = absurd (wrong tt)
  dot_is (Called c) wrong = absurd (wrong tt)
  dot_is (Dotted x y) wrong = (x, y, refl)

-- ways to a goal
module _ (next : Sym → List Sym) (goal : Sym) where
  leads_dec : (n : ℕ) (a : Sym) → Decided (LeadsTo next goal n a)
  leads_dec zero a = same_dec a goal
  leads_dec (suc n) a = any_dec (LeadsTo next goal n) (leads_dec n) (next a)

  -- the name doesn't lead to the goal by fewer than i mentions
  abbrev IsFar : ℕ → Sym → Type 0
  IsFar i c = (j : ℕ) → j < i → LeadsTo next goal j c → ⊥

  far_next : (i : ℕ) (c : Sym) → IsFar i c → (LeadsTo next goal i c → ⊥) → IsFar (suc i) c
  far_next i c far none j below way =
      elim (before_or_at j i below) [
        | inl l ↦ far j l way
        | inr e ↦ none (subst (λ z. LeadsTo next goal z c) e way)
      ]

  far_most : (i : ℕ) (c : Sym) → IsFar i c → (j : ℕ) → LeadsTo next goal j c → i ≤ j
  far_most i c far j way = by (order i j)
    where
      order : (a b : ℕ) → (a ≤ b) ⊎ (b < a)
      order zero b = inl (omega arith)
      order (suc a) zero = inr (omega arith)
      order (suc a) (suc b) = elim (order a b) [ inl l ↦ inl (omega (arith, l)) | inr l ↦ inr (omega (arith, l)) ]

      by : (i ≤ j) ⊎ (j < i) → i ≤ j
      by (inl l) = l
      by (inr l) = absurd (far j l way)

  abbrev IsNone : ℕ → Sym → Type 0
  IsNone i c = LeadsTo next goal i c → ⊥

  found : (i : ℕ) (names : List Sym) → Each (IsFar i) names → (b : Sym) → IsFirstWithout (IsNone i) names b → Decided (LeadsTo next goal i b) → (c : Sym) × IsFirstNearest next goal names c
  found i names far b (before, after, parts, each, wrong) (inr never) = absurd (wrong never)
  found i names far b (before, after, parts, each, wrong) (inl way) = (b, (before, after, i, parts, way, less, most))
    where
      less : Each (λ c. (j : ℕ) → LeadsTo next goal j c → i < j) before
      less =
          Each-members (λ c. (j : ℕ) → LeadsTo next goal j c → i < j) before
          (λ c there j w.
          let far_c = Each-at (IsFar i) names c far (subst (λ z. IsAmong z c) (sym parts) (IsAmong-append_left before (b ∷ after) c there)) in
          let h = far_most (suc i) c (far_next i c far_c (Each-at (IsNone i) before c each there)) j w in
          omega (arith, h))

      most : Each (λ c. (j : ℕ) → LeadsTo next goal j c → i ≤ j) (b ∷ after)
      most =
          Each-members (λ c. (j : ℕ) → LeadsTo next goal j c → i ≤ j) (b ∷ after)
          (λ c there j w. far_most i c (Each-at (IsFar i) names c far (subst (λ z. IsAmong z c) (sym parts) (IsAmong-append_right before (b ∷ after) c there))) j w)

  -- where none of the names leads by fewer than i mentions, one of them is the nearest, by i, or none leads by i
  level : (i : ℕ) (names : List Sym) → Each (IsFar i) names → ((b : Sym) × IsFirstNearest next goal names b) ⊎ Each (IsFar (suc i)) names
  level i names far =
      elim (first_dec (IsNone i) (λ c. not_dec (leads_dec i c)) names) [
        | inl each ↦ inr (Each-members (IsFar (suc i)) names (λ c among. far_next i c (Each-at (IsFar i) names c far among) (Each-at (IsNone i) names c each among)))
        | inr first ↦ inl (found i names far first.0 first.1 (leads_dec i first.0))
      ]

  -- where one of the names leads to the goal, one is the nearest
  nearest : (names : List Sym) (left i n : ℕ) (b : Sym) → left + i ≡ n → IsAmong names b → LeadsTo next goal n b → Each (IsFar i) names → (c : Sym) × IsFirstNearest next goal names c
  nearest names zero i n b sum among way far =
      elim (level i names far) [
        | inl near ↦ near
        | inr more ↦ absurd (Each-at (IsFar (suc i)) names b more among n (omega (arith, sum)) way)
      ]
  nearest names (suc left) i n b sum among way far =
      elim (level i names far) [
        | inl near ↦ near
        | inr more ↦ nearest names left (suc i) n b (omega (arith, sum)) among way more
      ]

  nearest_of : (names : List Sym) (n : ℕ) (b : Sym) → IsAmong names b → LeadsTo next goal n b → (c : Sym) × IsFirstNearest next goal names c
  nearest_of names n b among way = nearest names n 0 n b (omega arith) among way (Each-members (IsFar 0) names (λ c i j below w. absurd (omega (arith, below))))

  nearest_most : (names : List Sym) (c b : Sym) (n : ℕ) (near : IsFirstNearest next goal names c) → IsAmong names b → LeadsTo next goal n b → near.2 ≤ n
  nearest_most names c b n (before, after, i, parts, lead, less, most) among way =
      elim (IsAmong-append before (c ∷ after) b (subst (λ z. IsAmong z b) parts among)) [
        | inl p ↦ (let h = Each-at (λ x. (j : ℕ) → LeadsTo next goal j x → i < j) before b less p n way in omega (arith, h))
        | inr p ↦ Each-at (λ x. (j : ℕ) → LeadsTo next goal j x → i ≤ j) (c ∷ after) b most p n way
      ]

  -- one step of the way back, where the rest is found from a name that is nearer
  way_step : (fuel : ℕ) (a b : Sym) (near : IsFirstNearest next goal (next a) b) → near.2 < suc fuel
      → ((a b : Sym) (near : IsFirstNearest next goal (next a) b) → near.2 < fuel → (bs : List Sym) × IsWayBack next goal a bs) → (bs : List Sym) × IsWayBack next goal a bs
  way_step fuel a b near below rest = by (compared b goal)
    where
      on : (n : ℕ) → near.2 ≡ n → LeadsTo next goal n b → (b ≡ goal → ⊥) → (bs : List Sym) × IsWayBack next goal a bs
      on zero e way other = absurd (other way)
      on (suc n) e (c, call, more) other =
          let r = nearest_of (next b) n c call more in
          let most = nearest_most (next b) r.0 c n r.1 call more in
          let w = rest b r.0 r.1 (omega (arith, most, e, below)) in
          (b ∷ w.0, (near, other, w.1))

      by : Compared b goal → (bs : List Sym) × IsWayBack next goal a bs
      by (same_name e) = ([], subst (IsFirstNearest next goal (next a)) e near)
      by (other_name o) = on near.2 refl near.4 o

  -- from a nearest name on there is a way back
  way_from : (fuel : ℕ) (a b : Sym) (near : IsFirstNearest next goal (next a) b) → near.2 < fuel → (bs : List Sym) × IsWayBack next goal a bs
  way_from zero a b near below = absurd (omega (arith, below))
  way_from (suc fuel) a b near below = way_step fuel a b near below (way_from fuel)

  cycle_from : (n : ℕ) → LeadsTo next goal (suc n) goal → (names : List Sym) × IsCycle next goal names
  cycle_from n (b, call, more) =
      let r = nearest_of (next goal) n b call more in
      let w = way_from (suc r.1.2) goal r.0 r.1 (omega arith) in
      (goal ∷ w.0, (w.0, refl, w.1))

  -- the names on a way from the first of them, without the goal
  IsPath : Sym → List Sym → Type 0
  IsPath a [] = a ≡ goal
  IsPath a (x ∷ xs) = (x ≡ a) × ((b : Sym) × IsAmong (next a) b × IsPath b xs)

  path_leads : (a : Sym) (xs : List Sym) → IsPath a xs → LeadsTo next goal (length xs) a
  unfolding IsPath
  path_leads a [] e = e
  path_leads a (x ∷ xs) (e, (b, call, more)) = (b, call, path_leads b xs more)

  cut : (a b : Sym) (xs : List Sym) → IsAmong xs a → IsPath b xs → NoneTwice xs → (ys : List Sym) × IsPath a ys × NoneTwice ys
  unfolding IsPath
  cut a b [] i path once = absurd i
  cut a b (x ∷ xs) (inl e) (is, more) once = (x ∷ xs, (sym e, subst (λ z. (b : Sym) × IsAmong (next z) b × IsPath b xs) (sym (e ∙ is)) more), once)
  cut a b (x ∷ xs) (inr i) (is, (c, call, more)) once = cut a c xs i more once.1

  -- each way has one on which no name stands twice
  short : (n : ℕ) (a : Sym) → LeadsTo next goal n a → (xs : List Sym) × IsPath a xs × NoneTwice xs
  unfolding IsPath
  short zero a e = ([], e, tt)
  short (suc n) a (b, call, more) =
      let r = short n b more in
      elim (among_dec r.0 a) [
        | inl i ↦ cut a b r.0 i r.1 r.2
        | inr new ↦ (a ∷ r.0, (refl, (b, call, r.1)), (new, r.2))
      ]

  path_each : (P : Sym → Type 0) → ((a b : Sym) → IsAmong (next a) b → P a) → (a : Sym) (xs : List Sym) → IsPath a xs → Each P xs
  unfolding IsPath
  path_each P callers a [] path = tt
  path_each P callers a (x ∷ xs) (is, (b, call, more)) = (subst P (sym is) (callers a b call), path_each P callers b xs more)

  up_to : (n : ℕ) → Decided ((i : ℕ) × (i < n) × LeadsTo next goal (suc i) goal)
  up_to zero = inr (λ h. let l = h.1 in omega (arith, l))
  up_to (suc n) = by (up_to n) (leads_dec (suc n) goal)
    where
      by : Decided ((i : ℕ) × (i < n) × LeadsTo next goal (suc i) goal) → Decided (LeadsTo next goal (suc n) goal) → Decided ((i : ℕ) × (i < suc n) × LeadsTo next goal (suc i) goal)
      by (inl (i, l, way)) d = inl (i, omega (arith, l), way)
      by (inr none) (inl way) = inl (n, omega arith, way)
      by (inr none) (inr last) = inr (λ h. elim (before_or_at h.0 n h.1) [ inl l ↦ none (h.0, l, h.2) | inr e ↦ last (subst (λ z. LeadsTo next goal (suc z) goal) e h.2) ])

-- a class leads back to itself by no more mentions than there are items, or not at all
no_more : (m : List Item) (c : Sym) (n : ℕ) → LeadsTo (mentioned m) c (suc n) c → (i : ℕ) × (i < suc (length m)) × LeadsTo (mentioned m) c (suc i) c
no_more m c n (b, call, more) =
    let r = short (mentioned m) c n b more in
    let stand = path_each (mentioned m) c (StandsIn m) (stands_by m) b r.0 r.1 in
    let within : IsWithin r.0 (gathered class_name m) = λ x i. stands-class_names m x (Each-at (StandsIn m) r.0 x stand i) in
    let h = length-within r.0 (gathered class_name m) r.2 within in
    let l = length-class_names m in
    (length r.0, omega (arith, h, l), (b, call, path_leads (mentioned m) c b r.0 r.1))

cycle_dec : (m : List Item) (c : Sym) → HasNoWayBack (mentioned m) c ⊎ ((names : List Sym) × IsCycle (mentioned m) c names)
cycle_dec m c =
    elim (up_to (mentioned m) c (suc (length m))) [
      | inl h ↦ inr (cycle_from (mentioned m) c h.0 h.2)
      | inr none ↦ inl (λ n way. none (no_more m c n way))
    ]

-- an item keeps the rules or has a first fault
module _ (m done : List Item) (k : Class) where
  names_dec : HasRightNames m done k ⊎ ((f : ScopeRefusal) × IsFaultOf m done (item.Class k) f)
  names_dec = by (first_dec (IsThere m) (there_dec m) (mentions k)) (stands_dec done k.name) (cycle_dec m k.name)
    where
      by : Each (IsThere m) (mentions k) ⊎ ((c : Sym) × IsFirstWithout (IsThere m) (mentions k) c) → Decided (StandsIn done k.name)
          → HasNoWayBack (mentioned m) k.name ⊎ ((names : List Sym) × IsCycle (mentioned m) k.name names) → HasRightNames m done k ⊎ ((f : ScopeRefusal) × IsFaultOf m done (item.Class k) f)
      by (inr (c, first)) s w = inr (UnknownClass c, unknown_fault m done k c first)
      by (inl there) (inl stands) w = inr (DuplicateClass k.name, duplicate_fault m done k there stands)
      by (inl there) (inr fresh) (inr (names, cycle)) = inr (ClassCycle names, cycle_fault m done k names there fresh cycle)
      by (inl there) (inr fresh) (inl none) = inl (record { there = there; fresh = fresh; no_way_back = none })

  class_dec : IsRightItem m done (item.Class k) ⊎ ((f : ScopeRefusal) × IsFaultOf m done (item.Class k) f)
  class_dec =
      by names_dec (first_dec (IsRightUse m k) (use_dec m k) (uses_of k)) (first_dec (IsRightExport m k) (export_dec m k) k.exports) (first_dec (IsRightDot m k) (dot_dec m k) (uses_of k))
    where
      by : HasRightNames m done k ⊎ ((f : ScopeRefusal) × IsFaultOf m done (item.Class k) f) → Each (IsRightUse m k) (uses_of k) ⊎ ((u : Use) × IsFirstWithout (IsRightUse m k) (uses_of k) u)
          → Each (IsRightExport m k) k.exports ⊎ ((x : Sym) × IsFirstWithout (IsRightExport m k) k.exports x)
          → Each (IsRightDot m k) (uses_of k) ⊎ ((u : Use) × IsFirstWithout (IsRightDot m k) (uses_of k) u) → IsRightItem m done (item.Class k) ⊎ ((f : ScopeRefusal) × IsFaultOf m done (item.Class k) f)
      by (inr fault) u e d = inr fault
      by (inl names) (inr (u, (before, after, parts, each, wrong))) e d =
          inr (UndeclaredVariable k.name (record { of = None; name = variable_in u }), variable_fault m done k (variable_in u) names (u, printed_is m k u wrong, (before, after, parts, each, wrong)))
      by (inl names) (inl uses) (inr (x, first)) d = inr (NotExported k.name (record { of = None; name = x }), export_fault m done k x names uses first)
      by (inl names) (inl uses) (inl exports) (inr (u, (before, after, parts, each, wrong))) =
          let is = dot_is m k u wrong in
          inr (NotExported k.name (record { of = Some is.0; name = is.1 }), dot_fault m done k is.0 is.1 names uses exports (u, is.2, (before, after, parts, each, wrong)))
      by (inl names) (inl uses) (inl exports) (inl dots) = inl (names, record { uses = uses; exports = exports; dots = dots })

item_dec : (m done : List Item) (i : Item) → IsRightItem m done i ⊎ ((f : ScopeRefusal) × IsFaultOf m done i f)
item_dec m done (item.Class k) = class_dec m done k
item_dec m done (item.Value v) = elim (there_dec m v) [ inl there ↦ inl there | inr none ↦ inr (UnknownClass v, unknown_value m done v none) ]
item_dec m done (item.Header h) = inl tt

answered_from : (m : List Item) (left place : ℕ) → left + place ≡ length m → AreRightTo m place → IsScoped m ⊎ ((f : ScopeRefusal) × IsFirstFault m f)
answered_from m zero place sum right = inl (scoped m place (omega (arith, sum)) right)
answered_from m (suc left) place sum right =
    let i = item_exists m place (omega (arith, sum)) in
    elim (item_dec m (take place m) i.0) [
      | inl fine ↦ answered_from m left (place + 1) (omega (arith, sum)) (right_more m place right (λ j at. subst (IsRightItem m (take place m)) (same_Some i.0 j (sym i.1 ∙ at)) fine))
      | inr fault ↦ inr (fault.0, first_fault m place i.0 fault.0 right i.1 fault.1)
    ]

-- a metagrammar keeps all rules, or it has a first fault
pub answered : (m : List Item) → IsScoped m ⊎ ((f : ScopeRefusal) × IsFirstFault m f)
answered m = answered_from m (length m) 0 (omega arith) (λ n i below at. absurd (omega (arith, below)))
