-- From the tests of the items to the first fault, or to a metagrammar that keeps all rules.
use Rattle.std.specs.Prelude.{◌≡◌, ℕ, zero, suc, ◌+◌, ◌<◌, ◌≤◌, List, [], ◌∷◌, ◌++◌, length, take, drop, Bool, true, false, ◌==◌, if◌then◌else◌, Option, Some, None, ◌⊎◌, ◌↔◌, slice_get, get_or, Result, Ok, Err, IfErr}
use Rattle.std.proofs.Common.{inl, inr, refl, ap, sym, ◌∙◌, subst, arith, append_assoc, true≢false}
use Rattle.std.proofs.lemmas.List.{take_all}
use Rattle.std.proofs.lemmas.Option.{none-some, same_Some, slice_get-get_or, slice_get_within}
use Rattle.gr_base.specs.Lists.{IsAmong, Each}
use Rattle.gr_base.proofs.ListLemmas.{same_head, same_tail, IsAmong-append_left, IsAmong-append_right, IsAmong-append, IsAmong-slice_get, slice_get-IsAmong, slice_get-append_left, Each-at, Each-members, cons-not_nil}
use Rattle.gr_terms.specs.declared.Sym.{Sym}
use Rattle.mg_syntax.specs.declared.item.Class.{Class}
use Rattle.mg_syntax.specs.declared.item.Item.{Item}
use Rattle.mg_syntax.specs.declared.item.Item.TheVariants as item
use Rattle.mg_scope.specs.declared.uses.Use.{Use}
use Rattle.mg_scope.specs.declared.refusal.ScopeRefusal.{ScopeRefusal}
use Rattle.mg_scope.specs.declared.refusal.ScopeRefusal.TheVariants.{UnknownClass, ClassCycle, DuplicateClass, UndeclaredVariable, NotExported, Memory}
use Rattle.mg_scope.specs.Classes.{class_of, mentions, mentioned, uses_of}
use Rattle.mg_scope.specs.Cycles.{LeadsTo, HasNoCycle, IsFirstNearest, IsWayBack, IsCycle}
use Rattle.mg_scope.specs.Faults.{IsFirstWithout, StandsIn, IsThere, IsRightUse, IsRightExport, IsRightDot, IsVariableOf, IsDotOf, HasClassFault, HasFault, code, IsFaultOf, AreRight, IsFirstFault, IsScoped}
use Rattle.mg_scope.specs.Directories.{IsFirstPlace, IsPlace}
use Rattle.mg_scope.specs.Variables.{IsFirstWrongUse}
use Rattle.mg_scope.specs.Checks.{HasNoWayBack, HasRightNames, HasRightVariables, IsRightItem, AreRightTo, IsItemRefusal}
use Rattle.mg_scope.proofs.TableLemmas.{same_number}
use Rattle.mg_scope.proofs.ClassLemmas.{class_same, class_of-first, class_of-none, class_of-stands, slice_get-at}
use Rattle.mg_scope.proofs.CallerLemmas.{mentioned_by}
use Rattle.mg_scope.proofs.LoopLemmas.{split_at}

-- no element without the property is the first one where each has it
pub not_without : {A : Type 0} (P : A → Type 0) (xs : List A) (x : A) → Each P xs → IsFirstWithout P xs x → ⊥
not_without P xs x each (before, after, parts, fine, wrong) =
    wrong (Each-at P xs x each (subst (λ z. IsAmong z x) (sym parts) (IsAmong-append_right before (x ∷ after) x (inl refl))))

nearest_among : (next : Sym → List Sym) (goal b : Sym) (names : List Sym) → IsFirstNearest next goal names b → IsAmong names b
nearest_among next goal b names (before, after, n, parts, way, less, most) =
    subst (λ z. IsAmong z b) (sym parts) (IsAmong-append_right before (b ∷ after) b (inl refl))

-- a way back leads back
pub way_leads : (next : Sym → List Sym) (goal a : Sym) (bs : List Sym) → IsWayBack next goal a bs → (n : ℕ) × LeadsTo next goal (suc n) a
way_leads next goal a [] near = (0, (goal, nearest_among next goal goal (next a) near, refl))
way_leads next goal a (b ∷ bs) (near, other, more) =
    let r = way_leads next goal b bs more in
    (suc r.0, (b, nearest_among next goal b (next a) near, r.1))

no_cycle_of : (next : Sym → List Sym) (c : Sym) (names : List Sym) → HasNoWayBack next c → IsCycle next c names → ⊥
no_cycle_of next c names none (others, is, way) = let r = way_leads next c c others way in none r.0 r.1

module _ (m done : List Item) (k : Class) where
  -- each fault of a class, where those of lower codes are none
  pub unknown_fault : (c : Sym) → IsFirstWithout (IsThere m) (mentions k) c → IsFaultOf m done (item.Class k) (UnknownClass c)
  unknown_fault c first = (first, least)
    where
      least : (g : ScopeRefusal) → HasClassFault m done k g → 13 ≤ code g
      least (UnknownClass d) h = omega arith
      least (ClassCycle names) h = omega arith
      least (DuplicateClass d) h = omega arith
      least (UndeclaredVariable d r) h = omega arith
      least (NotExported d r) h = omega arith
      least Memory h = absurd h

  pub duplicate_fault : Each (IsThere m) (mentions k) → StandsIn done k.name → IsFaultOf m done (item.Class k) (DuplicateClass k.name)
  duplicate_fault there stands = ((refl, stands), least)
    where
      least : (g : ScopeRefusal) → HasClassFault m done k g → 15 ≤ code g
      least (UnknownClass d) h = absurd (not_without (IsThere m) (mentions k) d there h)
      least (ClassCycle names) h = absurd (h.0 stands)
      least (DuplicateClass d) h = omega arith
      least (UndeclaredVariable d r) h = omega arith
      least (NotExported d r) h = omega arith
      least Memory h = absurd h

  pub cycle_fault : (names : List Sym) → Each (IsThere m) (mentions k) → (StandsIn done k.name → ⊥) → IsCycle (mentioned m) k.name names → IsFaultOf m done (item.Class k) (ClassCycle names)
  cycle_fault names there fresh cycle = ((fresh, cycle), least)
    where
      least : (g : ScopeRefusal) → HasClassFault m done k g → 14 ≤ code g
      least (UnknownClass d) h = absurd (not_without (IsThere m) (mentions k) d there h)
      least (ClassCycle others) h = omega arith
      least (DuplicateClass d) h = omega arith
      least (UndeclaredVariable d r) h = omega arith
      least (NotExported d r) h = omega arith
      least Memory h = absurd h

  pub variable_fault : (x : Sym) → HasRightNames m done k → IsFirstWrongUse m k (uses_of k) x → IsFaultOf m done (item.Class k) (UndeclaredVariable k.name (record { of = None; name = x }))
  variable_fault x names wrong = ((refl, wrong.0, wrong.1, wrong.2), least)
    where
      least : (g : ScopeRefusal) → HasClassFault m done k g → 16 ≤ code g
      least (UnknownClass d) h = absurd (not_without (IsThere m) (mentions k) d names.there h)
      least (ClassCycle others) h = absurd (no_cycle_of (mentioned m) k.name others names.no_way_back h.1)
      least (DuplicateClass d) h = absurd (names.fresh (subst (StandsIn done) (sym h.0) h.1))
      least (UndeclaredVariable d r) h = omega arith
      least (NotExported d r) h = omega arith
      least Memory h = absurd h

  export_least : HasRightNames m done k → Each (IsRightUse m k) (uses_of k) → (g : ScopeRefusal) → HasClassFault m done k g → 17 ≤ code g
  export_least names uses (UnknownClass d) h = absurd (not_without (IsThere m) (mentions k) d names.there h)
  export_least names uses (ClassCycle others) h = absurd (no_cycle_of (mentioned m) k.name others names.no_way_back h.1)
  export_least names uses (DuplicateClass d) h = absurd (names.fresh (subst (StandsIn done) (sym h.0) h.1))
  export_least names uses (UndeclaredVariable d r) h = absurd (not_without (IsRightUse m k) (uses_of k) h.1 uses h.3)
  export_least names uses (NotExported d r) h = omega arith
  export_least names uses Memory h = absurd h

  pub export_fault : (x : Sym) → HasRightNames m done k → Each (IsRightUse m k) (uses_of k) → IsFirstWithout (IsRightExport m k) k.exports x
      → IsFaultOf m done (item.Class k) (NotExported k.name (record { of = None; name = x }))
  export_fault x names uses wrong = ((refl, inl (refl, wrong)), export_least names uses)

  pub dot_fault : (x y : Sym) → HasRightNames m done k → Each (IsRightUse m k) (uses_of k) → Each (IsRightExport m k) k.exports
      → (u : Use) × IsDotOf u (record { of = Some x; name = y }) × IsFirstWithout (IsRightDot m k) (uses_of k) u
      → IsFaultOf m done (item.Class k) (NotExported k.name (record { of = Some x; name = y }))
  dot_fault x y names uses exports wrong = ((refl, inr (exports, wrong)), export_least names uses)

-- an item that keeps the rules has no fault
pub right_has_none : (m done : List Item) (i : Item) → IsRightItem m done i → (f : ScopeRefusal) → HasFault m done i f → ⊥
right_has_none m done (item.Class k) right (UnknownClass c) h = not_without (IsThere m) (mentions k) c right.0.there h
right_has_none m done (item.Class k) right (ClassCycle names) h = no_cycle_of (mentioned m) k.name names right.0.no_way_back h.1
right_has_none m done (item.Class k) right (DuplicateClass c) h = right.0.fresh (subst (StandsIn done) (sym h.0) h.1)
right_has_none m done (item.Class k) right (UndeclaredVariable c r) h = not_without (IsRightUse m k) (uses_of k) h.1 right.1.uses h.3
right_has_none m done (item.Class k) right (NotExported c r) (named, inl h) = not_without (IsRightExport m k) k.exports r.name right.1.exports h.1
right_has_none m done (item.Class k) right (NotExported c r) (named, inr h) = not_without (IsRightDot m k) (uses_of k) h.1.0 right.1.dots h.1.2
right_has_none m done (item.Class k) right Memory h = h
right_has_none m done (item.Value v) right (UnknownClass c) h = h.1 (subst (IsThere m) h.0 right)
right_has_none m done (item.Value v) right (ClassCycle names) h = h
right_has_none m done (item.Value v) right (DuplicateClass c) h = h
right_has_none m done (item.Value v) right (UndeclaredVariable c r) h = h
right_has_none m done (item.Value v) right (NotExported c r) h = h
right_has_none m done (item.Value v) right Memory h = h
right_has_none m done (item.Header x) right f h = h

pub unknown_value : (m done : List Item) (v : Sym) → (IsThere m v → ⊥) → IsFaultOf m done (item.Value v) (UnknownClass v)
unknown_value m done v none = ((refl, none), least)
  where
    least : (g : ScopeRefusal) → HasFault m done (item.Value v) g → 13 ≤ code g
    least (UnknownClass d) h = omega arith
    least (ClassCycle names) h = absurd h
    least (DuplicateClass d) h = absurd h
    least (UndeclaredVariable d r) h = absurd h
    least (NotExported d r) h = absurd h
    least Memory h = absurd h

-- the front of a list, before a place
take_front : {A : Type 0} (done rest : List A) → take (length done) (done ++ rest) ≡ done
take_front [] rest = refl
take_front (x ∷ done) rest = ap (λ z. x ∷ z) (take_front done rest)

front_place : {A : Type 0} (m done rest : List A) (i : A) (place : ℕ) → take place m ≡ done ++ i ∷ rest → (length done < place) × (slice_get m (length done) ≡ Some i) × (take (length done) m ≡ done)
front_place m [] rest i zero e = absurd (cons-not_nil i rest (sym e))
front_place m (d ∷ done) rest i zero e = absurd (cons-not_nil d (done ++ i ∷ rest) (sym e))
front_place [] [] rest i (suc place) e = absurd (cons-not_nil i rest (sym e))
front_place [] (d ∷ done) rest i (suc place) e = absurd (cons-not_nil d (done ++ i ∷ rest) (sym e))
front_place (x ∷ m) [] rest i (suc place) e = (omega arith, ap Some (same_head x i (take place m) rest e), refl)
front_place (x ∷ m) (d ∷ done) rest i (suc place) e =
    let r = front_place m done rest i place (same_tail x d (take place m) (done ++ i ∷ rest) e) in
    let h = r.0 in
    (omega (arith, h), r.1, ap (λ z. x ∷ z) r.2 ∙ ap (λ z. z ∷ done) (same_head x d (take place m) (done ++ i ∷ rest) e))

pub right_before : (m : List Item) (place : ℕ) → AreRightTo m place → AreRight m (take place m)
right_before m place right done rest i f parts fault =
    let p = front_place m done rest i place parts in
    right_has_none m (take (length done) m) i (right (length done) i p.0 p.1) f (subst (λ z. HasFault m z i f) (sym p.2) fault)

pub first_fault : (m : List Item) (place : ℕ) (i : Item) (f : ScopeRefusal) → AreRightTo m place → slice_get m place ≡ Some i → IsFaultOf m (take place m) i f → IsFirstFault m f
first_fault m place i f right at fault =
    let within = slice_get_within m place i at in
    let here : get_or m place i ≡ i = same_Some _ _ (sym (slice_get-get_or m place i within) ∙ at) in
    (take place m, drop (suc place) m, i, split_at m place i within ∙ ap (λ z. take place m ++ z ∷ drop (suc place) m) here, fault, right_before m place right)

pub right_more : (m : List Item) (place : ℕ) → AreRightTo m place → ((i : Item) → slice_get m place ≡ Some i → IsRightItem m (take place m) i) → AreRightTo m (place + 1)
right_more m place right here n i below at = by (split n place (omega (arith, below)))
  where
    split : (n p : ℕ) → n ≤ p → (n ≡ p) ⊎ (n < p)
    split zero zero h = inl refl
    split zero (suc p) h = inr (omega arith)
    split (suc n) zero h = absurd (omega (arith, h))
    split (suc n) (suc p) h = elim (split n p (omega (arith, h))) [ inl e ↦ inl (ap suc e) | inr l ↦ inr (omega (arith, l)) ]

    by : (n ≡ place) ⊎ (n < place) → IsRightItem m (take n m) i
    by (inl e) = subst (λ k. IsRightItem m (take k m) i) (sym e) (here i (ap (slice_get m) (sym e) ∙ at))
    by (inr l) = right n i l at

-- a class that stands among the items is there
no_class : (m : List Item) (c : Sym) → class_of m c ≡ None → StandsIn m c → ⊥
no_class [] c none s = s.1
no_class (item.Class j ∷ m) c none s = by (j.name.0 == c.0) refl (no_class m c)
  where
    by : (b : Bool) → (j.name.0 == c.0) ≡ b → (class_of m c ≡ None → StandsIn m c → ⊥) → ⊥
    by true e more = none-some j (sym none ∙ ap (λ b. if b then Some j else class_of m c) e)
    by false e more = elim s.1 [
      | inl p ↦ (let h : j.name.0 ≡ c.0 = ap (λ (z : Sym). z.0) (ap (λ (z : Class). z.name) (sym (class_same s.0 j p)) ∙ s.2) in true≢false (sym (same_number j.name.0 c.0 h) ∙ e))
      | inr i ↦ more (sym (ap (λ b. if b then Some j else class_of m c) e) ∙ none) (s.0, i, s.2)
    ]
no_class (item.Value v ∷ m) c none s = elim s.1 [ inl p ↦ absurd (value_class s.0 v p) | inr i ↦ no_class m c none (s.0, i, s.2) ]
  where
    value_class : (k : Class) (v : Sym) → item.Class k ≡ item.Value v → ⊥
    value_class k v e = cc
no_class (item.Header x ∷ m) c none s = elim s.1 [ inl p ↦ absurd (header_class s.0 p) | inr i ↦ no_class m c none (s.0, i, s.2) ]
  where
    header_class : (k : Class) → item.Class k ≡ item.Header x → ⊥
    header_class k e = cc

pub stands_there : (m : List Item) (c : Sym) → StandsIn m c → IsThere m c
stands_there m c stands = by (class_of m c) refl
  where
    by : (r : Option Class) → class_of m c ≡ r → IsThere m c
    by None e = absurd (no_class m c e stands)
    by (Some k) e = (k, e)

pub scoped : (m : List Item) (place : ℕ) → length m ≤ place → AreRightTo m place → IsScoped m
scoped m place all right = record {
  valued = λ c i. at (item.Value c) i;
  there = λ k i. (at (item.Class k) i).0.there;
  no_cycle = no_cycle;
  once = once;
  uses = λ k i. (at (item.Class k) i).1.uses;
  exports = λ k i. (at (item.Class k) i).1.exports;
  dots = λ k i. (at (item.Class k) i).1.dots;
}
  where
    spot : (i : Item) → IsAmong m i → (n : ℕ) × (slice_get m n ≡ Some i)
    spot i among = slice_get-IsAmong m i among

    at : (i : Item) (among : IsAmong m i) → IsRightItem m (take (spot i among).0 m) i
    at i among = let n = (spot i among).0 in let w = slice_get_within m n i (spot i among).1 in right n i (omega (arith, w, all)) (spot i among).1

    no_cycle : HasNoCycle (mentioned m)
    no_cycle c n way =
        let k = mentioned_by m c way.0 way.1 in
        let s = class_of-stands m c k.0 k.1 in
        (at (item.Class k.0) s.0).0.no_way_back n (subst (λ z. LeadsTo (mentioned m) z (suc n) z) (sym s.1) way)

    once : (done rest : List Item) (k : Class) → m ≡ done ++ item.Class k ∷ rest → StandsIn done k.name → ⊥
    once done rest k parts stands =
        let here : slice_get m (length done) ≡ Some (item.Class k) = ap (λ z. slice_get z (length done)) parts ∙ slice_get-at done rest (item.Class k) (length done) refl in
        let w = slice_get_within m (length done) (item.Class k) here in
        let front : take (length done) m ≡ done = ap (take (length done)) parts ∙ take_front done (item.Class k ∷ rest) in
        (right (length done) (item.Class k) (omega (arith, w, all)) here).0.fresh (subst (λ z. StandsIn z k.name) (sym front) stands)

-- the first place of a name is this one where no class before it has the name, and else one before it
compare : (a b : ℕ) → (a ≡ b) ⊎ ((a < b) ⊎ (b < a))
compare zero zero = inl refl
compare zero (suc b) = inr (inl (omega arith))
compare (suc a) zero = inr (inr (omega arith))
compare (suc a) (suc b) = elim (compare a b) [ inl e ↦ inl (ap suc e) | inr o ↦ inr (elim o [ inl l ↦ inl (omega (arith, l)) | inr l ↦ inr (omega (arith, l)) ]) ]

earlier : {A : Type 0} (x : A) (xs ys : List A) (n : ℕ) → n < length xs → slice_get (xs ++ ys) n ≡ Some x → IsAmong xs x
earlier x [] ys n w e = absurd (omega (arith, w))
earlier x (z ∷ xs) ys zero w e = inl (sym (same_Some z x e))
earlier x (z ∷ xs) ys (suc n) w e = inr (earlier x xs ys n (omega (arith, w)) e)

later : {A : Type 0} (x : A) (xs ys : List A) (n : ℕ) → length xs < n → IsAmong (take n (xs ++ x ∷ ys)) x
later x [] ys zero w = absurd (omega (arith, w))
later x [] ys (suc n) w = inl refl
later x (z ∷ xs) ys zero w = absurd (omega (arith, w))
later x (z ∷ xs) ys (suc n) w = inr (later x xs ys n (omega (arith, w)))

pub first_yes : (m : List Item) (c : Sym) (first place : ℕ) → IsFirstPlace m c first → first ≡ place → StandsIn (take place m) c → ⊥
first_yes m c first place (before, after, j, parts, count, has, new) e stands =
    let front : take place m ≡ before = ap (λ n. take n m) (sym (count ∙ e)) ∙ ap (take (length before)) parts ∙ take_front before (item.Class j ∷ after) in
    new (subst (λ z. StandsIn z c) front stands)

pub first_no : (m : List Item) (c : Sym) (first place : ℕ) (k : Class) → slice_get m place ≡ Some (item.Class k) → k.name ≡ c → IsFirstPlace m c first → (first ≡ place → ⊥) → StandsIn (take place m) c
first_no m c first place k at named (before, after, j, parts, count, has, new) other = by (compare first place)
  where
    by : (first ≡ place) ⊎ ((first < place) ⊎ (place < first)) → StandsIn (take place m) c
    by (inl e) = absurd (other e)
    by (inr (inl l)) = (j, subst (λ z. IsAmong (take place z) (item.Class j)) (sym parts) (later (item.Class j) before after place (omega (arith, l, count))), has)
    by (inr (inr l)) = absurd (new (k, earlier (item.Class k) before (item.Class j ∷ after) place (omega (arith, l, count)) (ap (λ z. slice_get z place) (sym parts) ∙ at), named))

-- what stands at a place is read there
pub item_at : (items m : List Item) (place : ℕ) (d it i : Item) → items ≡ m → place < length m → get_or items place d ≡ it → slice_get m place ≡ Some i → it ≡ i
item_at items m place d it i same within is at =
    same_Some it i (ap Some (sym is ∙ ap (λ z. get_or z place d) same) ∙ sym (slice_get-get_or m place d within) ∙ at)

-- what is said of a failure, weakened
pub on_err : {T E : Type 0} {P Q : E → Type 0} (r : Result T E) → ((e : E) → P e → Q e) → IfErr r P → IfErr r Q
on_err (Ok x) f h = tt
on_err (Err e) f h = f e h

-- a place below the end has an item
pub item_exists : (m : List Item) (place : ℕ) → place < length m → (i : Item) × (slice_get m place ≡ Some i)
item_exists [] place w = absurd (omega (arith, w))
item_exists (x ∷ m) zero w = (x, refl)
item_exists (x ∷ m) (suc place) w = item_exists m place (omega (arith, w))

pub first_refusal : (d m : List Item) (place : ℕ) (e : ScopeRefusal) → d ≡ m → place < length m → AreRightTo m place
    → ((i : Item) → slice_get d place ≡ Some i → IsItemRefusal d (take place d) i e) → (e ≡ Memory → ⊥) → IsFirstFault m e
first_refusal d m place e same within right refused other =
    let refused_m = subst (λ z. (i : Item) → slice_get z place ≡ Some i → IsItemRefusal z (take place z) i e) same refused in
    let i = item_exists m place within in
    first_fault m place i.0 e right i.1 (refused_m i.0 i.1 other)

pub next_right : (d m : List Item) (place : ℕ) → d ≡ m → AreRightTo m place → ((i : Item) → slice_get d place ≡ Some i → IsRightItem d (take place d) i) → AreRightTo m (place + 1)
next_right d m place same right here = right_more m place right (subst (λ z. (i : Item) → slice_get z place ≡ Some i → IsRightItem z (take place z) i) same here)
