-- The relations that are tested when a node is added.
use Rattle.std.specs.Prelude.{◌≡◌, ℕ, zero, suc, ◌+◌, ◌<◌, ◌≤◌, List, [], ◌∷◌, ◌++◌, Bool, true, false, ◌==◌, nat_lt, Some, length, filter, max, take, slice_get, refl}
use Rattle.std.proofs.Common.{inl, inr, subst, sym, ap, ◌∙◌, arith, rules, get_or}
use Rattle.std.proofs.lemmas.Bool.{cases_eq, and_from, and_parts, cases_Bool}
use Rattle.std.proofs.lemmas.Grind.{take_at_read}
use Rattle.gr_base.specs.Lists.{IsAmong, Each}
use Rattle.gr_base.specs.Forests.{Forest}
use Rattle.gr_base.proofs.ListLemmas.{Each-at, Each-members, slice_get_push, slice_get-append_left}
use Rattle.td_forest.specs.Nodes.{IsForestOf}
use Rattle.td_forest.specs.Without.{without}
use Rattle.td_forest.proofs.SetLemmas.{eqb-same, eqb-other}
use Rattle.td_desc.specs.declared.Related.{Related}
use Rattle.td_colour.specs.Models.{AllHold}
use Rattle.td_solver.specs.Ties.{is_of, is_tight, is_tight_before, kept_for, IsBelow, HoldsOf, no_relation}
use Rattle.td_solver.proofs.Deciding.{kept}

-- what is left of a list by a test
filter_in : (p : Related → Bool) (rs : List Related) (r : Related) → IsAmong (filter p rs) r → IsAmong rs r × (p r ≡ true)
filter_in p [] r i = absurd i
filter_in p (s ∷ rs) r i = elim (cases_Bool (p s)) [
  | inl t ↦ elim (subst (λ xs. IsAmong xs r) (kept_one t) i) [
    | inl e ↦ (inl e, ap p e ∙ t)
    | inr j ↦ let h = filter_in p rs r j in (inr h.0, h.1)
  ]
  | inr f ↦ let h = filter_in p rs r (subst (λ xs. IsAmong xs r) (lost_one f) i) in (inr h.0, h.1)
]
  where
    kept_one : p s ≡ true → filter p (s ∷ rs) ≡ s ∷ filter p rs
    kept_one t = rw t refl

    lost_one : p s ≡ false → filter p (s ∷ rs) ≡ filter p rs
    lost_one f = rw f refl

in_filter : (p : Related → Bool) (rs : List Related) (r : Related) → IsAmong rs r → p r ≡ true → IsAmong (filter p rs) r
in_filter p [] r i t = absurd i
in_filter p (s ∷ rs) r (inl e) t = let q : p s ≡ true = ap p (sym e) ∙ t in rw q (inl e)
in_filter p (s ∷ rs) r (inr i) t = elim (cases_Bool (p s)) [ inl q ↦ rw q (inr (in_filter p rs r i t)) | inr q ↦ rw q (in_filter p rs r i t) ]

-- one relation more
filter_end : (p : Related → Bool) (xs : List Related) (x : Related) → p x ≡ true → filter p (xs ++ x ∷ []) ≡ filter p xs ++ x ∷ []
filter_end p [] x t = rw t refl
filter_end p (y ∷ xs) x t = elim (cases_Bool (p y)) [ inl q ↦ rw q (ap (λ zs. y ∷ zs) (filter_end p xs x t)) | inr q ↦ rw q (filter_end p xs x t) ]

filter_not : (p : Related → Bool) (xs : List Related) (x : Related) → p x ≡ false → filter p (xs ++ x ∷ []) ≡ filter p xs
filter_not p [] x f = rw f refl
filter_not p (y ∷ xs) x f = elim (cases_Bool (p y)) [ inl q ↦ rw q (ap (λ zs. y ∷ zs) (filter_not p xs x f)) | inr q ↦ rw q (filter_not p xs x f) ]

pub filter_more : (p : Related → Bool) (rs kept : List Related) (i : ℕ) → i < length rs → kept ≡ filter p (take i rs) → p (get_or rs i no_relation) ≡ true → kept ++ get_or rs i no_relation ∷ [] ≡ filter p (take (i + 1) rs)
filter_more p rs kept i lt e t =
    ap (λ zs. zs ++ get_or rs i no_relation ∷ []) e ∙ sym (filter_end p (take i rs) (get_or rs i no_relation) t) ∙ ap (filter p) (sym (take_at_read rs i no_relation lt).1)

pub filter_skip : (p : Related → Bool) (rs kept : List Related) (i : ℕ) → i < length rs → kept ≡ filter p (take i rs) → p (get_or rs i no_relation) ≡ false → kept ≡ filter p (take (i + 1) rs)
filter_skip p rs kept i lt e f = e ∙ sym (filter_not p (take i rs) (get_or rs i no_relation) f) ∙ ap (filter p) (sym (take_at_read rs i no_relation lt).1)

pub take_whole : (rs : List Related) (i : ℕ) → length rs ≤ i → take i rs ≡ rs
take_whole [] zero far = refl
take_whole [] (suc i) far = refl
take_whole (r ∷ rs) zero far = absurd (omega arith)
take_whole (r ∷ rs) (suc i) far = ap (λ zs. r ∷ zs) (take_whole rs i (omega arith))

-- for each node its own
module _ (test : ℕ → Related → Bool) (rs : List Related) where
  pub kept_more : (m : ℕ) (all new : List (List Related)) (ties : List Related) → all ≡ kept_for test m rs → ties ≡ filter (test m) rs → new ≡ all ++ ties ∷ [] → new ≡ kept_for test (m + 1) rs
  kept_more m all new ties a t e =
      let n : suc m ≡ m + 1 = omega arith in
      subst (λ k. new ≡ kept_for test k rs) n (e ∙ ap (λ zs. zs ++ ties ∷ []) a ∙ ap (λ zs. kept_for test m rs ++ zs ∷ []) t)

  kept_long : (m : ℕ) → length (kept_for test m rs) ≡ m
  kept_long zero = refl
  kept_long (suc m) = longer (kept_for test m rs) (filter (test m) rs) m (kept_long m)
    where
      longer : (xs : List (List Related)) (x : List Related) (n : ℕ) → length xs ≡ n → length (xs ++ x ∷ []) ≡ suc n
      longer [] x n e = ap suc e
      longer (y ∷ xs) x zero e = let bad : suc (length xs) ≡ 0 = e in absurd (omega arith)
      longer (y ∷ xs) x (suc n) e = let q : suc (length xs) ≡ suc n = e in ap suc (longer xs x n (omega arith))

  kept_here : (m count : ℕ) → m < count → slice_get (kept_for test count rs) m ≡ Some (filter (test m) rs)
  kept_here m zero lt = absurd (omega arith)
  kept_here m (suc n) lt = elim (cases_eq m n) [
    | inl e ↦ subst (λ k. slice_get (kept_for test (suc n) rs) k ≡ Some (filter (test m) rs)) (kept_long n ∙ sym e)
        (subst (λ k. slice_get (kept_for test (suc n) rs) (length (kept_for test n rs)) ≡ Some (filter (test k) rs)) (sym e) (slice_get_push (kept_for test n rs) (filter (test n) rs)))
    | inr ne ↦ slice_get-append_left (kept_for test n rs) (filter (test n) rs ∷ []) m (filter (test m) rs) (kept_here m n (omega arith))
  ]

  pub kept_within : (all : List (List Related)) (m count : ℕ) → all ≡ kept_for test count rs → m < count → m < length all
  kept_within all m count e lt = let l : length all ≡ count = ap (λ zs. length zs) e ∙ kept_long count in omega arith

  pub kept_is : (all : List (List Related)) (m count : ℕ) (ties : List Related) → all ≡ kept_for test count rs → m < count → slice_get all m ≡ Some ties → ties ≡ filter (test m) rs
  kept_is all m count ties e lt at = same ties (filter (test m) rs) (sym at ∙ ap (λ zs. slice_get zs m) e ∙ kept_here m count lt)
    where
      same : (a b : List Related) → Some a ≡ Some b → a ≡ b
      same a b q = cc

of_is : (m : ℕ) (r : Related) → is_of m r ≡ true → max r.from r.to ≡ m
of_is m r e = elim (cases_eq (max r.from r.to) m) [
  | inl q ↦ q
  | inr ne ↦ let f : is_of m r ≡ false = eqb-other (max r.from r.to) m (λ q. ne (sym q)) in let bad : true ≡ false = sym e ∙ f in cc
]

is_of_it : (m : ℕ) (r : Related) → max r.from r.to ≡ m → is_of m r ≡ true
is_of_it m r e = subst (λ k. (k == m) ≡ true) (sym e) (eqb-same m)

tight_is : (m : ℕ) (r : Related) → is_tight_before m r ≡ true → (is_tight r ≡ true) × IsBelow m r
tight_is m r e =
    let h = and_parts (is_tight r) (nat_lt (max r.from r.to) m) e in
    let l : max r.from r.to < m = search rules in
    (h.0, (omega arith, omega arith))

is_tight_it : (m : ℕ) (r : Related) → is_tight r ≡ true → max r.from r.to < m → is_tight_before m r ≡ true
is_tight_it m r t l = and_from (is_tight r) (nat_lt (max r.from r.to) m) t (search rules)

of_in : (m : ℕ) (rs : List Related) (r : Related) → IsAmong (filter (is_of m) rs) r → IsAmong rs r × IsBelow (suc m) r
of_in m rs r i = let h = filter_in (is_of m) rs r i in let e : max r.from r.to ≡ m = of_is m r h.1 in (h.0, (omega arith, omega arith))

tight_in : (m : ℕ) (rs : List Related) (r : Related) → IsAmong (filter (is_tight_before m) rs) r → IsAmong rs r × IsBelow m r
tight_in m rs r i = let h = filter_in (is_tight_before m) rs r i in (h.0, (tight_is m r h.1).1)

-- the relations that are looked at after a step, and all
module _ (rs : List Related) (m : ℕ) where
  pub ties_low : Each (IsBelow (m + 1)) (filter (is_of m) rs)
  ties_low = Each-members (IsBelow (m + 1)) (filter (is_of m) rs) (λ r i.
      let h = of_in m rs r i in
      let a : r.from < suc m = h.1.0 in
      let b : r.to < suc m = h.1.1 in
      (omega arith, omega arith))

  pub tight_low : Each (IsBelow m) (filter (is_tight_before m) rs)
  tight_low = Each-members (IsBelow m) (filter (is_tight_before m) rs) (λ r i. (tight_in m rs r i).1)

  module _ (G : Forest (List ℕ)) (g : IsForestOf (m + 1) G) (before : AllHold rs m (without m G)) where
    held : (r : Related) → IsAmong rs r → IsBelow m r → HoldsOf (without m G) r
    held r i low = Each-at (λ (s : Related). s.from < m → s.to < m → HoldsOf (without m G) s) rs r before i low.0 low.1

    later : m + 1 ≡ suc m
    later = omega arith

    pub tight_held : Each (HoldsOf (without m G)) (filter (is_tight_before m) rs)
    tight_held = Each-members (HoldsOf (without m G)) (filter (is_tight_before m) rs) (λ r i. let h = tight_in m rs r i in held r h.0 h.1)

    pub all_from : Each (HoldsOf G) (filter (is_of m) rs) → Each (HoldsOf G) (filter (is_tight_before m) rs) → AllHold rs (m + 1) G
    all_from new old = Each-members (λ (s : Related). s.from < m + 1 → s.to < m + 1 → HoldsOf G s) rs (λ r i a b.
        elim (cases_eq (max r.from r.to) m) [
          | inl e ↦ Each-at (HoldsOf G) (filter (is_of m) rs) r new (in_filter (is_of m) rs r i (is_of_it m r e))
          | inr ne ↦
              let from : r.from < m = omega arith in
              let to : r.to < m = omega arith in
              elim (cases_Bool (is_tight r)) [
                | inl t ↦ Each-at (HoldsOf G) (filter (is_tight_before m) rs) r old (in_filter (is_tight_before m) rs r i (is_tight_it m r t (omega arith)))
                | inr f ↦ kept m G (subst (λ k. IsForestOf k G) later g) r.from r.to from to r.how f (held r i (from, to))
              ]
        ])

    pub new_from : AllHold rs (m + 1) G → Each (HoldsOf G) (filter (is_of m) rs)
    new_from all = Each-members (HoldsOf G) (filter (is_of m) rs) (λ r i.
        let h = of_in m rs r i in
        let a : r.from < suc m = h.1.0 in
        let b : r.to < suc m = h.1.1 in
        Each-at (λ (s : Related). s.from < m + 1 → s.to < m + 1 → HoldsOf G s) rs r all h.0 (omega arith) (omega arith))

    pub old_from : AllHold rs (m + 1) G → Each (HoldsOf G) (filter (is_tight_before m) rs)
    old_from all = Each-members (HoldsOf G) (filter (is_tight_before m) rs) (λ r i.
        let h = tight_in m rs r i in
        let a : r.from < m = h.1.0 in
        let b : r.to < m = h.1.1 in
        Each-at (λ (s : Related). s.from < m + 1 → s.to < m + 1 → HoldsOf G s) rs r all h.0 (omega arith) (omega arith))
