-- Where errands lead, step by step.
use Rattle.std.specs.Prelude.{◌≡◌, ℕ, zero, suc, ◌+◌, ◌<◌, ◌≤◌, List, [], ◌∷◌, ◌++◌, map, length, take, drop, Option, Some, None, ◌⊎◌, slice_get, refl}
use Rattle.std.proofs.Common.{inl, inr, ap, ap₂, sym, ◌∙◌, subst, arith}
use Rattle.std.proofs.lemmas.List.{take-append-drop, length-append}
use Rattle.std.proofs.lemmas.Option.{slice_get_within, same_Some}
use Rattle.std.proofs.lemmas.Bool.{cases_lt}
use Rattle.gr_base.proofs.ListLemmas.{slice_get-append_left, slice_get_push, slice_get-not_none, same_head, same_tail}
use Rattle.gr_terms.specs.declared.Sym.{Sym}
use Rattle.mg_syntax.specs.declared.body.Statement.{Statement}
use Rattle.mg_syntax.specs.declared.item.Class.{Class}
use Rattle.mg_syntax.specs.declared.item.Item.{Item}
use Rattle.mg_scope.specs.Classes.{class_of}
use Rattle.mg_facts.specs.Said.{Said}
use Rattle.mg_deeds.specs.Deeds.{Deed}
use Rattle.mg_deeds.specs.Weights.{deed_weight}
use Rattle.mg_expand.specs.declared.errand.Errand.{Errand}
use Rattle.mg_expand.specs.Walks.{How, a_call, a_choice, a_deed, task_of, tasks_of}
use Rattle.mg_deeds.specs.Sayings.{deed_said}
use Rattle.mg_expand.specs.Items.{call_weight, call_said}
use Rattle.mg_expand.specs.Routes.{Due, due, dues, Outcome, LeadsOn, arrives, by_deed, by_call, by_none, by_last, by_first}
use Rattle.mg_expand.specs.Errands.{chain, AreLinked}

-- LISTS

pub known : {A : Type 0} (o : Option A) → (o ≡ None) ⊎ ((x : A) × (o ≡ Some x))
known None = inl refl
known (Some x) = inr (x, refl)

pub no_last : {A : Type 0} (xs : List A) (x : A) → [] ≡ xs ++ x ∷ [] → ⊥
no_last [] x e = cc
no_last (y ∷ xs) x e = cc

-- a list with a last element has one such element
pub last_same : {A : Type 0} (xs ys : List A) (x y : A) → xs ++ x ∷ [] ≡ ys ++ y ∷ [] → (xs ≡ ys) × (x ≡ y)
last_same [] [] x y e = (refl, same_head x y [] [] e)
last_same [] (b ∷ ys) x y e = absurd (no_last ys y (same_tail x b [] (ys ++ y ∷ []) e))
last_same (a ∷ xs) [] x y e = absurd (no_last xs x (sym (same_tail a y (xs ++ x ∷ []) [] e)))
last_same (a ∷ xs) (b ∷ ys) x y e =
    let r = last_same xs ys x y (same_tail a b (xs ++ x ∷ []) (ys ++ y ∷ []) e) in
    (ap₂ (λ p q. p ∷ q) (same_head a b (xs ++ x ∷ []) (ys ++ y ∷ []) e) r.0, r.1)

-- KEPT ERRANDS

chain-kept : (most : ℕ) (kept : List Errand) (n : ℕ) (e : Errand) → slice_get kept n ≡ Some e → chain (suc most) kept (suc n) ≡ e ∷ chain most kept e.behind
chain-kept most kept n e p = ap (λ (o : Option Errand). elim o [ None ↦ [] | Some x ↦ x ∷ chain most kept x.behind ]) p

chain-past : (most : ℕ) (kept : List Errand) (n : ℕ) → slice_get kept n ≡ None → chain (suc most) kept (suc n) ≡ []
chain-past most kept n p = ap (λ (o : Option Errand). elim o [ None ↦ [] | Some x ↦ x ∷ chain most kept x.behind ]) p

-- a bound that is high enough is of no account
chain-bound : (kept : List Errand) → AreLinked kept → (a b n : ℕ) → n ≤ a → n ≤ b → chain a kept n ≡ chain b kept n
chain-bound kept linked zero zero n p q = refl
chain-bound kept linked zero (suc b) zero p q = refl
chain-bound kept linked zero (suc b) (suc n) p q = absurd (too_low n p)
  where
    too_low : (k : ℕ) → suc k ≤ 0 → ⊥
    too_low k h = omega arith
chain-bound kept linked (suc a) zero zero p q = refl
chain-bound kept linked (suc a) zero (suc n) p q = absurd (too_low n q)
  where
    too_low : (k : ℕ) → suc k ≤ 0 → ⊥
    too_low k h = omega arith
chain-bound kept linked (suc a) (suc b) zero p q = refl
chain-bound kept linked (suc a) (suc b) (suc n) p q =
    elim (known (slice_get kept n)) [
      | inl none ↦ chain-past a kept n none ∙ sym (chain-past b kept n none)
      | inr some ↦
          let e = some.0 in
          let low : e.behind ≤ n = linked n e some.1 in
          chain-kept a kept n e some.1
          ∙ ap (λ z. e ∷ z) (chain-bound kept linked a b e.behind (below e.behind n a low p) (below e.behind n b low q))
          ∙ sym (chain-kept b kept n e some.1)
    ]
  where
    below : (i j k : ℕ) → i ≤ j → suc j ≤ suc k → i ≤ k
    below i j k h g = omega arith

-- errands that are kept later are of no account
chain-append : (kept more : List Errand) → AreLinked kept → (most n : ℕ) → n ≤ length kept → chain most (kept ++ more) n ≡ chain most kept n
chain-append kept more linked zero n p = refl
chain-append kept more linked (suc most) zero p = refl
chain-append kept more linked (suc most) (suc n) p =
    elim (known (slice_get kept n)) [
      | inl none ↦ absurd (not_past none)
      | inr some ↦
          let e = some.0 in
          let low : e.behind ≤ n = linked n e some.1 in
          chain-kept most (kept ++ more) n e (slice_get-append_left kept more n e some.1)
          ∙ ap (λ z. e ∷ z) (chain-append kept more linked most e.behind (below e.behind n (length kept) low p))
          ∙ sym (chain-kept most kept n e some.1)
    ]
  where
    below : (i j k : ℕ) → i ≤ j → suc j ≤ k → i ≤ k
    below i j k h g = omega arith

    not_past : slice_get kept n ≡ None → ⊥
    not_past none = slice_get-not_none kept n p none

pub AreLinked-front : (kept more : List Errand) → AreLinked (kept ++ more) → AreLinked kept
AreLinked-front kept more linked n e at = linked n e (slice_get-append_left kept more n e at)

pub AreLinked-take : (k : ℕ) (kept : List Errand) → AreLinked kept → AreLinked (take k kept)
AreLinked-take k kept linked = AreLinked-front (take k kept) (drop k kept) (subst (λ z. AreLinked z) (sym (take-append-drop k kept)) linked)

pub AreLinked-push : (kept : List Errand) (x : Errand) → AreLinked kept → x.behind ≤ length kept → AreLinked (kept ++ x ∷ [])
AreLinked-push kept x linked low n e at =
    elim (known (slice_get kept n)) [
      | inr some ↦
          let same : some.0 ≡ e = same_Some some.0 e (sym (slice_get-append_left kept (x ∷ []) n some.0 some.1) ∙ at) in
          subst (λ z. z.behind ≤ n) same (linked n some.0 some.1)
      | inl none ↦
          let within : n < length (kept ++ x ∷ []) = slice_get_within (kept ++ x ∷ []) n e at in
          let size : length (kept ++ x ∷ []) ≡ length kept + 1 = length-append kept (x ∷ []) in
          elim (cases_lt n (length kept)) [
            | inl less ↦ absurd (slice_get-not_none kept n less none)
            | inr more ↦
                let place : n ≡ length kept = omega arith in
                let same : x ≡ e = same_Some x e (sym (slice_get_push kept x) ∙ subst (λ k. slice_get (kept ++ x ∷ []) k ≡ Some e) place at) in
                subst (λ z. z.behind ≤ n) same (subst (λ k. x.behind ≤ k) (sym place) low)
          ]
    ]

-- behind the errand that was kept last comes what is behind that one
pub chain-pushed : (kept : List Errand) (then : Errand) (n : ℕ) → AreLinked kept → then.behind ≤ length kept → n ≡ suc (length kept)
    → chain n (kept ++ then ∷ []) n ≡ then ∷ chain then.behind kept then.behind
chain-pushed kept then n linked low e = subst (λ k. chain k (kept ++ then ∷ []) k ≡ then ∷ chain then.behind kept then.behind) (sym e) push
  where
    same : (k : ℕ) → k ≤ k
    same k = omega arith

    push : chain (suc (length kept)) (kept ++ then ∷ []) (suc (length kept)) ≡ then ∷ chain then.behind kept then.behind
    push =
        chain-kept (length kept) (kept ++ then ∷ []) (length kept) then (slice_get_push kept then)
        ∙ ap (λ z. then ∷ z)
        (chain-append kept (then ∷ []) linked (length kept) then.behind low
        ∙ chain-bound kept linked (length kept) then.behind then.behind low (same then.behind))

-- behind a kept errand
pub chain-behind : (kept : List Errand) (n : ℕ) (e : Errand) → AreLinked kept → slice_get kept n ≡ Some e
    → chain (suc n) kept (suc n) ≡ e ∷ chain e.behind kept e.behind
chain-behind kept n e linked at =
    chain-kept n kept n e at ∙ ap (λ z. e ∷ z) (chain-bound kept linked n e.behind e.behind (linked n e at) (same e.behind))
  where
    same : (k : ℕ) → k ≤ k
    same k = omega arith

-- WHERE TASKS LEAD

module _ (m : List Item) where
  pub LeadsOn-deed : (here : ℕ) (d : Deed) (rest : List Due) (n : ℕ) (said : List Said) (outs : List Outcome)
      → LeadsOn m (due here (a_deed d) ∷ rest) n said outs → LeadsOn m rest (n + deed_weight d) (said ++ deed_said here n d) outs
  LeadsOn-deed _ _ _ _ _ _ (by_deed here d rest n said outs h) = h

  pub LeadsOn-call : (here : ℕ) (how : How) (c : Sym) (rest : List Due) (n : ℕ) (said : List Said) (outs : List Outcome)
      → LeadsOn m (due here (a_call how c) ∷ rest) n said outs
      → (k : Class) × (class_of m c ≡ Some k) × LeadsOn m (dues n (tasks_of k) ++ rest) (n + call_weight m how c) (said ++ call_said m how here n c) outs
  LeadsOn-call _ _ _ _ _ _ _ (by_call here how c k rest n said outs at h) = (k, at, h)

  pub LeadsOn-none : (here : ℕ) (rest : List Due) (n : ℕ) (said : List Said) (outs : List Outcome)
      → LeadsOn m (due here (a_choice []) ∷ rest) n said outs → LeadsOn m rest n said outs
  LeadsOn-none _ _ _ _ _ (by_none here rest n said outs h) = h

  pub LeadsOn-last : (here : ℕ) (s : List Statement) (rest : List Due) (n : ℕ) (said : List Said) (outs : List Outcome)
      → LeadsOn m (due here (a_choice (s ∷ [])) ∷ rest) n said outs → LeadsOn m (dues here (map task_of s) ++ rest) n said outs
  LeadsOn-last _ _ _ _ _ _ (by_last here s rest n said outs h) = h

  pub LeadsOn-first : (here : ℕ) (s t : List Statement) (b : List (List Statement)) (rest : List Due) (n : ℕ) (said : List Said) (outs : List Outcome)
      → LeadsOn m (due here (a_choice (s ∷ t ∷ b)) ∷ rest) n said outs
      → (first later : List Outcome) × (outs ≡ first ++ later) × LeadsOn m (dues here (map task_of s) ++ rest) n said first
      × LeadsOn m (due here (a_choice (t ∷ b)) ∷ rest) n said later
  LeadsOn-first _ _ _ _ _ _ _ _ (by_first here s t b rest n said first later h g) = (first, later, refl, h, g)

  pub LeadsOn-end : (n : ℕ) (said : List Said) (outs : List Outcome) → LeadsOn m [] n said outs → outs ≡ record { said = said; weight = n } ∷ []
  LeadsOn-end _ _ _ (arrives n said) = refl

  -- there is a first outcome, and no fewer items are counted in it
  abbrev pub HasFirst : ℕ → List Outcome → Type 0
  HasFirst n outs = (o : Outcome) × (later : List Outcome) × (outs ≡ o ∷ later) × (n ≤ o.weight)

  pub LeadsOn-first_outcome : (ds : List Due) (n : ℕ) (said : List Said) (outs : List Outcome) → LeadsOn m ds n said outs → HasFirst n outs
  LeadsOn-first_outcome _ _ _ _ (arrives n said) = (record { said = said; weight = n }, [], refl, same n)
    where
      same : (k : ℕ) → k ≤ k
      same k = omega arith
  LeadsOn-first_outcome _ _ _ _ (by_deed here d rest n said outs h) =
      let r = LeadsOn-first_outcome rest (n + deed_weight d) (said ++ deed_said here n d) outs h in (r.0, r.1, r.2, lower n (deed_weight d) r.0.weight r.3)
    where
      lower : (a b c : ℕ) → a + b ≤ c → a ≤ c
      lower a b c p = omega arith
  LeadsOn-first_outcome _ _ _ _ (by_call here how c k rest n said outs at h) =
      let r = LeadsOn-first_outcome (dues n (tasks_of k) ++ rest) (n + call_weight m how c) (said ++ call_said m how here n c) outs h in
      (r.0, r.1, r.2, lower n (call_weight m how c) r.0.weight r.3)
    where
      lower : (a b c : ℕ) → a + b ≤ c → a ≤ c
      lower a b c p = omega arith
  LeadsOn-first_outcome _ _ _ _ (by_none here rest n said outs h) = LeadsOn-first_outcome rest n said outs h
  LeadsOn-first_outcome _ _ _ _ (by_last here s rest n said outs h) = LeadsOn-first_outcome (dues here (map task_of s) ++ rest) n said outs h
  LeadsOn-first_outcome _ _ _ _ (by_first here s t b rest n said outs later h g) =
      let r = LeadsOn-first_outcome (dues here (map task_of s) ++ rest) n said outs h in
      (r.0, r.1 ++ later, ap (λ z. z ++ later) r.2, r.3)
