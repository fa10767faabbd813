-- One fact more is said as it is meant.
use Rattle.std.specs.Prelude.{◌≡◌, ℕ, suc, ◌+◌, ◌*◌, ◌/◌, ◌<◌, ◌≤◌, OnOk, OnErr, Result, Ok, Err, List, [], ◌∷◌, ◌++◌, map, length, take, get_or, Some, slice_get, refl}
use Rattle.std.proofs.Common.{inl, inr, ap, ap₂, sym, ◌∙◌, subst, arith}
use Rattle.std.proofs.lemmas.List.{map_push, map_more, length-append}
use Rattle.std.proofs.lemmas.Option.{get_or_from_slice_get, slice_get_within}
use Rattle.std.proofs.lemmas.Bool.{cases_lt}
use Rattle.gr_base.specs.Lists.{IsAmong, Each, gathered}
use Rattle.gr_base.proofs.ListLemmas.{slice_get-append_left, IsAmong-append_left, IsAmong-append_right, Each-weaker}
use Rattle.gr_terms.specs.declared.Sym.{Sym}
use Rattle.gr_terms.specs.declared.SlotId.{SlotId}
use Rattle.gr_terms.specs.declared.Term as code
use Rattle.gr_terms.specs.Networks.{Term, variable, put_term}
use Rattle.gr_terms.specs.Views as views
use Rattle.td_desc.specs.declared.Dominance.{Dominance}
use Rattle.td_desc.specs.declared.Colour.{Colour}
use Rattle.td_desc.specs.Conditions.{IsTermBelow}
use Rattle.mg_facts.specs.declared.variable.Variable.{Variable}
use Rattle.mg_facts.specs.declared.variable.Value.{Value}
use Rattle.mg_facts.specs.declared.fact.Fact.{Fact}
use Rattle.mg_facts.specs.Said.{Said, Slot, own_of, top_of, bottom_of, related, one_node, identified, paired, says, term_of}
use Rattle.mg_facts.specs.Numbered.{Numbered, Keeps, IsFresh, slot_variable, variable_in, anyone, named, named_term, named_slot, read_term, read_terms, said_of, all_said}
use Rattle.mg_facts.proofs.GatheredLemmas.{Each-push, gathered-push}
use Rattle.mg_facts.proofs.NumberLemmas.{Keeps-trans, named_slot-own, named_slot-top, named_slot-bottom, slot-grow, term-grow, terms-grow, IsTermBelow-up}

pub named_at : (names : List Variable) (n : ℕ) (x : Variable) → slice_get names n ≡ Some x → named names n ≡ x
named_at names n x at = get_or_from_slice_get names n x anyone at

pub own_at : (names : List Variable) (s n : ℕ) (x : Variable) → s ≡ 3 * n + 1 → slice_get names n ≡ Some x → (s < 3 * length names + 1) × (named_slot names s ≡ own_of x)
own_at names s n x e at =
    let h : n < length names = slice_get_within names n x at in
    (omega arith, ap (named_slot names) e ∙ named_slot-own names n ∙ ap own_of (named_at names n x at))

pub top_at : (names : List Variable) (s n : ℕ) (x : Variable) → s ≡ 3 * n + 2 → slice_get names n ≡ Some x → (s < 3 * length names + 1) × (named_slot names s ≡ top_of x)
top_at names s n x e at =
    let h : n < length names = slice_get_within names n x at in
    (omega arith, ap (named_slot names) e ∙ named_slot-top names n ∙ ap top_of (named_at names n x at))

pub bottom_at : (names : List Variable) (s n : ℕ) (x : Variable) → s ≡ 3 * n + 3 → slice_get names n ≡ Some x → (s < 3 * length names + 1) × (named_slot names s ≡ bottom_of x)
bottom_at names s n x e at =
    let h : n < length names = slice_get_within names n x at in
    (omega arith, ap (named_slot names) e ∙ named_slot-bottom names n ∙ ap bottom_of (named_at names n x at))

pub variable_at : (names : List Variable) (n : ℕ) (x : Variable) → slice_get names n ≡ Some x → (n < length names) × (named_term names n ≡ variable x)
variable_at names n x at = (slice_get_within names n x at, ap variable (named_at names n x at))

-- WHAT IS KEPT

module _ (old new : Numbered) (keeps : Keeps old new) where
  longer_names : length old.names ≤ length new.names
  longer_names = omega (arith, ap length keeps.names, length-append old.names keeps.more)

  pub still_at : (n : ℕ) (x : Variable) → slice_get old.names n ≡ Some x → slice_get new.names n ≡ Some x
  still_at n x at = subst (λ z. slice_get z n ≡ Some x) (sym keeps.names) (slice_get-append_left old.names keeps.more n x at)

  pub still_slot : (s : ℕ) (p : Slot) → (s < 3 * length old.names + 1) × (named_slot old.names s ≡ p) → (s < 3 * length new.names + 1) × (named_slot new.names s ≡ p)
  still_slot s p h =
      let l : length old.names ≤ length new.names = longer_names in
      let a : s < 3 * length old.names + 1 = h.0 in
      (omega arith, ap (λ z. named_slot z s) keeps.names ∙ slot-grow old.names keeps.more s h.0 ∙ h.1)

  pub still_term : (t : code.Term) (v : Term Variable) → IsTermBelow (length old.names) t × (read_term old.names t ≡ v) → IsTermBelow (length new.names) t × (read_term new.names t ≡ v)
  still_term t v h = (
    IsTermBelow-up (length old.names) (length new.names) longer_names t h.0,
    ap (λ z. read_term z t) keeps.names ∙ term-grow old.names keeps.more t h.0 ∙ h.1,
  )

  pub still_terms : (ts : List code.Term) (vs : List (Term Variable)) → Each (IsTermBelow (length old.names)) ts × (read_terms old.names ts ≡ vs)
      → Each (IsTermBelow (length new.names)) ts × (read_terms new.names ts ≡ vs)
  still_terms ts vs h = (
    Each-weaker (IsTermBelow (length old.names)) (IsTermBelow (length new.names)) (IsTermBelow-up (length old.names) (length new.names) longer_names) ts h.0,
    ap (λ z. read_terms z ts) keeps.names ∙ terms-grow old.names keeps.more ts h.0 ∙ h.1,
  )

-- one term more
pub terms_more : (names : List Variable) (ts : List code.Term) (t : code.Term) (values : List Value) (i : ℕ) (d : Value) → i < length values
    → Each (IsTermBelow (length names)) ts × (read_terms names ts ≡ map term_of (take i values)) → IsTermBelow (length names) t × (read_term names t ≡ term_of (get_or values i d))
    → Each (IsTermBelow (length names)) (ts ++ t ∷ []) × (read_terms names (ts ++ t ∷ []) ≡ map term_of (take (i + 1) values))
terms_more names ts t values i d l h k = (
  Each-push (IsTermBelow (length names)) ts t h.0 k.0,
  ap (map (put_term (named_term names))) (map_push views.term_of ts t) ∙ map_push (put_term (named_term names)) (map views.term_of ts) (views.term_of t)
      ∙ ap₂ (λ a b. a ++ b ∷ []) h.1 k.1 ∙ sym (map_more term_of values i d l),
)

-- one fact more
pub said_more : (old mid new : Numbered) (f : Fact) (s : Said) → Keeps old mid → new ≡ record mid { facts = mid.facts ++ f ∷ []; used = length mid.names }
    → said_of mid.names f ≡ s → all_said new.names new.facts ≡ all_said old.names old.facts ++ s ∷ []
said_more old mid new f s keeps is e =
    ap (λ (z : Numbered). all_said z.names z.facts) is ∙ map_push (said_of mid.names) mid.facts f ∙ ap₂ (λ a b. a ++ b ∷ []) keeps.reads e

pub said_still : (old mid new : Numbered) → Keeps old mid → new ≡ mid → all_said new.names new.facts ≡ all_said old.names old.facts
said_still old mid new keeps e = ap (λ (z : Numbered). all_said z.names z.facts) e ∙ keeps.reads

-- WHAT IS FRESH

pub IsFresh-same : (old new : Numbered) (xs : List ℕ) → Keeps old new → new.names ≡ old.names → IsFresh old new xs
IsFresh-same old new xs keeps e i h k = let p : length new.names ≡ length old.names = ap length e in absurd (omega arith)

pub IsFresh-then : (a b c : Numbered) (xs ys : List ℕ) → IsFresh a b xs → IsFresh b c ys → IsFresh a c (xs ++ ys)
IsFresh-then a b c xs ys f g i h k =
    elim (cases_lt i (length b.names)) [
      | inl l ↦ IsAmong-append_left xs ys i (f i h l)
      | inr l ↦ IsAmong-append_right xs ys i (g i l k)
    ]

-- what is beyond the used variables is fresh
pub fresh_from : (old mid : Numbered) (xs : List ℕ) → Keeps old mid → old.used ≡ length old.names → IsFresh old mid xs
    → (i : ℕ) → mid.used ≤ i → i < length mid.names → IsAmong xs i
fresh_from old mid xs keeps settled fresh i h k = let e : mid.used ≡ old.used = keeps.used in fresh i (omega arith) k

pub literal_at : (names : List Variable) (h p : code.Term) (args : List code.Term) (a b : Term Variable) (c : List (Term Variable)) → read_term names h ≡ a → read_term names p ≡ b → read_terms names args ≡ c
    → says (record { handle = read_term names h; pred = read_term names p; args = read_terms names args }) ≡ says (record { handle = a; pred = b; args = c })
literal_at names h p args a b c e f g = ap₂ (λ x y. says (record { handle = x; pred = y; args = read_terms names args })) e f ∙ ap (λ z. says (record { handle = a; pred = b; args = z })) g

-- SLOTS

slot_variable-at : (s n k : ℕ) → s ≡ 3 * n + k + 1 → k < 3 → slot_variable s ≡ n ∷ []
slot_variable-at s n k e h =
    let p : s ≡ suc (3 * n + k) = omega arith in
    let q : (3 * n + k) / 3 ≡ n = omega arith in
    ap slot_variable p ∙ ap (λ i. i ∷ []) q

pub own_fresh : (old new : Numbered) (s n : ℕ) → s ≡ 3 * n + 1 → IsFresh old new (n ∷ []) → IsFresh old new (slot_variable s)
own_fresh old new s n e fresh = subst (λ xs. IsFresh old new xs) (sym (slot_variable-at s n 0 (omega arith) (omega arith))) fresh

pub top_fresh : (old new : Numbered) (s n : ℕ) → s ≡ 3 * n + 2 → IsFresh old new (n ∷ []) → IsFresh old new (slot_variable s)
top_fresh old new s n e fresh = subst (λ xs. IsFresh old new xs) (sym (slot_variable-at s n 1 (omega arith) (omega arith))) fresh

pub bottom_fresh : (old new : Numbered) (s n : ℕ) → s ≡ 3 * n + 3 → IsFresh old new (n ∷ []) → IsFresh old new (slot_variable s)
bottom_fresh old new s n e fresh = subst (λ xs. IsFresh old new xs) (sym (slot_variable-at s n 2 (omega arith) (omega arith))) fresh

pub nothing_fresh : (s : Numbered) (xs : List ℕ) → IsFresh s s xs
nothing_fresh s xs i h k = absurd (omega arith)

-- one more term is fresh
pub terms_fresh : (a b c : Numbered) (ts : List code.Term) (t : code.Term) → IsFresh a b (gathered variable_in ts) → IsFresh b c (variable_in t) → IsFresh a c (gathered variable_in (ts ++ t ∷ []))
terms_fresh a b c ts t f g = subst (λ xs. IsFresh a c xs) (sym (gathered-push variable_in ts t)) (IsFresh-then a b c (gathered variable_in ts) (variable_in t) f g)

-- ANSWERS

pub on_ok : {A E : Type 0} (r : Result A E) (P Q : Type 0) → OnOk r P → (P → Q) → OnOk r Q
on_ok (Ok x) P Q h f = f h
on_ok (Err e) P Q h f = tt

pub on_err : {A E : Type 0} (r : Result A E) (P Q : Type 0) → OnErr r P → (P → Q) → OnErr r Q
on_err (Ok x) P Q h f = tt
on_err (Err e) P Q h f = f h

pub always_err : {A E : Type 0} (r : Result A E) (P : Type 0) → P → OnErr r P
always_err (Ok x) P h = tt
always_err (Err e) P h = h
