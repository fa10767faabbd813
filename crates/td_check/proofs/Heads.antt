-- Which tree nodes are met, and the first node that is sent to each.
use Rattle.std.specs.Prelude.{◌≡◌, ℕ, ◌+◌, ◌<◌, ◌≤◌, List, [], ◌∷◌, length, slice_get, slice_index, slice_set, ◌==◌, ◌⊎◌, ◌↔◌, Bool, true, false, IsTrue, Some, refl}
use Rattle.std.specs.List.{list_any}
use Rattle.std.proofs.Common.{inl, inr, ap, sym, ◌∙◌, subst, arith, get_or, set, get_or-set_same, get_or-set_other}
use Rattle.std.proofs.lemmas.Bool.{cases_lt, cases_eq}
use Rattle.std.proofs.lemmas.Bool.Decides.{nat_tests}
use Rattle.std.proofs.lemmas.Option.{slice_get-get_or, slice_get_within, get_or_from_slice_get}
use Rattle.gr_base.specs.Lists.{IsAmong, Each}
use Rattle.gr_base.proofs.ListLemmas.{IsAmong-list_any, list_any-IsAmong, IsAmong-slice_get, slice_get-IsAmong}
use Rattle.td_forest.proofs.SetLemmas.{eqb-same}
use Rattle.td_check.specs.Sets.{SendsTo, IsOnto}
use Rattle.td_check.specs.Places.{IsFirstSent, AreHeads}

differ : ◌≡◌ {A = Bool} false true → ⊥
differ e = cc

pub yes_to : (A : Type 0) → A → IsTrue true ↔ A
yes_to A a = ((λ t. a), (λ h. refl))

pub no_to : (A : Type 0) → (A → ⊥) → IsTrue false ↔ A
no_to A none = ((λ t. absurd (differ t)), (λ a. absurd (none a)))

-- what the test finds
pub met_yes : (map : List ℕ) (t : ℕ) (b : Bool) → b ≡ list_any (λ s. s == t) map → b ≡ true → IsAmong map t
met_yes map t b is found =
    let r = IsAmong-list_any (λ s. s == t) map (sym is ∙ found) in
    let test : (r.0 == t) ≡ true = r.2 in
    subst (λ z. IsAmong map z) (same r.0 t test) r.1
  where
    same : (x y : ℕ) → (x == y) ≡ true → x ≡ y
    same x y e = grind (arith, nat_tests)

pub met_no : (map : List ℕ) (t : ℕ) (b : Bool) → b ≡ list_any (λ s. s == t) map → b ≡ false → IsAmong map t → ⊥
met_no map t b is refused i = differ (sym refused ∙ is ∙ list_any-IsAmong (λ s. s == t) map t i (eqb-same t))

pub met_more : (map : List ℕ) (k : ℕ) → ((t : ℕ) → t < k → IsAmong map t) → IsAmong map k → (t : ℕ) → t < k + 1 → IsAmong map t
met_more map k before here t l = elim (cases_lt t k) [ inl h ↦ before t h | inr g ↦ let e : k ≡ t = omega arith in subst (λ z. IsAmong map z) e here ]

-- onto
pub onto_parts : (map : List ℕ) (nodes count : ℕ) → length map ≡ nodes → Each (λ t. t < count) map → ((t : ℕ) → t < count → IsAmong map t) → IsOnto map nodes count
onto_parts map nodes count n w m = record { number = n; within = w; met = m }

-- the first node that is sent to a number
abbrev pub NoneSent : List ℕ → ℕ → ℕ → Type 0
NoneSent map t k = (y : ℕ) → y < k → SendsTo map y t → ⊥

pub none_sent : (map : List ℕ) (t : ℕ) → NoneSent map t 0
none_sent map t y l e = absurd (omega arith)

pub none_more : (map : List ℕ) (t k : ℕ) → NoneSent map t k → (get_or map k 0 ≡ t → ⊥) → NoneSent map t (k + 1)
none_more map t k before ne y l e = elim (cases_lt y k) [
  | inl h ↦ before y h e
  | inr g ↦ let q : y ≡ k = omega arith in ne (get_or_from_slice_get map k t 0 (subst (λ z. slice_get map z ≡ Some t) q e))
]

pub first_sent : (map : List ℕ) (t k : ℕ) → NoneSent map t k → k < length map → get_or map k 0 ≡ t → IsFirstSent map t k
first_sent map t k none l e = record { sent = slice_get-get_or map k 0 l ∙ ap (λ z. Some z) e; least = none }

pub sent_absurd : (map : List ℕ) (t k : ℕ) → NoneSent map t k → length map ≤ k → IsAmong map t → ⊥
sent_absurd map t k none high i = let p = slice_get-IsAmong map t i in let l : p.0 < length map = slice_get_within map p.0 t p.1 in none p.0 (omega arith) p.1

-- so for the first k numbers
pub record HaveHeads (map : List ℕ) (k : ℕ) (heads : List ℕ) : Type 0 where
  pub number : length heads ≡ 24
  pub are : AreHeads map k heads

pub heads_none : (map heads : List ℕ) → length heads ≡ 24 → HaveHeads map 0 heads
heads_none map heads n = record { number = n; are = λ t l. absurd (omega arith) }

pub heads_more : (map : List ℕ) (k head : ℕ) (heads new : List ℕ) → k < 24 → HaveHeads map k heads → IsFirstSent map k head → new ≡ slice_set heads k head → length new ≡ 24 → HaveHeads map (k + 1) new
heads_more map k head heads new low have first is n = record {
  number = n;
  are = λ t l. elim (cases_eq t k) [
    | inl e ↦
        let here : get_or (set heads k head) k 0 ≡ head = get_or-set_same heads k head 0 (let m : length heads ≡ 24 = have.number in omega arith) in
        subst (λ z. IsFirstSent map z (get_or new z 0)) (sym e) (subst (λ z. IsFirstSent map k (get_or z k 0)) (sym is) (subst (λ z. IsFirstSent map k z) (sym here) first))
    | inr ne ↦
        let there : get_or (set heads k head) t 0 ≡ get_or heads t 0 = get_or-set_other heads k t head 0 ne in
        subst (λ z. IsFirstSent map t (get_or z t 0)) (sym is) (subst (λ z. IsFirstSent map t z) (sym there) (have.are t (lower t k l ne)))
  ];
}
  where
    lower : (t k : ℕ) → t < k + 1 → (t ≡ k → ⊥) → t < k
    lower t k l ne = elim (cases_lt t k) [ inl h ↦ h | inr g ↦ absurd (ne (omega arith)) ]

-- the head of a number sends there
pub head_sends : (map heads : List ℕ) (count k : ℕ) → AreHeads map count heads → k < count → (slice_index heads k < length map)
head_sends map heads count k are l = slice_get_within map (slice_index heads k) k (are k l).sent
