-- The sets that a map makes of a tree's nodes, and when they are a forest of the nodes that the map has.
use Rattle.std.specs.Prelude.{◌≡◌, ℕ, zero, suc, ◌+◌, ◌<◌, ◌≤◌, List, [], ◌∷◌, ◌++◌, length, slice_get, ◌==◌, if◌then◌else◌, Bool, true, false, ◌⊎◌, ◌↔◌, ⊤, Option, Some, None, refl}
use Rattle.std.proofs.Common.{inl, inr, ap, ap₂, sym, ◌∙◌, subst, arith, zero-add, add-zero}
use Rattle.std.proofs.lemmas.Bool.{cases_lt, cases_eq}
use Rattle.std.proofs.lemmas.Option.{none-some, same_Some, slice_get_within}
use Rattle.gr_base.specs.Lists.{IsAmong, Each, IsRising, NoneTwice}
use Rattle.gr_base.specs.Forests.{Forest, empty, tree, labels, size}
use Rattle.gr_base.proofs.ListLemmas.{Each-at, Each-members, IsAmong-slice_get, slice_get-IsAmong, slice_get-some}
use Rattle.td_forest.specs.Nodes.{IsIn, IsForestOf}
use Rattle.td_forest.proofs.SetLemmas.{eqb-same, eqb-other}
use Rattle.td_forest.proofs.Twins.{AllOnce, AllRise}
use Rattle.td_forest.proofs.Forming.{of_below, below_of}
use Rattle.td_check.specs.Sets.{SendsTo, sent_from, sent_to, sets_from, sets_of, IsOnto}
use Rattle.td_check.specs.Places.{set_list}

-- ---- the nodes that are sent to a number

pub sent_first : (x t s : ℕ) (map : List ℕ) → s ≡ t → sent_from x t (s ∷ map) ≡ x ∷ sent_from (suc x) t map
sent_first x t s map e = subst (λ z. sent_from x t (z ∷ map) ≡ x ∷ sent_from (suc x) t map) (sym e) (rw (eqb-same t) refl)

pub sent_other : (x t s : ℕ) (map : List ℕ) → (s ≡ t → ⊥) → sent_from x t (s ∷ map) ≡ sent_from (suc x) t map
sent_other x t s map ne = rw (eqb-other s t (λ e. ne (sym e))) refl

sent_at : (x t i k : ℕ) (map : List ℕ) → k ≡ x + i → slice_get map i ≡ Some t → IsAmong (sent_from x t map) k
sent_at x t i k [] q e = absurd (none-some t e)
sent_at x t zero k (s ∷ map) q e = subst (λ ys. IsAmong ys k) (sym (sent_first x t s map (same_Some s t e))) (inl (omega arith))
sent_at x t (suc i) k (s ∷ map) q e =
    let rest : IsAmong (sent_from (suc x) t map) k = sent_at (suc x) t i k map (omega arith) e in
    elim (cases_eq s t) [
      | inl p ↦ subst (λ ys. IsAmong ys k) (sym (sent_first x t s map p)) (inr rest)
      | inr ne ↦ subst (λ ys. IsAmong ys k) (sym (sent_other x t s map ne)) rest
    ]

record IsSentAt (x t : ℕ) (map : List ℕ) (y : ℕ) : Type 0 where
  pub place : ℕ
  pub is : y ≡ x + place
  pub at : slice_get map place ≡ Some t

sent_later : (x t s : ℕ) (map : List ℕ) (y : ℕ) → IsSentAt (suc x) t map y → IsSentAt x t (s ∷ map) y
sent_later x t s map y r = let e : y ≡ suc x + r.place = r.is in record { place = suc r.place; is = omega arith; at = r.at }

at_sent : (x t : ℕ) (map : List ℕ) (y : ℕ) → IsAmong (sent_from x t map) y → IsSentAt x t map y
at_sent x t [] y i = absurd i
at_sent x t (s ∷ map) y i = elim (cases_eq s t) [
  | inl p ↦ elim (subst (λ ys. IsAmong ys y) (sent_first x t s map p) i) [
    | inl e ↦ record { place = 0; is = omega arith; at = ap Some p }
    | inr j ↦ sent_later x t s map y (at_sent (suc x) t map y j)
  ]
  | inr ne ↦ sent_later x t s map y (at_sent (suc x) t map y (subst (λ ys. IsAmong ys y) (sent_other x t s map ne) i))
]

pub sends_among : (map : List ℕ) (x t : ℕ) → SendsTo map x t → IsAmong (sent_to map t) x
sends_among map x t e = sent_at 0 t x x map (omega arith) e

pub among_sends : (map : List ℕ) (x t : ℕ) → IsAmong (sent_to map t) x → SendsTo map x t
among_sends map x t i = let r = at_sent 0 t map x i in let e : x ≡ 0 + r.place = r.is in let q : r.place ≡ x = omega arith in subst (λ k. slice_get map k ≡ Some t) q r.at

pub send_once : (map : List ℕ) (x s t : ℕ) → SendsTo map x s → SendsTo map x t → s ≡ t
send_once map x s t a b = same_Some s t (sym a ∙ b)

-- they rise
record Rises (x : ℕ) (ys : List ℕ) : Type 0 where
  pub rise : IsRising ys
  pub low : Each (λ y. x ≤ y) ys

lower : (x : ℕ) (ys : List ℕ) → Each (λ y. suc x ≤ y) ys → Each (λ y. x < y) ys
lower x [] e = tt
lower x (y ∷ ys) e = let h : suc x ≤ y = e.0 in (omega arith, lower x ys e.1)

lower_or : (x : ℕ) (ys : List ℕ) → Each (λ y. suc x ≤ y) ys → Each (λ y. x ≤ y) ys
lower_or x [] e = tt
lower_or x (y ∷ ys) e = let h : suc x ≤ y = e.0 in (omega arith, lower_or x ys e.1)

sent_rises : (x t : ℕ) (map : List ℕ) → Rises x (sent_from x t map)
sent_rises x t [] = record { rise = tt; low = tt }
sent_rises x t (s ∷ map) =
    let r = sent_rises (suc x) t map in
    elim (cases_eq s t) [
      | inl p ↦ subst (λ ys. Rises x ys) (sym (sent_first x t s map p)) (record {
        rise = (lower x (sent_from (suc x) t map) r.low, r.rise);
        low = (omega arith, lower_or x (sent_from (suc x) t map) r.low);
      })
      | inr ne ↦ subst (λ ys. Rises x ys) (sym (sent_other x t s map ne)) (record { rise = r.rise; low = lower_or x (sent_from (suc x) t map) r.low })
    ]

pub sent_to_rises : (map : List ℕ) (t : ℕ) → IsRising (sent_to map t)
sent_to_rises map t = (sent_rises 0 t map).rise

rising_once : (set : List ℕ) → IsRising set → NoneTwice set
rising_once [] rise = tt
rising_once (x ∷ xs) rise = ((λ i. let h : x < x = Each-at (λ y. x < y) xs x rise.0 i in omega arith), rising_once xs rise.1)

-- ---- the forest of sets

pub record IsSent (map : List ℕ) (low high y : ℕ) : Type 0 where
  pub to : ℕ
  pub sends : SendsTo map y to
  pub above : low ≤ to
  pub below : to < high

pub in_sets : {A : Type 0} (n : ℕ) (map : List ℕ) (f : Forest A) (y : ℕ) → IsIn (sets_from n map f) y → IsSent map n (n + size f) y
in_sets n map empty y i = absurd i
in_sets n map (tree a kids more) y (inl i) = record { to = n; sends = among_sends map y n i; above = omega arith; below = omega arith }
in_sets n map (tree a kids more) y (inr (inl i)) = let r = in_sets (suc n) map kids y i in let p : suc n ≤ r.to = r.above in let q : r.to < suc n + size kids = r.below in
    record { to = r.to; sends = r.sends; above = omega arith; below = omega arith }
in_sets n map (tree a kids more) y (inr (inr i)) = let r = in_sets (suc n + size kids) map more y i in let p : suc n + size kids ≤ r.to = r.above in let q : r.to < suc n + size kids + size more = r.below in
    record { to = r.to; sends = r.sends; above = omega arith; below = omega arith }

above : (t n : ℕ) → n ≤ t → (t ≡ n → ⊥) → suc n ≤ t
above t n low ne = elim (cases_lt n t) [ inl l ↦ omega arith | inr g ↦ absurd (ne (omega arith)) ]

pub sets_in : {A : Type 0} (n : ℕ) (map : List ℕ) (f : Forest A) (y t : ℕ) → SendsTo map y t → n ≤ t → t < n + size f → IsIn (sets_from n map f) y
sets_in n map empty y t e low high = absurd (omega arith)
sets_in n map (tree a kids more) y t e low high = elim (cases_eq t n) [
  | inl p ↦ inl (sends_among map y n (subst (λ k. SendsTo map y k) p e))
  | inr ne ↦ elim (cases_lt t (suc n + size kids)) [
    | inl l ↦ inr (inl (sets_in (suc n) map kids y t e (above t n low ne) l))
    | inr g ↦ inr (inr (sets_in (suc n + size kids) map more y t e g (omega arith)))
  ]
]

pub sets_once : {A : Type 0} (n : ℕ) (map : List ℕ) (f : Forest A) → AllOnce (sets_from n map f)
sets_once n map empty = tt
sets_once n map (tree a kids more) = (
  rising_once (sent_to map n) (sent_rises 0 n map).rise,
  (λ y i j. let r = in_sets (suc n) map kids y j in let e : n ≡ r.to = send_once map y n r.to (among_sends map y n i) r.sends in let p : suc n ≤ r.to = r.above in omega arith),
  (λ y i j. let r = in_sets (suc n + size kids) map more y j in let e : n ≡ r.to = send_once map y n r.to (among_sends map y n i) r.sends in let p : suc n + size kids ≤ r.to = r.above in omega arith),
  (λ y i j.
      let q = in_sets (suc n) map kids y i in
      let r = in_sets (suc n + size kids) map more y j in
      let e : q.to ≡ r.to = send_once map y q.to r.to q.sends r.sends in
      let p : q.to < suc n + size kids = q.below in
      let s : suc n + size kids ≤ r.to = r.above in
      omega arith),
  sets_once (suc n) map kids,
  sets_once (suc n + size kids) map more,
)

sent_full : (map : List ℕ) (t : ℕ) → IsAmong map t → sent_to map t ≡ [] → ⊥
sent_full map t i e = let p = slice_get-IsAmong map t i in subst (λ ys. IsAmong ys p.0) e (sends_among map p.0 t p.1)

pub sets_rise : {A : Type 0} (n : ℕ) (map : List ℕ) (f : Forest A) → ((t : ℕ) → n ≤ t → t < n + size f → IsAmong map t) → AllRise (sets_from n map f)
sets_rise n map empty met = tt
sets_rise n map (tree a kids more) met = (
  sent_full map n (met n (omega arith) (omega arith)),
  (sent_rises 0 n map).rise,
  sets_rise (suc n) map kids (λ t p q. met t (omega arith) (omega arith)),
  sets_rise (suc n + size kids) map more (λ t p q. met t (omega arith) (omega arith)),
)

set_full : {A : Type 0} (n : ℕ) (map : List ℕ) (f : Forest A) → AllRise (sets_from n map f) → (t : ℕ) → n ≤ t → t < n + size f → sent_to map t ≡ [] → ⊥
set_full n map empty rise t low high e = absurd (omega arith)
set_full n map (tree a kids more) rise t low high e = elim (cases_eq t n) [
  | inl p ↦ rise.0 (subst (λ k. sent_to map k ≡ []) p e)
  | inr ne ↦ elim (cases_lt t (suc n + size kids)) [
    | inl l ↦ set_full (suc n) map kids rise.2 t (above t n low ne) l e
    | inr g ↦ set_full (suc n + size kids) map more rise.3 t g (omega arith) e
  ]
]

some_member : (set : List ℕ) → (set ≡ [] → ⊥) → (z : ℕ) × IsAmong set z
some_member [] full = absurd (full refl)
some_member (z ∷ zs) full = (z, inl refl)

pub onto_forest : {A : Type 0} (map : List ℕ) (m : ℕ) (f : Forest A) → IsOnto map m (size f) → IsForestOf m (sets_of map f)
onto_forest map m f onto = below_of m (sets_of map f) (record {
  nodes = λ x. (
    (λ i. let r = in_sets 0 map f x i in let l : x < length map = slice_get_within map x r.to r.sends in let e : length map ≡ m = onto.number in omega arith),
    (λ l.
        let e : length map ≡ m = onto.number in
        let p = slice_get-some map x (omega arith) in
        let w : p.0 < size f = Each-at (λ t. t < size f) map p.0 onto.within (IsAmong-slice_get map x p.0 p.1) in
        sets_in 0 map f x p.0 p.1 (omega arith) (omega arith)),
  );
  once = sets_once 0 map f;
  sets = sets_rise 0 map f (λ t p q. onto.met t (omega arith));
})

pub forest_onto : {A : Type 0} (map : List ℕ) (m : ℕ) (f : Forest A) → length map ≡ m → IsForestOf m (sets_of map f) → IsOnto map m (size f)
forest_onto map m f number forest = record {
  number = number;
  within = Each-members (λ t. t < size f) map (λ t i.
      let p = slice_get-IsAmong map t i in
      let l : p.0 < length map = slice_get_within map p.0 t p.1 in
      let r = in_sets 0 map f p.0 ((forest.nodes p.0).1 (omega (arith, number))) in
      let e : r.to ≡ t = send_once map p.0 r.to t r.sends p.1 in
      let q : r.to < 0 + size f = r.below in
      omega arith);
  met = λ t l.
      let z = some_member (sent_to map t) (set_full 0 map f (of_below m (sets_of map f) forest).sets t (omega arith) (omega arith)) in
      IsAmong-slice_get map z.0 t (among_sends map z.0 t z.1);
}

-- ---- the list of the sets

set_list-split : (map : List ℕ) (n a b m : ℕ) → m ≡ n + a → set_list map n (a + b) ≡ set_list map n a ++ set_list map m b
set_list-split map n zero b m e = let q : zero + b ≡ b = omega arith in let p : n ≡ m = omega arith in ap₂ (λ i j. set_list map i j) p q
set_list-split map n (suc a) b m e =
    let q : suc a + b ≡ suc (a + b) = omega arith in
    ap (λ j. set_list map n j) q ∙ ap (λ zs. sent_to map n ∷ zs) (set_list-split map (suc n) a b m (omega arith))

pub labels-sets : {A : Type 0} (n : ℕ) (map : List ℕ) (f : Forest A) → labels (sets_from n map f) ≡ set_list map n (size f)
labels-sets n map empty = refl
labels-sets n map (tree a kids more) =
    ap (λ zs. sent_to map n ∷ zs)
    (ap₂ (λ xs ys. xs ++ ys) (labels-sets (suc n) map kids) (labels-sets (suc n + size kids) map more) ∙ sym (set_list-split map (suc n) (size kids) (size more) (suc n + size kids) refl))

pub each_set : (P : List ℕ → Type 0) (map : List ℕ) (n k : ℕ) → ((t : ℕ) → n ≤ t → t < n + k → P (sent_to map t)) → Each P (set_list map n k)
each_set P map n zero all = tt
each_set P map n (suc k) all = (all n (omega arith) (omega arith), each_set P map (suc n) k (λ t p q. all t (omega arith) (omega arith)))

pub set_each : (P : List ℕ → Type 0) (map : List ℕ) (n k : ℕ) → Each P (set_list map n k) → (t : ℕ) → n ≤ t → t < n + k → P (sent_to map t)
set_each P map n zero each t p q = absurd (omega arith)
set_each P map n (suc k) each t p q = elim (cases_eq t n) [
  | inl e ↦ subst (λ j. P (sent_to map j)) (sym e) each.0
  | inr ne ↦ set_each P map (suc n) k each.1 t (above t n p ne) (omega arith)
]

pub set_list-more : (map : List ℕ) (k : ℕ) → set_list map 0 (k + 1) ≡ set_list map 0 k ++ sent_to map k ∷ []
set_list-more map k = set_list-split map 0 k 1 k (omega arith)
