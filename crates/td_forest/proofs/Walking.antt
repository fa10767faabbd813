-- Places in preorder: what stands at a place, and what stands over it.
use Rattle.std.specs.Prelude.{◌≡◌, ℕ, zero, suc, ◌+◌, ◌-◌, ◌<◌, ◌≤◌, List, [], ◌∷◌, ◌++◌, Bool, true, false, Option, Some, None, length, slice_get, refl}
use Rattle.std.proofs.Common.{inl, inr, ap, sym, ◌∙◌, subst, arith, get_or, length-append}
use Rattle.std.proofs.lemmas.Bool.{cases_lt}
use Rattle.std.proofs.lemmas.Option.{same_Some}
use Rattle.gr_base.specs.Lists.{IsAmong, IsRising}
use Rattle.gr_base.specs.Forests.{Forest, empty, tree, labels, size}
use Rattle.gr_base.proofs.ListLemmas.{slice_get-append_left, Each-at}
use Rattle.gr_base.proofs.ForestLemmas.{length-labels}
use Rattle.td_forest.specs.Nodes.{IsIn}
use Rattle.td_forest.specs.Walks.{HasAt, IsHeadAt, parents}
use Rattle.td_forest.specs.Spans.{IsSpan, ArePlaces, NoneAt, IsLeastAt, Covers, IsCover}
use Rattle.td_forest.proofs.Twins.{AllOnce, AllRise}
use Rattle.td_forest.proofs.Places.{AllFull}
use Rattle.td_forest.proofs.SpanLemmas.{span_in, span_within, span_unique}

slice_get-append_right : {A : Type 0} (xs ys : List A) (n i : ℕ) → length xs ≡ n → slice_get (xs ++ ys) (n + i) ≡ slice_get ys i
slice_get-append_right [] ys zero i e = let z : 0 + i ≡ i = omega arith in ap (λ k. slice_get ys k) z
slice_get-append_right [] ys (suc n) i e = absurd (omega arith)
slice_get-append_right (x ∷ xs) ys zero i e = absurd (omega arith)
slice_get-append_right (x ∷ xs) ys (suc n) i e = let z : suc n + i ≡ suc (n + i) = omega arith in ap (λ k. slice_get (x ∷ xs ++ ys) k) z ∙ slice_get-append_right xs ys n i (omega arith)

-- the set at the place of a node
pub record PlacedAt (n : ℕ) (F : Forest (List ℕ)) (y b : ℕ) : Type 0 where
  pub at : ℕ
  pub is : b ≡ n + at
  pub has : HasAt F at y

pub span_label : (n : ℕ) (F : Forest (List ℕ)) (y b e : ℕ) → IsSpan n F y b e → PlacedAt n F y b
span_label n empty y b e h = absurd h
span_label n (tree set kids more) y b e (inl h) = let p : b ≡ n = h.1 in record { at = 0; is = omega arith; has = (set, refl, h.0) }
span_label n (tree set kids more) y b e (inr (inl h)) =
    let r = span_label (n + 1) kids y b e h in
    let p : b ≡ n + 1 + r.at = r.is in
    record { at = suc r.at; is = omega arith; has = (r.has.0, slice_get-append_left (labels kids) (labels more) r.at r.has.0 r.has.1, r.has.2) }
span_label n (tree set kids more) y b e (inr (inr h)) =
    let r = span_label (n + 1 + size kids) more y b e h in
    let p : b ≡ n + 1 + size kids + r.at = r.is in
    record { at = suc (size kids + r.at); is = omega arith; has = (r.has.0, slice_get-append_right (labels kids) (labels more) (size kids) r.at (length-labels kids) ∙ r.has.1, r.has.2) }

pub node_place : (F : Forest (List ℕ)) (here : List Bool) (first behind : List ℕ) (y : ℕ) → ArePlaces F here first behind → IsIn F y → HasAt F (get_or first y 0) y
node_place F here first behind y pl i =
    let r = span_label 0 F y (get_or first y 0) (get_or behind y 0) (pl.spans y i) in
    let e : r.at ≡ get_or first y 0 = (let p : get_or first y 0 ≡ 0 + r.at = r.is in omega arith) in
    subst (λ k. HasAt F k y) e r.has

-- a place below the size has a set, whose nodes stand there
pub record SetAt (n : ℕ) (F : Forest (List ℕ)) (k : ℕ) : Type 0 where
  pub set : List ℕ
  pub is : slice_get (labels F) k ≡ Some set
  pub behind : ℕ
  pub spans : (y : ℕ) → IsAmong set y → IsSpan n F y (n + k) behind
  pub full : set ≡ [] → ⊥
  pub rises : IsRising set

pub set_at : (n : ℕ) (F : Forest (List ℕ)) (k : ℕ) → AllRise F → k < size F → SetAt n F k
set_at n empty k rise h = absurd (omega arith)
set_at n (tree set kids more) zero rise h =
    record { set = set; is = refl; behind = n + 1 + size kids; spans = λ y i. inl (i, (let e : n + 0 ≡ n = omega arith in e), refl); full = rise.0; rises = rise.1 }
set_at n (tree set kids more) (suc k) rise h = elim (cases_lt k (size kids)) [
  | inl l ↦
      let r = set_at (n + 1) kids k rise.2 l in
      let e : n + 1 + k ≡ n + suc k = omega arith in
      record {
        set = r.set;
        is = slice_get-append_left (labels kids) (labels more) k r.set r.is;
        behind = r.behind;
        spans = λ y i. inr (inl (subst (λ b. IsSpan (n + 1) kids y b r.behind) e (r.spans y i)));
        full = r.full;
        rises = r.rises;
      }
  | inr g ↦
      let r = set_at (n + 1 + size kids) more (k - size kids) rise.3 (omega arith) in
      let e : n + 1 + size kids + (k - size kids) ≡ n + suc k = omega arith in
      let f : size kids + (k - size kids) ≡ k = omega arith in
      record {
        set = r.set;
        is = subst (λ i. slice_get (labels kids ++ labels more) i ≡ Some r.set) f (slice_get-append_right (labels kids) (labels more) (size kids) (k - size kids) (length-labels kids) ∙ r.is);
        behind = r.behind;
        spans = λ y i. inr (inr (subst (λ b. IsSpan (n + 1 + size kids) more y b r.behind) e (r.spans y i)));
        full = r.full;
        rises = r.rises;
      }
]

-- the least of a rising set stands first
least_first : (set : List ℕ) (x : ℕ) → IsRising set → IsAmong set x → ((y : ℕ) → y < x → IsAmong set y → ⊥) → (rest : List ℕ) × (set ≡ x ∷ rest)
least_first [] x rise i none = absurd i
least_first (y ∷ ys) x rise (inl e) none = (ys, ap (λ z. z ∷ ys) (sym e))
least_first (y ∷ ys) x rise (inr i) none = absurd (none y (Each-at (λ z. y < z) ys x rise.0 i) (inl refl))

module _ (F : Forest (List ℕ)) (here : List Bool) (first behind : List ℕ) (once : AllOnce F) (rise : AllRise F) (pl : ArePlaces F here first behind) where
  -- who begins at a place is of the set there
  at_place : (k : ℕ) (s : SetAt 0 F k) (y : ℕ) → IsAmong s.set y → (get_or here y false ≡ true) × (get_or first y 0 ≡ k) × (y < 24)
  at_place k s y i =
      let span : IsSpan 0 F y (0 + k) s.behind = s.spans y i in
      let there : IsIn F y = span_in 0 F y (0 + k) s.behind span in
      let u = span_unique 0 F y (get_or first y 0) (get_or behind y 0) (0 + k) s.behind once (pl.spans y there) span in
      let e : get_or first y 0 ≡ k = (let p : get_or first y 0 ≡ 0 + k = u.0 in omega arith) in
      (pl.there y there, e, pl.low y there)

  place_at : (k : ℕ) (s : SetAt 0 F k) (y : ℕ) → get_or here y false ≡ true → get_or first y 0 ≡ k → IsAmong s.set y
  place_at k s y h e =
      let r = node_place F here first behind y pl (pl.only y h) in
      let p : slice_get (labels F) k ≡ Some r.0 = subst (λ i. slice_get (labels F) i ≡ Some r.0) e r.1 in
      let q : r.0 ≡ s.set = same_Some r.0 s.set (sym p ∙ s.is) in
      subst (λ zs. IsAmong zs y) q r.2

  some_there : (k : ℕ) → k < size F → NoneAt here first k 24 → ⊥
  some_there k low none = let s = set_at 0 F k rise low in member s.set s.full (λ y i. let a = at_place k s y i in none y a.2 a.0 a.1)
    where
      member : (set : List ℕ) → (set ≡ [] → ⊥) → ((y : ℕ) → IsAmong set y → ⊥) → ⊥
      member [] full none = full refl
      member (x ∷ xs) full none = none x (inl refl)

  pub least_head : (k node : ℕ) → k < size F → IsLeastAt here first k node → IsHeadAt F k node
  least_head k node low l =
      let s = set_at 0 F k rise low in
      let i : IsAmong s.set node = place_at k s node l.there l.at in
      let r = least_first s.set node s.rises i (λ y lt j. let a = at_place k s y j in l.least y lt a.0 a.1) in
      (r.0, s.is ∙ ap (λ zs. Some zs) r.1)

  pub no_place : (k : ℕ) (A : Type 0) → k < size F → NoneAt here first k 24 → A
  no_place k A low none = absurd (some_there k low none)

-- what stands over a place
pub length-parents : {A : Type 0} (up : Option ℕ) (n : ℕ) (F : Forest A) → length (parents up n F) ≡ size F
length-parents up n empty = refl
length-parents up n (tree a kids more) =
    let k : length (parents (Some n) (n + 1) kids) ≡ size kids = length-parents (Some n) (n + 1) kids in
    let m : length (parents up (n + 1 + size kids) more) ≡ size more = length-parents up (n + 1 + size kids) more in
    let l : length (parents (Some n) (n + 1) kids ++ parents up (n + 1 + size kids) more) ≡ length (parents (Some n) (n + 1) kids) + length (parents up (n + 1 + size kids) more) =
    length-append (parents (Some n) (n + 1) kids) (parents up (n + 1 + size kids) more) in
    omega arith

in_kids : (up : Option ℕ) (n : ℕ) (set : List ℕ) (kids more : Forest (List ℕ)) (k : ℕ) (p : Option ℕ) → slice_get (parents (Some n) (n + 1) kids) k ≡ Some p
    → slice_get (parents up n (tree set kids more)) (suc k) ≡ Some p
in_kids up n set kids more k p h = slice_get-append_left (parents (Some n) (n + 1) kids) (parents up (n + 1 + size kids) more) k p h

in_more : (up : Option ℕ) (n : ℕ) (set : List ℕ) (kids more : Forest (List ℕ)) (k : ℕ) (p : Option ℕ) → size kids ≤ k → slice_get (parents up (n + 1 + size kids) more) (k - size kids) ≡ Some p
    → slice_get (parents up n (tree set kids more)) (suc k) ≡ Some p
in_more up n set kids more k p le h =
    let f : size kids + (k - size kids) ≡ k = omega arith in
    subst (λ i. slice_get (parents (Some n) (n + 1) kids ++ parents up (n + 1 + size kids) more) i ≡ Some p) f
    (slice_get-append_right (parents (Some n) (n + 1) kids) (parents up (n + 1 + size kids) more) (size kids) (k - size kids) (length-parents (Some n) (n + 1) kids) ∙ h)

-- no tree goes from before a place to behind it
abbrev Uncovered : ℕ → Forest (List ℕ) → ℕ → Type 0
Uncovered n F place = (y b e : ℕ) → IsSpan n F y b e → b < place → place < e → ⊥

root_span : (n : ℕ) (set : List ℕ) (kids more : Forest (List ℕ)) (place : ℕ) → (set ≡ [] → ⊥) → n < place → place < n + 1 + size kids → Uncovered n (tree set kids more) place → ⊥
root_span n [] kids more place full a b none = full refl
root_span n (y ∷ ys) kids more place full a b none = none y n (n + 1 + size kids) (inl (inl refl, refl, refl)) a b

pub parent_none : (up : Option ℕ) (n : ℕ) (F : Forest (List ℕ)) (k : ℕ) → AllFull F → k < size F → Uncovered n F (n + k) → slice_get (parents up n F) k ≡ Some up
parent_none up n empty k full h none = absurd (omega arith)
parent_none up n (tree set kids more) zero full h none = refl
parent_none up n (tree set kids more) (suc k) full h none = elim (cases_lt k (size kids)) [
  | inl l ↦ absurd (root_span n set kids more (n + suc k) full.0 (omega arith) (omega arith) none)
  | inr g ↦
      let e : n + 1 + size kids + (k - size kids) ≡ n + suc k = omega arith in
      in_more up n set kids more k up g (parent_none up (n + 1 + size kids) more (k - size kids) full.2 (omega arith)
      (λ y b d s a c. none y b d (inr (inr s)) (subst (λ i. b < i) e a) (subst (λ i. i < d) e c)))
]

pub parent_some : (up : Option ℕ) (n : ℕ) (F : Forest (List ℕ)) (k p : ℕ) → AllFull F → k < size F → (node end : ℕ) → IsSpan n F node p end → p < n + k → n + k < end
    → ((y b e : ℕ) → IsSpan n F y b e → b < n + k → n + k < e → b ≤ p) → slice_get (parents up n F) k ≡ Some (Some p)
parent_some up n empty k p full h node end s a b last = absurd (omega arith)
parent_some up n (tree set kids more) zero p full h node end s a b last =
    let w : n ≤ p = (span_within n (tree set kids more) node p end s).low in absurd (omega arith)
parent_some up n (tree set kids more) (suc k) p full h node end (inl s) a b last =
    let e : p ≡ n = s.1 in
    let f : end ≡ n + 1 + size kids = s.2 in
    let g : n + 1 + k ≡ n + suc k = omega arith in
    in_kids up n set kids more k (Some p)
    (subst (λ i. slice_get (parents (Some n) (n + 1) kids) k ≡ Some (Some i)) (sym e)
    (parent_none (Some n) (n + 1) kids k full.1 (omega arith)
    (λ y c d t u v.
    let w : n + 1 ≤ c = (span_within (n + 1) kids y c d t).low in
    let l : c ≤ p = last y c d (inr (inl t)) (subst (λ i. c < i) g u) (subst (λ i. i < d) g v) in
    omega arith)))
parent_some up n (tree set kids more) (suc k) p full h node end (inr (inl s)) a b last =
    let w : end ≤ n + 1 + size kids = (span_within (n + 1) kids node p end s).high in
    let g : n + 1 + k ≡ n + suc k = omega arith in
    in_kids up n set kids more k (Some p)
    (parent_some (Some n) (n + 1) kids k p full.1 (omega arith) node end s (omega arith) (omega arith)
    (λ y c d t u v. last y c d (inr (inl t)) (subst (λ i. c < i) g u) (subst (λ i. i < d) g v)))
parent_some up n (tree set kids more) (suc k) p full h node end (inr (inr s)) a b last =
    let w : n + 1 + size kids ≤ p = (span_within (n + 1 + size kids) more node p end s).low in
    let g : n + 1 + size kids + (k - size kids) ≡ n + suc k = omega arith in
    in_more up n set kids more k (Some p) (omega arith)
    (parent_some up (n + 1 + size kids) more (k - size kids) p full.2 (omega arith) node end s (omega arith) (omega arith)
    (λ y c d t u v. last y c d (inr (inr t)) (subst (λ i. c < i) g u) (subst (λ i. i < d) g v)))

module _ (F : Forest (List ℕ)) (here : List Bool) (first behind : List ℕ) (once : AllOnce F) (full : AllFull F) (pl : ArePlaces F here first behind) (k : ℕ) (low : k < size F) where
  covers : (y b e : ℕ) → IsSpan 0 F y b e → b < k → k < e → (y < 24) × Covers here first behind k y × (get_or first y 0 ≡ b)
  covers y b e s l h =
      let there : IsIn F y = span_in 0 F y b e s in
      let u = span_unique 0 F y (get_or first y 0) (get_or behind y 0) b e once (pl.spans y there) s in
      let u0 : get_or first y 0 ≡ b = u.0 in
      let u1 : get_or behind y 0 ≡ e = u.1 in
      (pl.low y there, record { there = pl.there y there; starts = omega arith; ends = omega arith }, u0)

  pub cover_parent : (p : Option ℕ) → IsCover here first behind k 24 p → slice_get (parents None 0 F) k ≡ Some p
  cover_parent None none = parent_none None 0 F k full low (λ y b e s l h. let z : 0 + k ≡ k = omega arith in
      let c = covers y b e s (subst (λ i. b < i) z l) (subst (λ i. i < e) z h) in none y c.0 c.1)
  cover_parent (Some p) c =
      let y = c.0.0 in
      let cy = c.0.1 in
      let e : get_or first y 0 ≡ p = c.0.2 in
      let a : get_or first y 0 < k = cy.starts in
      let b : k < get_or behind y 0 = cy.ends in
      parent_some None 0 F k p full low y (get_or behind y 0) (subst (λ i. IsSpan 0 F y i (get_or behind y 0)) e (pl.spans y (pl.only y cy.there))) (omega arith) (omega arith)
      (λ x d f s l h.
      let z : 0 + k ≡ k = omega arith in
      let v = covers x d f s (subst (λ i. d < i) z l) (subst (λ i. i < f) z h) in
      let g : get_or first x 0 ≤ p = c.1 x v.0 v.1 in
      let q : get_or first x 0 ≡ d = v.2 in
      omega arith)
