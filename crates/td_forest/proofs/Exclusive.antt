-- Two nodes stand to each other in one way only.
use Rattle.std.specs.Prelude.{◌≡◌, ℕ, ◌+◌, ◌<◌, ◌≤◌, List, refl}
use Rattle.std.proofs.Common.{inl, inr, sym, ◌∙◌, arith}
use Rattle.gr_base.specs.Forests.{Forest, empty, tree, size}
use Rattle.td_forest.specs.declared.Relation.{Relation}
use Rattle.td_forest.specs.declared.Relation.TheVariants.{Same, Over, Under, Left, Right}
use Rattle.td_forest.specs.Nodes.{IsIn}
use Rattle.td_forest.proofs.Twins.{AreSameIn, IsOverIn, IsLeftIn, AllOnce, RelatesIn}
use Rattle.td_forest.specs.Spans.{IsSpan}
use Rattle.td_forest.proofs.SpanLemmas.{span_within, span_of, span_unique}

-- the places of two nodes
pub record Pair (n : ℕ) (F : Forest (List ℕ)) (x y : ℕ) : Type 0 where
  pub first : ℕ
  pub behind : ℕ
  pub other_first : ℕ
  pub other_behind : ℕ
  pub is : IsSpan n F x first behind
  pub other : IsSpan n F y other_first other_behind

pub record SamePair (n : ℕ) (F : Forest (List ℕ)) (x y : ℕ) : Type 0 where
  pub pair : Pair n F x y
  pub same : pair.first ≡ pair.other_first

pub record OverPair (n : ℕ) (F : Forest (List ℕ)) (x y : ℕ) : Type 0 where
  pub pair : Pair n F x y
  pub starts : pair.first < pair.other_first
  pub ends : pair.other_first < pair.behind

pub record LeftPair (n : ℕ) (F : Forest (List ℕ)) (x y : ℕ) : Type 0 where
  pub pair : Pair n F x y
  pub left : pair.behind ≤ pair.other_first

abbrev down_pair : (n : ℕ) (set : List ℕ) (kids more : Forest (List ℕ)) (x y : ℕ) → Pair (n + 1) kids x y → Pair n (tree set kids more) x y
down_pair n set kids more x y p = record { first = p.first; behind = p.behind; other_first = p.other_first; other_behind = p.other_behind; is = inr (inl p.is); other = inr (inl p.other) }

abbrev along_pair : (n : ℕ) (set : List ℕ) (kids more : Forest (List ℕ)) (x y : ℕ) → Pair (n + 1 + size kids) more x y → Pair n (tree set kids more) x y
along_pair n set kids more x y p = record { first = p.first; behind = p.behind; other_first = p.other_first; other_behind = p.other_behind; is = inr (inr p.is); other = inr (inr p.other) }

pub same_pair : (n : ℕ) (F : Forest (List ℕ)) (x y : ℕ) → AreSameIn F x y → SamePair n F x y
same_pair n empty x y h = absurd h
same_pair n (tree set kids more) x y (inl h) = record {
  pair = record { first = n; behind = n + 1 + size kids; other_first = n; other_behind = n + 1 + size kids; is = inl (h.0, refl, refl); other = inl (h.1, refl, refl) };
  same = refl;
}
same_pair n (tree set kids more) x y (inr (inl h)) = let r = same_pair (n + 1) kids x y h in record { pair = down_pair n set kids more x y r.pair; same = r.same }
same_pair n (tree set kids more) x y (inr (inr h)) = let r = same_pair (n + 1 + size kids) more x y h in record { pair = along_pair n set kids more x y r.pair; same = r.same }

pub over_pair : (n : ℕ) (F : Forest (List ℕ)) (x y : ℕ) → IsOverIn F x y → OverPair n F x y
over_pair n empty x y h = absurd h
over_pair n (tree set kids more) x y (inl h) =
    let s = span_of (n + 1) kids y h.1 in
    let w = span_within (n + 1) kids y s.first s.behind s.is in
    let a : n + 1 ≤ s.first = w.low in
    let b : s.first < s.behind = w.some in
    let c : s.behind ≤ n + 1 + size kids = w.high in
    record {
      pair = record { first = n; behind = n + 1 + size kids; other_first = s.first; other_behind = s.behind; is = inl (h.0, refl, refl); other = inr (inl s.is) };
      starts = omega arith;
      ends = omega arith;
    }
over_pair n (tree set kids more) x y (inr (inl h)) = let r = over_pair (n + 1) kids x y h in record { pair = down_pair n set kids more x y r.pair; starts = r.starts; ends = r.ends }
over_pair n (tree set kids more) x y (inr (inr h)) = let r = over_pair (n + 1 + size kids) more x y h in record { pair = along_pair n set kids more x y r.pair; starts = r.starts; ends = r.ends }

pub left_pair : (n : ℕ) (F : Forest (List ℕ)) (x y : ℕ) → IsLeftIn F x y → LeftPair n F x y
left_pair n empty x y h = absurd h
left_pair n (tree set kids more) x y (inl h) =
    let s = span_of (n + 1 + size kids) more y h.1 in
    let a : n + 1 + size kids ≤ s.first = (span_within (n + 1 + size kids) more y s.first s.behind s.is).low in
    elim h.0 [
      | inl i ↦ record {
        pair = record { first = n; behind = n + 1 + size kids; other_first = s.first; other_behind = s.behind; is = inl (i, refl, refl); other = inr (inr s.is) };
        left = a;
      }
      | inr i ↦
          let t = span_of (n + 1) kids x i in
          let c : t.behind ≤ n + 1 + size kids = (span_within (n + 1) kids x t.first t.behind t.is).high in
          record {
            pair = record { first = t.first; behind = t.behind; other_first = s.first; other_behind = s.behind; is = inr (inl t.is); other = inr (inr s.is) };
            left = omega arith;
          }
    ]
left_pair n (tree set kids more) x y (inr (inl h)) = let r = left_pair (n + 1) kids x y h in record { pair = down_pair n set kids more x y r.pair; left = r.left }
left_pair n (tree set kids more) x y (inr (inr h)) = let r = left_pair (n + 1 + size kids) more x y h in record { pair = along_pair n set kids more x y r.pair; left = r.left }

-- how the places of two nodes stand to each other
abbrev pub PlacesAre : ℕ → ℕ → ℕ → ℕ → Relation → Type 0
PlacesAre b e b' e' Same = b ≡ b'
PlacesAre b e b' e' Over = (b < b') × (b' < e)
PlacesAre b e b' e' Under = (b' < b) × (b < e')
PlacesAre b e b' e' Left = e ≤ b'
PlacesAre b e b' e' Right = e' ≤ b

module _ (F : Forest (List ℕ)) (once : AllOnce F) (x y b e b' e' : ℕ) (p : IsSpan 0 F x b e) (q : IsSpan 0 F y b' e') where
  places_of : (r : Relation) → RelatesIn F x y r → PlacesAre b e b' e' r
  places_of Same h =
      let s = same_pair 0 F x y h in
      let u = span_unique 0 F x b e s.pair.first s.pair.behind once p s.pair.is in
      let v = span_unique 0 F y b' e' s.pair.other_first s.pair.other_behind once q s.pair.other in
      u.0 ∙ s.same ∙ sym v.0
  places_of Over h =
      let s = over_pair 0 F x y h in
      let u = span_unique 0 F x b e s.pair.first s.pair.behind once p s.pair.is in
      let v = span_unique 0 F y b' e' s.pair.other_first s.pair.other_behind once q s.pair.other in
      let u0 = u.0 in let u1 = u.1 in let v0 = v.0 in let a = s.starts in let c = s.ends in
      (omega arith, omega arith)
  places_of Under h =
      let s = over_pair 0 F y x h in
      let u = span_unique 0 F y b' e' s.pair.first s.pair.behind once q s.pair.is in
      let v = span_unique 0 F x b e s.pair.other_first s.pair.other_behind once p s.pair.other in
      let u0 = u.0 in let u1 = u.1 in let v0 = v.0 in let a = s.starts in let c = s.ends in
      (omega arith, omega arith)
  places_of Left h =
      let s = left_pair 0 F x y h in
      let u = span_unique 0 F x b e s.pair.first s.pair.behind once p s.pair.is in
      let v = span_unique 0 F y b' e' s.pair.other_first s.pair.other_behind once q s.pair.other in
      let u1 = u.1 in let v0 = v.0 in let a = s.left in
      omega arith
  places_of Right h =
      let s = left_pair 0 F y x h in
      let u = span_unique 0 F y b' e' s.pair.first s.pair.behind once q s.pair.is in
      let v = span_unique 0 F x b e s.pair.other_first s.pair.other_behind once p s.pair.other in
      let u1 = u.1 in let v0 = v.0 in let a = s.left in
      omega arith

  places_one : (r s : Relation) → PlacesAre b e b' e' r → PlacesAre b e b' e' s → r ≡ s
  places_one Same Same g h = refl
  places_one Same Over g h = let w0 = (span_within 0 F x b e p).some in let w1 = (span_within 0 F y b' e' q).some in let h0 = h.0 in let h1 = h.1 in absurd (omega arith)
  places_one Same Under g h = let w0 = (span_within 0 F x b e p).some in let w1 = (span_within 0 F y b' e' q).some in let h0 = h.0 in let h1 = h.1 in absurd (omega arith)
  places_one Same Left g h = let w0 = (span_within 0 F x b e p).some in let w1 = (span_within 0 F y b' e' q).some in absurd (omega arith)
  places_one Same Right g h = let w0 = (span_within 0 F x b e p).some in let w1 = (span_within 0 F y b' e' q).some in absurd (omega arith)
  places_one Over Same g h = let w0 = (span_within 0 F x b e p).some in let w1 = (span_within 0 F y b' e' q).some in let g0 = g.0 in let g1 = g.1 in absurd (omega arith)
  places_one Over Over g h = refl
  places_one Over Under g h = let w0 = (span_within 0 F x b e p).some in let w1 = (span_within 0 F y b' e' q).some in let g0 = g.0 in let g1 = g.1 in let h0 = h.0 in let h1 = h.1 in absurd (omega arith)
  places_one Over Left g h = let w0 = (span_within 0 F x b e p).some in let w1 = (span_within 0 F y b' e' q).some in let g0 = g.0 in let g1 = g.1 in absurd (omega arith)
  places_one Over Right g h = let w0 = (span_within 0 F x b e p).some in let w1 = (span_within 0 F y b' e' q).some in let g0 = g.0 in let g1 = g.1 in absurd (omega arith)
  places_one Under Same g h = let w0 = (span_within 0 F x b e p).some in let w1 = (span_within 0 F y b' e' q).some in let g0 = g.0 in let g1 = g.1 in absurd (omega arith)
  places_one Under Over g h = let w0 = (span_within 0 F x b e p).some in let w1 = (span_within 0 F y b' e' q).some in let g0 = g.0 in let g1 = g.1 in let h0 = h.0 in let h1 = h.1 in absurd (omega arith)
  places_one Under Under g h = refl
  places_one Under Left g h = let w0 = (span_within 0 F x b e p).some in let w1 = (span_within 0 F y b' e' q).some in let g0 = g.0 in let g1 = g.1 in absurd (omega arith)
  places_one Under Right g h = let w0 = (span_within 0 F x b e p).some in let w1 = (span_within 0 F y b' e' q).some in let g0 = g.0 in let g1 = g.1 in absurd (omega arith)
  places_one Left Same g h = let w0 = (span_within 0 F x b e p).some in let w1 = (span_within 0 F y b' e' q).some in absurd (omega arith)
  places_one Left Over g h = let w0 = (span_within 0 F x b e p).some in let w1 = (span_within 0 F y b' e' q).some in let h0 = h.0 in let h1 = h.1 in absurd (omega arith)
  places_one Left Under g h = let w0 = (span_within 0 F x b e p).some in let w1 = (span_within 0 F y b' e' q).some in let h0 = h.0 in let h1 = h.1 in absurd (omega arith)
  places_one Left Left g h = refl
  places_one Left Right g h = let w0 = (span_within 0 F x b e p).some in let w1 = (span_within 0 F y b' e' q).some in absurd (omega arith)
  places_one Right Same g h = let w0 = (span_within 0 F x b e p).some in let w1 = (span_within 0 F y b' e' q).some in absurd (omega arith)
  places_one Right Over g h = let w0 = (span_within 0 F x b e p).some in let w1 = (span_within 0 F y b' e' q).some in let h0 = h.0 in let h1 = h.1 in absurd (omega arith)
  places_one Right Under g h = let w0 = (span_within 0 F x b e p).some in let w1 = (span_within 0 F y b' e' q).some in let h0 = h.0 in let h1 = h.1 in absurd (omega arith)
  places_one Right Left g h = let w0 = (span_within 0 F x b e p).some in let w1 = (span_within 0 F y b' e' q).some in absurd (omega arith)
  places_one Right Right g h = refl

-- two nodes stand to each other in one way only
pub relates_once : (F : Forest (List ℕ)) (x y : ℕ) (r s : Relation) → AllOnce F → IsIn F x → IsIn F y → RelatesIn F x y r → RelatesIn F x y s → r ≡ s
relates_once F x y r s once i j g h =
    let p = span_of 0 F x i in
    let q = span_of 0 F y j in
    places_one F once x y p.first p.behind q.first q.behind p.is q.is r s
    (places_of F once x y p.first p.behind q.first q.behind p.is q.is r g) (places_of F once x y p.first p.behind q.first q.behind p.is q.is s h)
