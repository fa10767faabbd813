-- Relations of a description by recursion on the forest, and that they are those by positions.
use Rattle.std.specs.Prelude.{◌≡◌, ℕ, zero, suc, ◌<◌, List, [], ◌∷◌, ◌++◌, ◌⊎◌, Option, Some, None, refl}
use Rattle.std.proofs.Common.{inl, inr, ap, sym, ◌∙◌, subst}
use Rattle.std.proofs.lemmas.Option.{same_Some}
use Rattle.gr_base.specs.Lists.{IsAmong}
use Rattle.gr_base.specs.Forests.{Forest, empty, tree, labels, label_at, IsOver, IsLeftOf}
use Rattle.gr_base.proofs.ListLemmas.{Each-at, IsAmong-append_left, IsAmong-append_right}
use Rattle.td_forest.specs.declared.Relation.TheVariants as how
use Rattle.td_forest.specs.Nodes.{Stands, IsNodeSet, IsForest, IsForestOf}
use Rattle.td_forest.specs.Without.{without}
use Rattle.td_forest.proofs.Twins.{AreSameIn, IsOverIn, IsLeftIn, IsParentIn, IsNextIn, IsForestBelow}
use Rattle.td_forest.proofs.Positions.{by_position, stands_once, at_over, at_left, at_same}
use Rattle.td_forest.proofs.Forming.{forest_is, of_below}
use Rattle.td_forest.proofs.Keeping.{deletion_relations, deletion_parent, deletion_next}
use Rattle.td_desc.specs.declared.Dominance.{Dominance}
use Rattle.td_desc.specs.declared.Dominance.TheVariants.{Parent, Above, AboveOrSame, Next, Left, LeftOrSame}
use Rattle.td_colour.specs.Relations.{Holds}

abbrev pub HoldsIn : Forest (List ℕ) → Dominance → ℕ → ℕ → Type 0
HoldsIn F Parent x y = IsParentIn F x y
HoldsIn F Above x y = IsOverIn F x y
HoldsIn F AboveOrSame x y = IsOverIn F x y ⊎ AreSameIn F x y
HoldsIn F Next x y = IsNextIn F x y
HoldsIn F Left x y = IsLeftIn F x y
HoldsIn F LeftOrSame x y = IsLeftIn F x y ⊎ AreSameIn F x y

-- what stands at a position is a set of the forest
label_among : {A : Type 0} (F : Forest A) (p : List ℕ) (a : A) → label_at F p ≡ Some a → IsAmong (labels F) a
label_among {A} empty p a e = let q : ◌≡◌ {A = Option A} None (Some a) = e in absurd (differ q)
  where
    differ : ◌≡◌ {A = Option A} None (Some a) → ⊥
    differ q = cc
label_among {A} (tree b kids more) [] a e = absurd (differ e)
  where
    differ : ◌≡◌ {A = Option A} None (Some a) → ⊥
    differ q = cc
label_among (tree b kids more) (zero ∷ []) a e = inl (same_Some a b (sym e))
label_among (tree b kids more) (zero ∷ j ∷ p) a e = inr (IsAmong-append_left (labels kids) (labels more) a (label_among kids (j ∷ p) a e))
label_among (tree b kids more) (suc i ∷ p) a e = inr (IsAmong-append_right (labels kids) (labels more) a (label_among more (i ∷ p) a e))

-- some node stands there
stands_there : (F : Forest (List ℕ)) (p set : List ℕ) → IsForest F → label_at F p ≡ Some set → (z : ℕ) × Stands F z p
stands_there F p set f e = let m = member set (Each-at IsNodeSet (labels F) set f.sets (label_among F p set e)).0 in (m.0, (set, e, m.1))
  where
    member : (set : List ℕ) → (set ≡ [] → ⊥) → (z : ℕ) × IsAmong set z
    member [] full = absurd (full refl)
    member (z ∷ zs) full = (z, inl refl)

-- prefixes
over-more : (p : List ℕ) (k : ℕ) (r : List ℕ) → IsOver p (p ++ k ∷ r)
over-more [] k r = tt
over-more (i ∷ p) k r = (refl, over-more p k r)

over-rest : (p q : List ℕ) → IsOver p q → (k : ℕ) × (r : List ℕ) × (q ≡ p ++ k ∷ r)
over-rest p [] h = absurd h
over-rest [] (j ∷ q) h = (j, q, refl)
over-rest (i ∷ p) (j ∷ q) h = let r = over-rest p q h.1 in (r.0, r.1, ap (λ z. z ∷ q) (sym h.0) ∙ ap (λ z. i ∷ z) r.2)

over-shorter : (p : List ℕ) (k j : ℕ) (r : List ℕ) → IsOver (p ++ k ∷ []) (p ++ k ∷ j ∷ r)
over-shorter [] k j r = (refl, tt)
over-shorter (i ∷ p) k j r = (refl, over-shorter p k j r)

none_over : (p r : List ℕ) (k : ℕ) → IsOver p r → IsOver r (p ++ k ∷ []) → ⊥
none_over p [] k a b = a
none_over [] (j ∷ r) k a b = b.1
none_over (i ∷ p) (j ∷ r) k a b = none_over p r k a.1 b.1

-- a prefix of a position is one
prefix_at : {A : Type 0} (F : Forest A) (i : ℕ) (p : List ℕ) (j : ℕ) (r : List ℕ) (a : A) → label_at F (i ∷ p ++ j ∷ r) ≡ Some a → (b : A) × (label_at F (i ∷ p) ≡ Some b)
prefix_at {A} empty i p j r a e = absurd (differ e)
  where
    differ : ◌≡◌ {A = Option A} None (Some a) → ⊥
    differ q = cc
prefix_at (tree b kids more) zero [] j r a e = (b, refl)
prefix_at (tree b kids more) zero (k ∷ p) j r a e = prefix_at kids k p j r a e
prefix_at (tree b kids more) (suc i) p j r a e = prefix_at more i p j r a e

one_more_at : {A : Type 0} (F : Forest A) (p : List ℕ) (k j : ℕ) (r : List ℕ) (a : A) → label_at F (p ++ k ∷ j ∷ r) ≡ Some a → (b : A) × (label_at F (p ++ k ∷ []) ≡ Some b)
one_more_at F [] k j r a e = prefix_at F k [] j r a e
one_more_at F (i ∷ p) k j r a e = prefix_at F i (p ++ k ∷ []) j r a (subst (λ z. label_at F (i ∷ z) ≡ Some a) (sym (regroup p)) e)
  where
    regroup : (p : List ℕ) → p ++ k ∷ [] ++ j ∷ r ≡ p ++ k ∷ j ∷ r
    regroup [] = refl
    regroup (i ∷ p) = ap (λ z. i ∷ z) (regroup p)

module _ (F : Forest (List ℕ)) (f : IsForest F) (x y : ℕ) where
  once : (z : ℕ) (p q : List ℕ) → Stands F z p → Stands F z q → p ≡ q
  once z p q = stands_once F z p q (forest_is F f).once

  pub holds_in : (how : Dominance) → Holds F how x y → HoldsIn F how x y
  holds_in Parent h =
      let p = h.0 in
      let k = h.4.0 in
      let over : IsOver p h.1 = subst (λ q. IsOver p q) (sym h.4.1) (over-more p k []) in (
        at_over F x y p h.1 h.2 h.3 over,
        λ z a b.
            let s = by_position F x z how.Over a in
            let t = by_position F z y how.Over b in
            let below : IsOver p s.1 = subst (λ q. IsOver q s.1) (once x s.0 p s.2 h.2) s.4 in
            let above : IsOver s.1 h.1 = subst (λ q. IsOver s.1 q) (once y t.1 h.1 t.3 h.3) (subst (λ q. IsOver q t.1) (once z t.0 s.1 t.2 s.3) t.4) in
            none_over p s.1 k below (subst (λ q. IsOver s.1 q) h.4.1 above),
      )
  holds_in Above h = at_over F x y h.0 h.1 h.2 h.3 h.4
  holds_in AboveOrSame h = elim h.4 [ inl o ↦ inl (at_over F x y h.0 h.1 h.2 h.3 o) | inr e ↦ inr (at_same F x y h.0 h.2 (subst (λ q. Stands F y q) (sym e) h.3)) ]
  holds_in Next h = (
    at_left F x y h.0 h.1 h.2 h.3 h.4.0,
    λ z a b.
        let s = by_position F x z how.Left a in
        let t = by_position F z y how.Left b in
        let right : IsLeftOf h.0 s.1 = subst (λ q. IsLeftOf q s.1) (once x s.0 h.0 s.2 h.2) s.4 in
        let left : IsLeftOf s.1 h.1 = subst (λ q. IsLeftOf s.1 q) (once y t.1 h.1 t.3 h.3) (subst (λ q. IsLeftOf q t.1) (once z t.0 s.1 t.2 s.3) t.4) in
        h.4.1 s.3.0 s.1 s.3.1 right left,
  )
  holds_in Left h = at_left F x y h.0 h.1 h.2 h.3 h.4
  holds_in LeftOrSame h = elim h.4 [ inl o ↦ inl (at_left F x y h.0 h.1 h.2 h.3 o) | inr e ↦ inr (at_same F x y h.0 h.2 (subst (λ q. Stands F y q) (sym e) h.3)) ]

  -- a parent's position is one shorter, since else some node stood between
  one_shorter : (p : List ℕ) (k : ℕ) (r q : List ℕ) → q ≡ p ++ k ∷ r → Stands F x p → Stands F y q → ((z : ℕ) → IsOverIn F x z → IsOverIn F z y → ⊥) → (k : ℕ) × (q ≡ p ++ k ∷ [])
  one_shorter p k [] q e a b none = (k, e)
  one_shorter p k (j ∷ r) q e a b none =
      let b' : Stands F y (p ++ k ∷ j ∷ r) = subst (λ w. Stands F y w) e b in
      let at = one_more_at F p k j r b'.0 b'.1 in
      let z = stands_there F (p ++ k ∷ []) at.0 f at.1 in
      absurd (none z.0 (at_over F x z.0 p (p ++ k ∷ []) a z.1 (over-more p k [])) (at_over F z.0 y (p ++ k ∷ []) (p ++ k ∷ j ∷ r) z.1 b' (over-shorter p k j r)))

  pub in_holds : (how : Dominance) → HoldsIn F how x y → Holds F how x y
  in_holds Parent h =
      let s = by_position F x y how.Over h.0 in
      let r = over-rest s.0 s.1 s.4 in
      (s.0, s.1, s.2, s.3, one_shorter s.0 r.0 r.1 s.1 r.2 s.2 s.3 h.1)
  in_holds Above h = by_position F x y how.Over h
  in_holds AboveOrSame h = elim h [
    | inl o ↦ let s = by_position F x y how.Over o in (s.0, s.1, s.2, s.3, inl s.4)
    | inr o ↦ let s = by_position F x y how.Same o in (s.0, s.1, s.2, s.3, inr s.4)
  ]
  in_holds Next h =
      let s = by_position F x y how.Left h.0 in (
        s.0,
        s.1,
        s.2,
        s.3,
        (
          s.4,
          λ set r e a b.
              let z = stands_there F r set f e in
              h.1 z.0 (at_left F x z.0 s.0 r s.2 z.1 a) (at_left F z.0 y r s.1 z.1 s.3 b),
        ),
      )
  in_holds Left h = by_position F x y how.Left h
  in_holds LeftOrSame h = elim h [
    | inl o ↦ let s = by_position F x y how.Left o in (s.0, s.1, s.2, s.3, inl s.4)
    | inr o ↦ let s = by_position F x y how.Same o in (s.0, s.1, s.2, s.3, inr s.4)
  ]

-- a relation between other nodes survives when the last node is taken out
less_in : (m : ℕ) (G : Forest (List ℕ)) → IsForestBelow (suc m) G → (x y : ℕ) → x < m → y < m → (how : Dominance) → HoldsIn G how x y → HoldsIn (without m G) how x y
less_in m G g x y a b Parent h = deletion_parent m G g x y a b h
less_in m G g x y a b Above h = ((deletion_relations m G g).over x y a b).1 h
less_in m G g x y a b AboveOrSame h = elim h [ inl o ↦ inl (((deletion_relations m G g).over x y a b).1 o) | inr o ↦ inr (((deletion_relations m G g).same x y a b).1 o) ]
less_in m G g x y a b Next h = deletion_next m G g x y a b h
less_in m G g x y a b Left h = ((deletion_relations m G g).left x y a b).1 h
less_in m G g x y a b LeftOrSame h = elim h [ inl o ↦ inl (((deletion_relations m G g).left x y a b).1 o) | inr o ↦ inr (((deletion_relations m G g).same x y a b).1 o) ]

pub holds_less : (m : ℕ) (G : Forest (List ℕ)) → IsForestOf (suc m) G → IsForestOf m (without m G) → (x y : ℕ) → x < m → y < m → (how : Dominance) → Holds G how x y → Holds (without m G) how x y
holds_less m G g f x y a b how h = in_holds (without m G) f.forest x y how (less_in m G (of_below (suc m) G g) x y a b how (holds_in G g.forest x y how h))
