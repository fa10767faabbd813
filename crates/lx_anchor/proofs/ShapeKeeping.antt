-- A forest whose nodes keep the marks and the names of categories of another one keeps its good shape.
use Rattle.std.specs.Prelude.{◌≡◌, ℕ, suc, ◌≤◌, List, [], ◌∷◌, length, Some, ◌||◌, IsTrue, if◌then◌else◌, refl}
use Rattle.std.specs.List.{AllZip}
use Rattle.std.proofs.Common.{subst, sym, ◌∙◌}
use Rattle.gr_base.specs.Forests.{Forest, empty, tree, labels, leaf_labels, inner_labels, AreAlike}
use Rattle.gr_base.proofs.Zips.{AllZip-append, labels-alike, AllZip-second}
use Rattle.gr_terms.specs.Constants.{ANCHOR, COANCHOR, FOOT, LEX, SUBST}
use Rattle.gr_terms.specs.Canonical.{Node}
use Rattle.td_tree.specs.TreeViews.{Pairs}
use Rattle.tg_grammar.specs.Facts.{HasGoodShape}
use Rattle.tg_grammar.specs.Marks.{category_name, has_leaf_mark, is_marked, marked, numbers_from}
use Rattle.tg_grammar.specs.Shapes.{AreOneName, IsWellFormed, root_name}
use Rattle.tg_grammar.proofs.ShapeLemmas.{good_shape, well_formed}

-- the new node has the marks of the old one, and its category where that is a name
pub record Keeps (old new : Node Pairs) : Type 0 where
  pub marks : (m : ℕ) → is_marked m new ≡ is_marked m old
  pub category : (a : ℕ) → category_name old ≡ Some a → category_name new ≡ Some a

leaf_mark-kept : (old new : Node Pairs) → Keeps old new → has_leaf_mark new ≡ has_leaf_mark old
leaf_mark-kept old new k =
    let a = k.marks SUBST in
    let b = k.marks FOOT in
    let c = k.marks ANCHOR in
    let d = k.marks COANCHOR in
    let e = k.marks LEX in
    λ i. a i || b i || c i || d i || e i

-- ---- nodes of forests that are alike

zip-leaves : {A B : Type 0} (R : A → B → Type 0) (f : Forest A) (g : Forest B) → AreAlike R f g → AllZip R (leaf_labels f) (leaf_labels g)
zip-leaves R empty empty h = tt
zip-leaves R empty (tree b others rest) h = absurd h
zip-leaves R (tree a kids more) empty h = absurd h
zip-leaves R (tree a empty more) (tree b empty rest) h = (h.0, zip-leaves R more rest h.2)
zip-leaves R (tree a empty more) (tree b (tree d others rest') rest) h = absurd h.1
zip-leaves R (tree a (tree c kids more') more) (tree b empty rest) h = absurd h.1
zip-leaves R (tree a (tree c kids more') more) (tree b (tree d others rest') rest) h =
    AllZip-append R (leaf_labels (tree c kids more')) (leaf_labels more) (leaf_labels (tree d others rest')) (leaf_labels rest) (zip-leaves R (tree c kids more') (tree d others rest') h.1) (zip-leaves R more rest h.2)

zip-inner : {A B : Type 0} (R : A → B → Type 0) (f : Forest A) (g : Forest B) → AreAlike R f g → AllZip R (inner_labels f) (inner_labels g)
zip-inner R empty empty h = tt
zip-inner R empty (tree b others rest) h = absurd h
zip-inner R (tree a kids more) empty h = absurd h
zip-inner R (tree a empty more) (tree b empty rest) h = zip-inner R more rest h.2
zip-inner R (tree a empty more) (tree b (tree d others rest') rest) h = absurd h.1
zip-inner R (tree a (tree c kids more') more) (tree b empty rest) h = absurd h.1
zip-inner R (tree a (tree c kids more') more) (tree b (tree d others rest') rest) h = (
  h.0,
  AllZip-append R (inner_labels (tree c kids more')) (inner_labels more) (inner_labels (tree d others rest')) (inner_labels rest) (zip-inner R (tree c kids more') (tree d others rest') h.1) (zip-inner R more rest h.2),
)

-- the marks stand at the same numbers
pub zip-marked : (m n : ℕ) (xs ys : List (Node Pairs)) → AllZip Keeps xs ys → numbers_from n (is_marked m) ys ≡ numbers_from n (is_marked m) xs
zip-marked m n [] [] h = refl
zip-marked m n [] (y ∷ ys) h = absurd h
zip-marked m n (x ∷ xs) [] h = absurd h
zip-marked m n (x ∷ xs) (y ∷ ys) h =
    let here = h.0.marks m in
    let rest = zip-marked m (suc n) xs ys h.1 in
    λ i. if here i then (n ∷ rest i) else rest i

-- ---- the shape

module _ (f g : Forest (Node Pairs)) (alike : AreAlike Keeps f g) where
  root-kept : (f g : Forest (Node Pairs)) → AreAlike Keeps f g → (a : ℕ) → root_name f ≡ Some a → root_name g ≡ Some a
  root-kept empty empty h a e = e
  root-kept empty (tree y others rest) h a e = absurd h
  root-kept (tree x kids more) empty h a e = absurd h
  root-kept (tree x kids more) (tree y others rest) h a e = h.0.category a e

  one_name-kept : (x y : Node Pairs) → Keeps x y → AreOneName (root_name f) (category_name x) → AreOneName (root_name g) (category_name y)
  one_name-kept x y k (a, root, node) = (a, root-kept f g alike a root, k.category a node)

  pub marked-kept : (m : ℕ) → marked m (labels g) ≡ marked m (labels f)
  marked-kept m = zip-marked m 0 (labels f) (labels g) (labels-alike Keeps f g alike)

  was : (m : ℕ) (x y : Node Pairs) → Keeps x y → IsTrue (is_marked m y) → IsTrue (is_marked m x)
  was m x y k h = sym (k.marks m) ∙ h

  shape-kept : HasGoodShape f → HasGoodShape g
  shape-kept good = record {
    root = (good.root.0, root-kept f g alike good.root.0 good.root.1);
    substitutions = λ y i m.
        let r = AllZip-second Keeps (labels f) (labels g) y (labels-alike Keeps f g alike) i in
        let c = good.substitutions r.0 r.1 (was SUBST r.0 y r.2 m) in
        (c.0, r.2.category c.0 c.1);
    feet = λ y i m.
        let r = AllZip-second Keeps (labels f) (labels g) y (labels-alike Keeps f g alike) i in
        one_name-kept r.0 y r.2 (good.feet r.0 r.1 (was FOOT r.0 y r.2 m));
    one_anchor = (good.one_anchor.0, marked-kept ANCHOR ∙ good.one_anchor.1);
    few_feet = subst (λ ms. length ms ≤ 1) (sym (marked-kept FOOT)) good.few_feet;
    inner = λ y i.
        let r = AllZip-second Keeps (inner_labels f) (inner_labels g) y (zip-inner Keeps f g alike) i in
        leaf_mark-kept r.0 y r.2 ∙ good.inner r.0 r.1;
    leaves = λ y i.
        let r = AllZip-second Keeps (leaf_labels f) (leaf_labels g) y (zip-leaves Keeps f g alike) i in
        leaf_mark-kept r.0 y r.2 ∙ good.leaves r.0 r.1;
    words = λ y i m.
        let r = AllZip-second Keeps (labels f) (labels g) y (labels-alike Keeps f g alike) i in
        let w = good.words r.0 r.1 (was LEX r.0 y r.2 m) in
        (w.0, r.2.category w.0 w.1, w.2);
  }

  pub well_formed-kept : IsWellFormed f → IsWellFormed g
  well_formed-kept h = well_formed g (shape-kept (good_shape f h))
