-- What follows where nothing is wrong with a tree.
use Rattle.std.specs.Prelude.{◌≡◌, ◌≢◌, ℕ, ◌<◌, ◌≤◌, List, [], ◌∷◌, length, Option, Some, None, Bool, true, false, IsTrue, ◌||◌, ◌⊎◌, refl}
use Rattle.std.proofs.Common.{inl, inr, ap, sym, ◌∙◌, arith}
use Rattle.std.proofs.lemmas.Bool.Decides.{eqb_tells, leb_tells}
use Rattle.std.proofs.lemmas.Option.{none-some, same_Some}
use Rattle.std.proofs.lemmas.Bool.{true_from_ne_false, false_from_ne_true}
use Rattle.gr_base.specs.Lists.{IsAmong}
use Rattle.gr_base.specs.Forests.{Forest, empty, tree, labels, leaf_labels, inner_labels}
use Rattle.gr_base.proofs.ListLemmas.{IsAmong-append, IsAmong-append_left, IsAmong-append_right}
use Rattle.gr_terms.specs.Constants.{ANCHOR, COANCHOR, SUBST, FOOT, LEX, EMPTY}
use Rattle.gr_terms.specs.Canonical.{Node}
use Rattle.td_tree.specs.TreeViews.{Pairs}
use Rattle.tg_grammar.specs.declared.flaw.Flaw.TheVariants as flaw
use Rattle.tg_grammar.specs.Facts.{HasGoodShape, HasWord}
use Rattle.tg_grammar.specs.Marks.{category_name, has_leaf_mark, is_marked, marked}
use Rattle.tg_grammar.specs.Shapes.{AreOneName, IsWellFormed, root_name}

pub some_of : (o : Option ℕ) → (o ≡ None → ⊥) → (a : ℕ) × (o ≡ Some a)
some_of None h = absurd (h refl)
some_of (Some a) h = (a, refl)

one_name_of : (c d : Option ℕ) → ((AreOneName c d → ⊥) → ⊥) → AreOneName c d
one_name_of None d h = absurd (h (λ x. none-some x.0 x.1))
one_name_of (Some a) None h = absurd (h (λ x. none-some x.0 x.2))
one_name_of (Some a) (Some b) h = elim (eqb_tells a b) [
  | inl e ↦ (b, ap Some e.1, refl)
  | inr e ↦ absurd (h (λ x. e.1 (same_Some a x.0 x.1 ∙ sym (same_Some b x.0 x.2))))
]

pub single_of : (xs : List ℕ) → ((length xs ≢ 1) → ⊥) → (k : ℕ) × (xs ≡ k ∷ [])
single_of [] h = absurd (h (λ e. omega arith))
single_of (k ∷ []) h = (k, refl)
single_of (k ∷ j ∷ rest) h = absurd (h (λ e. omega arith))

pub few_of : (n : ℕ) → (1 < n → ⊥) → n ≤ 1
few_of n h = elim (leb_tells n 1) [ inl e ↦ e.1 | inr e ↦ absurd (h (omega (arith, e.1))) ]

apart : (b : Bool) → b ≡ true → b ≡ false → ⊥
apart b t f = let h : true ≡ false = sym t ∙ f in cc

last_true : (a b c d e : Bool) → e ≡ true → (a || b || c || d || e) ≡ true
last_true true b c d e h = refl
last_true false true c d e h = refl
last_true false false true d e h = refl
last_true false false false true e h = refl
last_true false false false false e h = h

-- a node is a leaf or an inner node, and both are nodes
pub leaf_or_inner : {A : Type 0} (f : Forest A) (a : A) → IsAmong (labels f) a → IsAmong (leaf_labels f) a ⊎ IsAmong (inner_labels f) a
leaf_or_inner empty a i = absurd i
leaf_or_inner (tree b empty more) a (inl e) = inl (inl e)
leaf_or_inner (tree b empty more) a (inr i) = elim (leaf_or_inner more a i) [ inl h ↦ inl (inr h) | inr h ↦ inr h ]
leaf_or_inner (tree b (tree c others rest) more) a (inl e) = inr (inl e)
leaf_or_inner (tree b (tree c others rest) more) a (inr i) = elim (IsAmong-append (labels (tree c others rest)) (labels more) a i) [
  | inl k ↦ elim (leaf_or_inner (tree c others rest) a k) [
    | inl h ↦ inl (IsAmong-append_left (leaf_labels (tree c others rest)) (leaf_labels more) a h)
    | inr h ↦ inr (inr (IsAmong-append_left (inner_labels (tree c others rest)) (inner_labels more) a h))
  ]
  | inr k ↦ elim (leaf_or_inner more a k) [
    | inl h ↦ inl (IsAmong-append_right (leaf_labels (tree c others rest)) (leaf_labels more) a h)
    | inr h ↦ inr (inr (IsAmong-append_right (inner_labels (tree c others rest)) (inner_labels more) a h))
  ]
]

leaf_label : {A : Type 0} (f : Forest A) (a : A) → IsAmong (leaf_labels f) a → IsAmong (labels f) a
leaf_label empty a i = absurd i
leaf_label (tree b empty more) a (inl e) = inl e
leaf_label (tree b empty more) a (inr i) = inr (leaf_label more a i)
leaf_label (tree b (tree c others rest) more) a i = inr (elim (IsAmong-append (leaf_labels (tree c others rest)) (leaf_labels more) a i) [
  | inl k ↦ IsAmong-append_left (labels (tree c others rest)) (labels more) a (leaf_label (tree c others rest) a k)
  | inr k ↦ IsAmong-append_right (labels (tree c others rest)) (labels more) a (leaf_label more a k)
])

-- ---- a tree with nothing wrong has a good shape

lex_is_leaf_mark : (n : Node Pairs) → IsTrue (is_marked LEX n) → IsTrue (has_leaf_mark n)
lex_is_leaf_mark n h = last_true (is_marked SUBST n) (is_marked FOOT n) (is_marked ANCHOR n) (is_marked COANCHOR n) (is_marked LEX n) h

lex_leaf : (f : Forest (Node Pairs)) → IsWellFormed f → (n : Node Pairs) → IsAmong (labels f) n → IsTrue (is_marked LEX n) → IsAmong (leaf_labels f) n
lex_leaf f well n i m = elim (leaf_or_inner f n i) [ inl h ↦ h | inr h ↦ absurd (well flaw.MarkOnInner (n, h, lex_is_leaf_mark n m)) ]

word_of : (f : Forest (Node Pairs)) → IsWellFormed f → (n : Node Pairs) → IsAmong (labels f) n → IsTrue (is_marked LEX n) → HasWord n
word_of f well n i m =
    let leaf = lex_leaf f well n i m in
    let named = some_of (category_name n) (λ e. well flaw.NoWord (n, leaf, inr (m, inl e))) in
    (named.0, named.1, λ e. well flaw.NoWord (n, leaf, inr (m, inr (named.1 ∙ ap Some e))))

pub good_shape : (f : Forest (Node Pairs)) → IsWellFormed f → HasGoodShape f
good_shape f well = record {
  root = some_of (root_name f) (well flaw.RootCategory);
  substitutions = λ n i m. some_of (category_name n) (λ e. well flaw.SubstCategory (n, i, m, e));
  feet = λ n i m. one_name_of (root_name f) (category_name n) (λ h. well flaw.FootCategory (n, i, m, h));
  one_anchor = single_of (marked ANCHOR (labels f)) (well flaw.AnchorCount);
  few_feet = few_of (length (marked FOOT (labels f))) (well flaw.FootCount);
  inner = λ n i. false_from_ne_true (has_leaf_mark n) (λ m. well flaw.MarkOnInner (n, i, m));
  leaves = λ n i. true_from_ne_false (has_leaf_mark n) (λ m. well flaw.NoWord (n, i, inl m));
  words = word_of f well;
}

pub well_formed : (f : Forest (Node Pairs)) → HasGoodShape f → IsWellFormed f
well_formed f good flaw.RootCategory h = none-some good.root.0 (sym h ∙ good.root.1)
well_formed f good flaw.SubstCategory h = let named = good.substitutions h.0 h.1 h.2 in none-some named.0 (sym h.3 ∙ named.1)
well_formed f good flaw.FootCategory h = h.3 (good.feet h.0 h.1 h.2)
well_formed f good flaw.AnchorCount h = h (ap length good.one_anchor.1)
well_formed f good flaw.FootCount h = let le : length (marked FOOT (labels f)) ≤ 1 = good.few_feet in omega arith
well_formed f good flaw.MarkOnInner h = apart (has_leaf_mark h.0) h.2 (good.inner h.0 h.1)
well_formed f good flaw.NoWord h = elim h.2 [
  | inl m ↦ apart (has_leaf_mark h.0) (good.leaves h.0 h.1) m
  | inr x ↦
      let word = good.words h.0 (leaf_label f h.0 h.1) x.0 in
      elim x.1 [ inl e ↦ none-some word.0 (sym e ∙ word.1) | inr e ↦ word.2 (same_Some word.0 EMPTY (sym word.1 ∙ e)) ]
]
