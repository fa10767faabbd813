-- A list of classes has at most one first refusal.
use Rattle.std.specs.Prelude.{◌≡◌, ℕ, zero, suc, ◌<◌, ◌≤◌, List, [], ◌∷◌, take, slice_get, Some, refl}
use Rattle.std.proofs.Common.{ap, sym, ◌∙◌, subst, arith}
use Rattle.std.proofs.lemmas.Option.{none-some, same_Some}
use Rattle.gr_base.specs.Lists.{Each}
use Rattle.gr_base.specs.Forests.{map_forest}
use Rattle.gr_terms.specs.declared.Sym.{Sym}
use Rattle.td_canon.specs.TreeSets.{trees_of}
use Rattle.td_canon.specs.declared.tree_set.ClassTrees.{ClassTrees}
use Rattle.td_tree.specs.Trees.{AreTreeNodes}
use Rattle.td_tree.specs.TreeViews.{lists_of}
use Rattle.td_tree.specs.declared.Tree.{Tree}
use Rattle.td_tree.specs.declared.TreeNode.{TreeNode}
use Rattle.td_tree.proofs.PreorderLemmas.{preorder-unique}
use Rattle.tg_grammar.specs.declared.flaw.Flaw.{Flaw}
use Rattle.tg_grammar.specs.Grammars.{IsFirstOfClass, IsFirstRefusal, IsGrammar, IsWellFormedClass}
use Rattle.tg_grammar.specs.Shapes.{HasFlaw, IsFirstFlaw, IsWellFormedTree, code_of}
use Rattle.tg_grammar.proofs.GrammarLemmas.{Each-slice_get}

-- the nodes have one forest
one_forest : (nodes : List TreeNode) (t u : AreTreeNodes nodes) → t.forest ≡ u.forest
one_forest nodes t u = preorder-unique t.forest u.forest (sym t.laid ∙ u.laid)

-- a tree with a flaw isn't well formed, and it has one first flaw
flawed : (t : Tree) (w : Flaw) → IsFirstFlaw t w → IsWellFormedTree t → ⊥
flawed t w h g = g.well_formed w (subst (λ f. HasFlaw (map_forest lists_of f) w) (one_forest t.nodes h.nodes g.nodes) h.lowest.0)

one_code : (t : Tree) (v w : Flaw) → IsFirstFlaw t v → IsFirstFlaw t w → code_of v ≡ code_of w
one_code t v w h g =
    let same = one_forest t.nodes h.nodes g.nodes in
    let le : code_of v ≤ code_of w = h.lowest.1 w (subst (λ f. HasFlaw (map_forest lists_of f) w) (sym same) g.lowest.0) in
    let ge : code_of w ≤ code_of v = g.lowest.1 v (subst (λ f. HasFlaw (map_forest lists_of f) v) same h.lowest.0) in
    omega arith

before : {A : Type 0} (xs : List A) (i j : ℕ) (x : A) → i < j → slice_get xs i ≡ Some x → slice_get (take j xs) i ≡ Some x
before [] i j x lt at = absurd (none-some x at)
before (y ∷ ys) i zero x lt at = absurd (omega arith)
before (y ∷ ys) zero (suc j) x lt at = at
before (y ∷ ys) (suc i) (suc j) x lt at = before ys i j x (omega arith) at

-- of two places, each of which holds P before it and not there, both are one
one_place : {A : Type 0} (P : A → Type 0) (xs : List A) (i j : ℕ) (x y : A) → slice_get xs i ≡ Some x → slice_get xs j ≡ Some y → Each P (take i xs) → Each P (take j xs) → (P x → ⊥) → (P y → ⊥) → i ≡ j
one_place P xs i j x y at bt each all not nor =
    order i j (λ lt. not (Each-slice_get P (take j xs) i x all (before xs i j x lt at))) (λ lt. nor (Each-slice_get P (take i xs) j y each (before xs j i y lt bt)))
  where
    order : (i j : ℕ) → (i < j → ⊥) → (j < i → ⊥) → i ≡ j
    order zero zero a b = refl
    order zero (suc j) a b = absurd (a (omega arith))
    order (suc i) zero a b = absurd (b (omega arith))
    order (suc i) (suc j) a b = ap suc (order i j (λ h. a (omega arith)) (λ h. b (omega arith)))

class_flawed : (c : ClassTrees) (code number : ℕ) → IsFirstOfClass c code number → IsWellFormedClass c → ⊥
class_flawed c code number h all = flawed h.tree h.flaw h.first (Each-slice_get IsWellFormedTree (trees_of c.trees) h.at h.tree all h.here)

one_of_class : (c : ClassTrees) (code other number further : ℕ) → IsFirstOfClass c code number → IsFirstOfClass c other further → (code ≡ other) × (number ≡ further)
one_of_class c code other number further h g =
    let place = one_place IsWellFormedTree (trees_of c.trees) h.at g.at h.tree g.tree h.here g.here h.earlier g.earlier (flawed h.tree h.flaw h.first) (flawed g.tree g.flaw g.first) in
    let same : h.tree ≡ g.tree = same_Some h.tree g.tree (sym h.here ∙ ap (slice_get (trees_of c.trees)) place ∙ g.here) in (
      h.coded ∙ one_code g.tree h.flaw g.flaw (subst (λ t. IsFirstFlaw t h.flaw) same h.first) g.first ∙ sym g.coded,
      h.counted ∙ ap suc place ∙ sym g.counted,
    )

pub one_refusal : (classes : List ClassTrees) (code other : ℕ) (class another : Sym) (number further : ℕ) → IsFirstRefusal classes code class number
    → IsFirstRefusal classes other another further → (code ≡ other) × (class ≡ another) × (number ≡ further)
one_refusal classes code other class another number further h g =
    let place = one_place IsWellFormedClass classes h.at g.at h.here g.here h.is g.is h.earlier g.earlier (class_flawed h.here code number h.first) (class_flawed g.here other further g.first) in
    let same : h.here ≡ g.here = same_Some h.here g.here (sym h.is ∙ ap (slice_get classes) place ∙ g.is) in
    let both = one_of_class g.here code other number further (subst (λ c. IsFirstOfClass c code number) same h.first) g.first in
    (both.0, sym h.named ∙ ap (λ c. c.class) same ∙ g.named, both.1)

pub no_refusal : (classes : List ClassTrees) (code : ℕ) (class : Sym) (number : ℕ) → IsGrammar classes → IsFirstRefusal classes code class number → ⊥
no_refusal classes code class number all h = class_flawed h.here code number h.first (Each-slice_get IsWellFormedClass classes h.at h.here all h.is)
