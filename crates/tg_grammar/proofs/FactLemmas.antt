-- The nodes of a mark, from the front, and those of a well-formed tree.
use Rattle.std.specs.Prelude.{◌≡◌, ℕ, suc, ◌+◌, ◌≤◌, List, [], ◌∷◌, length, drop, slice_get, Option, Some, None, true, false, if◌then◌else◌, MatchOption}
use Rattle.std.proofs.Common.{ap, sym, ◌∙◌, subst, arith}
use Rattle.gr_base.specs.Forests.{labels, map_forest}
use Rattle.gr_base.proofs.ListLemmas.{drop-slice_get}
use Rattle.gr_terms.specs.Constants.{ANCHOR, FOOT}
use Rattle.td_tree.specs.TreeViews.{lists_of}
use Rattle.td_tree.specs.declared.Tree.{Tree}
use Rattle.td_tree.specs.declared.TreeNode.{TreeNode}
use Rattle.tg_grammar.specs.declared.flaw.Flaw.TheVariants as flaw
use Rattle.tg_grammar.specs.Marks.{first_name, is_marked, lists_at, marked, node_lists, numbers_from}
use Rattle.tg_grammar.specs.Shapes.{IsWellFormedTree}
use Rattle.tg_grammar.proofs.ShapeLemmas.{few_of, single_of}
use Rattle.tg_grammar.proofs.SightLemmas.{first_name-root, labels-nodes}

-- the numbers from a place on: the node there has the mark, or not
pub marked_here : (m : ℕ) (nodes : List TreeNode) (i : ℕ) (x : TreeNode) → slice_get nodes i ≡ Some x → is_marked m (lists_at x) ≡ true →
    numbers_from i (is_marked m) (node_lists (drop i nodes)) ≡ i ∷ numbers_from (suc i) (is_marked m) (node_lists (drop (suc i) nodes))
marked_here m nodes i x at e =
    let more = numbers_from (suc i) (is_marked m) (node_lists (drop (suc i) nodes)) in
    ap (λ xs. numbers_from i (is_marked m) (node_lists xs)) (drop-slice_get nodes i x at) ∙ ap (λ b. if b then (i ∷ more) else more) e

pub unmarked_here : (m : ℕ) (nodes : List TreeNode) (i : ℕ) (x : TreeNode) → slice_get nodes i ≡ Some x → is_marked m (lists_at x) ≡ false →
    numbers_from i (is_marked m) (node_lists (drop i nodes)) ≡ numbers_from (i + 1) (is_marked m) (node_lists (drop (i + 1) nodes))
unmarked_here m nodes i x at e =
    let more = numbers_from (suc i) (is_marked m) (node_lists (drop (suc i) nodes)) in
    let next : suc i ≡ i + 1 = omega arith in
    ap (λ xs. numbers_from i (is_marked m) (node_lists xs)) (drop-slice_get nodes i x at) ∙ ap (λ b. if b then (i ∷ more) else more) e
    ∙ ap (λ k. numbers_from k (is_marked m) (node_lists (drop k nodes))) next

-- one anchor, at most one foot, and the root's category
anchors : (t : Tree) → IsWellFormedTree t → (k : ℕ) × (marked ANCHOR (node_lists t.nodes) ≡ k ∷ [])
anchors t h = subst (λ ns. (k : ℕ) × (marked ANCHOR ns ≡ k ∷ [])) (labels-nodes t.nodes h.nodes) (single_of (marked ANCHOR (labels (map_forest lists_of h.nodes.forest))) (h.well_formed flaw.AnchorCount))

pub anchor_alone : (t : Tree) → IsWellFormedTree t → (k : ℕ) (rest : List ℕ) → marked ANCHOR (node_lists t.nodes) ≡ k ∷ rest → marked ANCHOR (node_lists t.nodes) ≡ k ∷ []
anchor_alone t h k rest e = let one = anchors t h in let same : one.0 ∷ [] ≡ k ∷ rest = sym one.1 ∙ e in let head : one.0 ≡ k = cc in one.1 ∙ ap (λ j. j ∷ []) head

pub anchor_there : (t : Tree) → IsWellFormedTree t → marked ANCHOR (node_lists t.nodes) ≡ [] → ⊥
anchor_there t h e = let one = anchors t h in let same : one.0 ∷ [] ≡ [] = sym one.1 ∙ e in cc

pub foot_alone : (t : Tree) → IsWellFormedTree t → (k : ℕ) (rest : List ℕ) → marked FOOT (node_lists t.nodes) ≡ k ∷ rest → marked FOOT (node_lists t.nodes) ≡ k ∷ []
foot_alone t h k rest e = by rest e (subst (λ ns. length (marked FOOT ns) ≤ 1) (labels-nodes t.nodes h.nodes) (few_of (length (marked FOOT (labels (map_forest lists_of h.nodes.forest)))) (h.well_formed flaw.FootCount)))
  where
    by : (rest : List ℕ) → marked FOOT (node_lists t.nodes) ≡ k ∷ rest → length (marked FOOT (node_lists t.nodes)) ≤ 1 → marked FOOT (node_lists t.nodes) ≡ k ∷ []
    by [] e le = e
    by (j ∷ more) e le = absurd (omega (arith, le, ap length e))

pub root_there : (t : Tree) → IsWellFormedTree t → first_name t.nodes ≡ None → ⊥
root_there t h e = h.well_formed flaw.RootCategory (sym (first_name-root t.nodes h.nodes) ∙ e)

pub foot_found : (t : Tree) → IsWellFormedTree t → (nodes : List TreeNode) (o : Option ℕ) → nodes ≡ t.nodes
    → MatchOption o (marked FOOT (node_lists nodes) ≡ []) (λ k. (rest : List ℕ) × (marked FOOT (node_lists nodes) ≡ k ∷ rest))
    → MatchOption o (marked FOOT (node_lists t.nodes) ≡ []) (λ k. marked FOOT (node_lists t.nodes) ≡ k ∷ [])
foot_found t h nodes None e found = ap (λ ns. marked FOOT (node_lists ns)) (sym e) ∙ found
foot_found t h nodes (Some k) e found = foot_alone t h k found.0 (ap (λ ns. marked FOOT (node_lists ns)) (sym e) ∙ found.1)
