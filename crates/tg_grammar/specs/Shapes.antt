-- Well-formed trees: what may be wrong with a tree, by the codes of the refusals.
use Rattle.std.specs.Prelude.{◌≡◌, ◌≢◌, ℕ, ◌<◌, ◌≤◌, Option, Some, None, IsTrue, IsFalse, ◌⊎◌, length}
use Rattle.gr_base.specs.Lists.{IsAmong}
use Rattle.gr_base.specs.Forests.{Forest, empty, tree, labels, leaf_labels, inner_labels, map_forest}
use Rattle.gr_terms.specs.Constants.{ANCHOR, SUBST, FOOT, LEX, EMPTY}
use Rattle.gr_terms.specs.Canonical.{Node}
use Rattle.td_tree.specs.Trees.{AreTreeNodes}
use Rattle.td_tree.specs.TreeViews.{Pairs, lists_of}
use Rattle.td_tree.specs.declared.Tree.{Tree}
use Rattle.tg_grammar.specs.declared.flaw.Flaw.{Flaw}
use Rattle.tg_grammar.specs.declared.flaw.Flaw.TheVariants as flaw
use Rattle.tg_grammar.specs.Marks.{category_name, is_marked, has_leaf_mark, marked}

-- the name that is the category of the first root
abbrev pub root_name : Forest (Node Pairs) → Option ℕ
root_name empty = None
root_name (tree n kids more) = category_name n

-- the two categories are one name
abbrev pub AreOneName : Option ℕ → Option ℕ → Type 0
AreOneName c d = (a : ℕ) × (c ≡ Some a) × (d ≡ Some a)

-- there is nothing to be written at a leaf: no mark of a leaf, or the mark `lex` and no word as category
abbrev pub LacksWord : Node Pairs → Type 0
LacksWord n = IsFalse (has_leaf_mark n) ⊎ (IsTrue (is_marked LEX n) × ((category_name n ≡ None) ⊎ (category_name n ≡ Some EMPTY)))

-- this is wrong with the tree
abbrev pub HasFlaw : Forest (Node Pairs) → Flaw → Type 0
HasFlaw f flaw.RootCategory = root_name f ≡ None
HasFlaw f flaw.SubstCategory = (n : Node Pairs) × IsAmong (labels f) n × IsTrue (is_marked SUBST n) × (category_name n ≡ None)
HasFlaw f flaw.FootCategory = (n : Node Pairs) × IsAmong (labels f) n × IsTrue (is_marked FOOT n) × (AreOneName (root_name f) (category_name n) → ⊥)
HasFlaw f flaw.AnchorCount = length (marked ANCHOR (labels f)) ≢ 1
HasFlaw f flaw.FootCount = 1 < length (marked FOOT (labels f))
HasFlaw f flaw.MarkOnInner = (n : Node Pairs) × IsAmong (inner_labels f) n × IsTrue (has_leaf_mark n)
HasFlaw f flaw.NoWord = (n : Node Pairs) × IsAmong (leaf_labels f) n × LacksWord n

abbrev pub code_of : Flaw → ℕ
code_of flaw.RootCategory = 30
code_of flaw.SubstCategory = 31
code_of flaw.FootCategory = 32
code_of flaw.AnchorCount = 33
code_of flaw.FootCount = 34
code_of flaw.MarkOnInner = 35
code_of flaw.NoWord = 36

-- nothing is wrong with the tree
abbrev pub IsWellFormed : Forest (Node Pairs) → Type 0
IsWellFormed f = (w : Flaw) → HasFlaw f w → ⊥

-- of what P says is wrong, this has the lowest code
abbrev pub IsLowest : (Flaw → Type 0) → Flaw → Type 0
IsLowest P w = P w × ((v : Flaw) → P v → code_of w ≤ code_of v)

-- the same of a tree of the code
pub record IsWellFormedTree (t : Tree) : Type 0 where
  pub nodes : AreTreeNodes t.nodes
  pub well_formed : IsWellFormed (map_forest lists_of nodes.forest)

pub record IsFirstFlaw (t : Tree) (w : Flaw) : Type 0 where
  pub nodes : AreTreeNodes t.nodes
  pub lowest : IsLowest (HasFlaw (map_forest lists_of nodes.forest)) w
