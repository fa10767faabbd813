-- What the layers above use of a well-formed tree.
use Rattle.std.specs.Prelude.{◌≡◌, ℕ, ◌≤◌, [], ◌∷◌, Some, IsTrue, IsFalse, length}
use Rattle.gr_base.specs.Lists.{IsAmong}
use Rattle.gr_base.specs.Forests.{Forest, labels, leaf_labels, inner_labels}
use Rattle.gr_terms.specs.Constants.{ANCHOR, SUBST, FOOT, LEX, EMPTY}
use Rattle.gr_terms.specs.Canonical.{Node}
use Rattle.td_tree.specs.TreeViews.{Pairs}
use Rattle.tg_grammar.specs.Marks.{category_name, is_marked, has_leaf_mark, marked}
use Rattle.tg_grammar.specs.Shapes.{root_name, AreOneName}

-- the node's category is a name
abbrev pub HasCategoryName : Node Pairs → Type 0
HasCategoryName n = (a : ℕ) × (category_name n ≡ Some a)

-- the node's category is a word that can be written
abbrev pub HasWord : Node Pairs → Type 0
HasWord n = (a : ℕ) × (category_name n ≡ Some a) × (a ≡ EMPTY → ⊥)

-- The root has a name as category, so have substitution nodes, and feet have the root's. There is one anchor, and at most one foot. The
-- nodes of marks `subst`, `foot`, `anchor`, `coanchor` and `lex` are just the leaves, and those of mark `lex` have words.
pub record HasGoodShape (f : Forest (Node Pairs)) : Type 0 where
  pub root : (a : ℕ) × (root_name f ≡ Some a)
  pub substitutions : (n : Node Pairs) → IsAmong (labels f) n → IsTrue (is_marked SUBST n) → HasCategoryName n
  pub feet : (n : Node Pairs) → IsAmong (labels f) n → IsTrue (is_marked FOOT n) → AreOneName (root_name f) (category_name n)
  pub one_anchor : (k : ℕ) × (marked ANCHOR (labels f) ≡ k ∷ [])
  pub few_feet : length (marked FOOT (labels f)) ≤ 1
  pub inner : (n : Node Pairs) → IsAmong (inner_labels f) n → IsFalse (has_leaf_mark n)
  pub leaves : (n : Node Pairs) → IsAmong (leaf_labels f) n → IsTrue (has_leaf_mark n)
  pub words : (n : Node Pairs) → IsAmong (labels f) n → IsTrue (is_marked LEX n) → HasWord n
