-- What the lists of a node say: its category and its mark; and the numbers of the nodes that have a mark.
use Rattle.std.specs.Prelude.{◌≡◌, ℕ, suc, List, [], ◌∷◌, Option, Some, None, Bool, false, IsFalse, ◌==◌, ◌||◌, if◌then◌else◌}
use Rattle.gr_terms.specs.Constants.{CAT, MARK, ANCHOR, COANCHOR, SUBST, FOOT, LEX, NADJ}
use Rattle.gr_terms.specs.Networks.{Term, name, variable}
use Rattle.gr_terms.specs.Canonical.{Node}
pub use Rattle.td_tree.specs.FlatTrees.{lists_at, node_lists}
use Rattle.td_tree.specs.TreeViews.{Pairs}
use Rattle.td_tree.specs.declared.TreeNode.{TreeNode}
use Rattle.tg_grammar.specs.declared.marks.Mark.{Mark}
use Rattle.tg_grammar.specs.declared.marks.Mark.TheVariants as mark

-- the value of an attribute
abbrev pub value_of : {V : Type 0} → List (ℕ × Term V) → ℕ → Option (Term V)
value_of [] a = None
value_of (p ∷ ps) a = if p.0 == a then Some p.1 else value_of ps a

-- the name that a value is; a variable is none
abbrev pub name_of : Option (Term ℕ) → Option ℕ
name_of None = None
name_of (Some (name a)) = Some a
name_of (Some (variable v)) = None

-- the name that is the node's category: none where it has no category, or a variable
abbrev pub category_name : Node Pairs → Option ℕ
category_name n = name_of (value_of n.own CAT)

abbrev pub is_number : Option ℕ → ℕ → Bool
is_number None a = false
is_number (Some b) a = b == a

-- the name that is the node's property `mark`
abbrev pub mark_name : Node Pairs → Option ℕ
mark_name n = name_of (value_of n.own MARK)

abbrev pub is_marked : ℕ → Node Pairs → Bool
is_marked m n = is_number (mark_name n) m

-- the node has one of the marks that belong to leaves
abbrev pub has_leaf_mark : Node Pairs → Bool
has_leaf_mark n = is_marked SUBST n || is_marked FOOT n || is_marked ANCHOR n || is_marked COANCHOR n || is_marked LEX n

-- the name of a mark
abbrev pub mark_number : Mark → ℕ
mark_number mark.Anchor = ANCHOR
mark_number mark.Coanchor = COANCHOR
mark_number mark.Subst = SUBST
mark_number mark.Foot = FOOT
mark_number mark.Lex = LEX
mark_number mark.Nadj = NADJ

-- the node has none of the marks
abbrev pub HasNoMark : Node Pairs → Type 0
HasNoMark n = (m : Mark) → IsFalse (is_marked (mark_number m) n)

-- the mark of the node, if it has one
abbrev pub IsMarkOf : Node Pairs → Option Mark → Type 0
IsMarkOf n None = HasNoMark n
IsMarkOf n (Some m) = mark_name n ≡ Some (mark_number m)

-- the numbers of the elements that pass a test, where the first element has the number n
abbrev pub numbers_from : {A : Type 0} → ℕ → (A → Bool) → List A → List ℕ
numbers_from n test [] = []
numbers_from n test (x ∷ xs) = if test x then (n ∷ numbers_from (suc n) test xs) else numbers_from (suc n) test xs

-- the numbers of the nodes of a mark, of nodes in preorder
abbrev pub marked : ℕ → List (Node Pairs) → List ℕ
marked m nodes = numbers_from 0 (is_marked m) nodes

-- the name that is the category of the first node
abbrev pub first_name : List TreeNode → Option ℕ
first_name [] = None
first_name (x ∷ xs) = category_name (lists_at x)
