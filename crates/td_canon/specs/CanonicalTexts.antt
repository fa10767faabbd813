-- Canonical texts: of a tree whose slots and values are those of a network, and of a tree of the code.
use Rattle.std.specs.Prelude.{◌≡◌, ℕ, ◌<◌, List, [], length, slice_index_or, ⊤}
use Rattle.gr_base.specs.Lists.{IsAmong, Each}
use Rattle.gr_terms.specs.Bags.{IsListed}
use Rattle.gr_terms.specs.Canonical.{Decorated, Label, Pairs, IsCanonicalForm, tree_slots}
use Rattle.gr_terms.specs.Networks.{Assertion, HasValue}
use Rattle.gr_terms.specs.Networks as net
use Rattle.gr_terms.specs.declared.Term.{Term}
use Rattle.gr_terms.specs.declared.Term.TheVariants.{Const, Var}
use Rattle.gr_terms.specs.declared.Literal.{Literal}
use Rattle.td_tree.specs.Trees.{BagPairs, AreTreeNodes, IsListedNode}
use Rattle.td_tree.specs.TreeViews.{decorated_of}
use Rattle.td_tree.specs.TreeNetworks.{tree_network, slotted}
use Rattle.td_tree.specs.declared.Tree.{Tree}
use Rattle.td_tree.specs.declared.TreeNode.{TreeNode}
use Rattle.td_canon.specs.TreeText.{decorated_text}

-- the text of a number
abbrev pub text_in : List (List ℕ) → ℕ → List ℕ
text_in texts n = slice_index_or texts n []

-- the bytes are the text of the canonical form of a tree whose slots and values are those of the network: whatever exact labelling
-- of the terms the form is made with
pub record IsCanonicalText {V S : Type 0} (text : ℕ → List ℕ) (N : List (Assertion V S)) (t : Decorated S (net.Term V)) (bytes : List ℕ) : Type 0 where
  pub form : Decorated Pairs Label
  pub canonical : IsCanonicalForm text N t form
  pub spells : bytes ≡ decorated_text text form

-- attributes that have values at slots of the tree differ by their texts
abbrev pub TellsAttributesApart : {V S : Type 0} → (ℕ → List ℕ) → List (Assertion V S) → Decorated S (net.Term V) → Type 0
TellsAttributesApart {V} {S} text N t =
    (p q : ℕ) (s r : S) (x y : net.Term V) → IsAmong (tree_slots t) s → IsAmong (tree_slots t) r → HasValue N s p x → HasValue N r q y → text p ≡ text q → p ≡ q

-- each name and each attribute has a number below the count
abbrev pub IsNamedTerm : ℕ → Term → Type 0
IsNamedTerm count (Const s) = s.0 < count
IsNamedTerm count (Var v) = ⊤

abbrev pub IsNamedBag : ℕ → BagPairs → Type 0
IsNamedBag count bag = Each (λ p. (p.0.0 < count) × IsNamedTerm count p.1) bag

pub record IsNamedNode (count : ℕ) (n : TreeNode) : Type 0 where
  pub own : IsNamedBag count n.own
  pub top : IsNamedBag count n.top
  pub bot : IsNamedBag count n.bot

pub record IsNamedLiteral (count : ℕ) (l : Literal) : Type 0 where
  pub handle : IsNamedTerm count l.handle
  pub pred : IsNamedTerm count l.pred
  pub args : Each (IsNamedTerm count) l.args

pub record IsNamedTree (count : ℕ) (t : Tree) : Type 0 where
  pub nodes : Each (IsNamedNode count) t.nodes
  pub iface : IsNamedBag count t.iface
  pub sem : Each (IsNamedLiteral count) t.sem

-- each bag of the tree has its attributes by rising number, as all bags of the code do
pub record IsListedTree (t : Tree) : Type 0 where
  pub nodes : Each IsListedNode t.nodes
  pub iface : IsListed t.iface

-- the tree's names are among the texts, and the bytes are its canonical text: that of the network of its lists
pub record HasText (texts : List (List ℕ)) (t : Tree) (bytes : List ℕ) : Type 0 where
  pub nodes : AreTreeNodes t.nodes
  pub named : IsNamedTree (length texts) t
  pub listed : IsListedTree t
  pub spells : IsCanonicalText (text_in texts) (tree_network (decorated_of nodes.forest t)) (slotted (decorated_of nodes.forest t)) bytes
