-- Instances of lexical trees over the literals of an input.
use Rattle.std.specs.Prelude.{◌≡◌, ℕ, ◌<◌, List, [], ◌∷◌, ◌++◌, length, Some, None, slice_get, ⊤, ◌⊎◌}
use Rattle.std.specs.List.{AllZip}
use Rattle.gr_base.specs.Lists.{NoneTwice, Each, IsAmong, IsBefore}
use Rattle.gr_terms.specs.Canonical as canonical
use Rattle.gr_terms.specs.Canonical.{literal_terms}
use Rattle.gr_terms.specs.LiteralViews.{literal_of, literals_of}
use Rattle.gr_terms.specs.Networks as net
use Rattle.gr_terms.specs.Networks.{equate, Agrees}
use Rattle.gr_terms.specs.declared.Literal.{Literal}
use Rattle.td_tree.specs.Trees.{AreTreeNodes}
use Rattle.td_tree.specs.TreeNetworks.{tree_network}
use Rattle.td_tree.specs.TreeViews.{decorated_of}
use Rattle.td_tree.specs.declared.Tree.{Tree}
use Rattle.tg_model.specs.declared.instance.Instance.{Instance}
use Rattle.tg_model.specs.declared.lexical.LexicalTree.{LexicalTree}

-- each term of the one list is equal to that at its place in the other
abbrev pub equations : {S : Type 0} → List (net.Term ℕ) → List (net.Term ℕ) → List (net.Assertion ℕ S)
equations [] ys = []
equations (x ∷ xs) [] = []
equations (x ∷ xs) (y ∷ ys) = equate x y ∷ equations xs ys

-- the literal is equal to the one at the place, term by term
abbrev pub equations_at : {S : Type 0} → List Literal → canonical.Literal (net.Term ℕ) → ℕ → List (net.Assertion ℕ S)
equations_at input l p = elim (slice_get input p) [ None ↦ [] | Some g ↦ equations (literal_terms l) (literal_terms (literal_of g)) ]

-- so are several literals, each to that at its place
abbrev pub place_equations : {S : Type 0} → List Literal → List (canonical.Literal (net.Term ℕ)) → List ℕ → List (net.Assertion ℕ S)
place_equations input [] ps = []
place_equations input (l ∷ ls) [] = []
place_equations input (l ∷ ls) (p ∷ ps) = equations_at input l p ++ place_equations input ls ps

-- the literal at the place has as many arguments
abbrev pub FitsPlace : List Literal → Literal → ℕ → Type 0
FitsPlace input l p = (g : Literal) × (slice_get input p ≡ Some g) × (length l.args ≡ length g.args)

-- The tree's literals may stand at these places of an input, whose literals have names alone: all places are different, each literal has as many arguments as that at its place, and the network of the tree with each literal equal to that at its place agrees
pub record MayStandAt (input : List Literal) (t : Tree) (places : List ℕ) : Type 0 where
  pub fits : AllZip (FitsPlace input) t.sem places
  pub once : NoneTwice places
  pub nodes : AreTreeNodes t.nodes
  pub agrees : Agrees (tree_network (decorated_of nodes.forest t) ++ place_equations input (literals_of t.sem) places)

-- the instance is one of the lexical trees over the input
pub record IsInstance (trees : List LexicalTree) (input : List Literal) (i : Instance) : Type 0 where
  pub lexical : LexicalTree
  pub is : slice_get trees i.tree ≡ Some lexical
  pub stands : MayStandAt input lexical.tree i.places

-- by lexical tree, then by the list of places
abbrev pub IsSooner : Instance → Instance → Type 0
IsSooner i j = (i.tree < j.tree) ⊎ ((i.tree ≡ j.tree) × IsBefore i.places j.places)

abbrev pub InOrder : List Instance → Type 0
InOrder [] = ⊤
InOrder (i ∷ is) = Each (IsSooner i) is × InOrder is

-- just the instances, in order
pub record AreInstances (trees : List LexicalTree) (input : List Literal) (is : List Instance) : Type 0 where
  pub order : InOrder is
  pub only : Each (IsInstance trees input) is
  pub all : (i : Instance) → IsInstance trees input i → IsAmong is i
