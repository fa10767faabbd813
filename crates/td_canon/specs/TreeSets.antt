-- Sets of trees: each text once, in byte order, with the tree that it is the text of.
use Rattle.std.specs.Prelude.{◌≡◌, ℕ, ◌≤◌, List, ◌∷◌, ◌++◌, map, length}
use Rattle.gr_base.specs.Lists.{IsAmong, Each, InByteOrder}
use Rattle.td_tree.specs.Trees.{AreTreeNodes}
use Rattle.td_tree.specs.declared.Tree.{Tree}
use Rattle.td_canon.specs.CanonicalTexts.{HasText}

-- a tree and the text that stands beside it
pub record Entry : Type 0 where
  pub tree : Tree
  pub text : List ℕ

abbrev pub texts_of : List Entry → List (List ℕ)
texts_of set = map (λ e. e.text) set

abbrev pub trees_of : List Entry → List Tree
trees_of set = map (λ e. e.tree) set

-- what each set keeps: its texts rise in byte order, so each stands once; each tree has its nodes in preorder; and a number of 32 bits counts them
pub record IsTreeSet (set : List Entry) : Type 0 where
  pub order : InByteOrder (texts_of set)
  pub nodes : Each (λ t. AreTreeNodes t.nodes) (trees_of set)
  pub few : length set ≤ 4294967295

-- the set's texts are those of its trees, by this numbering of texts
pub record IsWhole (texts : List (List ℕ)) (set : List Entry) : Type 0 where
  pub is_set : IsTreeSet set
  pub texts_are : Each (λ e. HasText texts e.tree e.text) set

-- the new set is the old one with a tree and its text more
abbrev pub Gains : List Entry → List Entry → Tree → List ℕ → Type 0
Gains old new t bytes = (front back : List Entry) × (old ≡ front ++ back) × (new ≡ front ++ record { tree = t; text = bytes } ∷ back)

-- no tree of the set has the text
abbrev pub LacksText : List Entry → List ℕ → Type 0
LacksText set bytes = IsAmong (texts_of set) bytes → ⊥
