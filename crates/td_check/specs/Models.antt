-- When a map makes a tree a minimal model of a description.
use Rattle.std.specs.Prelude.{◌≡◌, ℕ, List, length}
use Rattle.gr_base.specs.Forests.{Forest}
use Rattle.gr_terms.specs.Canonical.{Node}
use Rattle.gr_terms.specs.Networks.{Agrees}
use Rattle.td_desc.specs.Descriptions.{description_of}
use Rattle.td_desc.specs.declared.Description.{Description}
use Rattle.td_tree.specs.Trees.{BagPairs, AreTreeNodes}
use Rattle.td_tree.specs.TreeViews.{decorated_of}
use Rattle.td_tree.specs.declared.Tree.{Tree}
use Rattle.td_colour.specs.Models.{IsMinimalModel, merged_network, model_tree}
use Rattle.td_check.specs.Sets.{sets_of}
use Rattle.td_check.specs.ModelTrees.{IsTreeOf}

-- the map has one entry for each node of the description; the forest of sets that it makes of the tree's nodes is a minimal model; and
-- the tree is that of this model: its lists, interface and literals say what the merged network does, whatever its variables are called
pub record IsMinimalModelBy (d : Description) (t : Tree) (map : List ℕ) (f : Forest (Node BagPairs)) : Type 0 where
  pub number : length map ≡ length d.nodes
  pub model : IsMinimalModel (description_of d) (sets_of map f)
  pub tree : IsTreeOf (merged_network (description_of d) (sets_of map f)) (model_tree (description_of d) (sets_of map f)) (decorated_of f t)

-- so for the forest whose nodes in preorder are those of the tree
pub record MakesMinimalModel (d : Description) (t : Tree) (map : List ℕ) : Type 0 where
  pub nodes : AreTreeNodes t.nodes
  pub is : IsMinimalModelBy d t map nodes.forest

-- the part of this that the network says
pub record AgreesBy (d : Description) (t : Tree) (map : List ℕ) (f : Forest (Node BagPairs)) : Type 0 where
  pub network : Agrees (merged_network (description_of d) (sets_of map f))
  pub tree : IsTreeOf (merged_network (description_of d) (sets_of map f)) (model_tree (description_of d) (sets_of map f)) (decorated_of f t)

pub record AgreesWith (d : Description) (t : Tree) (map : List ℕ) : Type 0 where
  pub nodes : AreTreeNodes t.nodes
  pub is : AgreesBy d t map nodes.forest
