-- A tree and the text beside it that are those of a model of a description.
use Rattle.std.specs.Prelude.{◌≡◌, ℕ, List}
use Rattle.gr_base.specs.Forests.{Forest}
use Rattle.gr_terms.specs.Canonical.{Decorated, Label, Pairs, IsCanonicalForm}
use Rattle.td_tree.specs.Trees.{AreTreeNodes}
use Rattle.td_tree.specs.TreeNetworks.{slotted, tree_network}
use Rattle.td_tree.specs.TreeViews.{decorated_of}
use Rattle.td_canon.specs.CanonicalTexts.{text_in}
use Rattle.td_canon.specs.TreeSets.{Entry}
use Rattle.td_canon.specs.TreeText.{decorated_text}
use Rattle.td_desc.specs.Descriptions.{Description}
use Rattle.td_colour.specs.Models.{HasModelForm}

-- The model and the tree have one canonical form, which the text spells. A form has the numbers of attributes and of names, so the tree is
-- the model's, up to its variables; a text alone doesn't fix it.
pub record IsModelEntry {V S : Type 0} (texts : List (List ℕ)) (d : Description V S) (F : Forest (List ℕ)) (e : Entry) : Type 0 where
  pub form : Decorated Pairs Label
  pub of_model : HasModelForm (text_in texts) d F form
  pub nodes : AreTreeNodes e.tree.nodes
  pub of_tree : IsCanonicalForm (text_in texts) (tree_network (decorated_of nodes.forest e.tree)) (slotted (decorated_of nodes.forest e.tree)) form
  pub spells : e.text ≡ decorated_text (text_in texts) form
