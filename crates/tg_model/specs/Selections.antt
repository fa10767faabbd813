-- What is selected for an input: what the layers above ask of it.
use Rattle.std.specs.Prelude.{◌≤◌, List, length}
use Rattle.gr_base.specs.Lists.{Each}
use Rattle.gr_terms.specs.LiteralViews.{AreConst}
use Rattle.tg_model.specs.LexicalTrees.{AreLexical}
use Rattle.tg_model.specs.Instances.{AreInstances}
use Rattle.tg_model.specs.declared.instance.Selection.{Selection}
use Rattle.tg_model.specs.declared.lexical.LexicalTree.{LexicalTree}

-- The trees are lexical trees, the literals are without variables, at most 24, and the instances are just those of the trees over these
-- literals, in order, at most 4,096
pub record IsSelectionOf (trees : List LexicalTree) (s : Selection) : Type 0 where
  pub lexical : AreLexical trees
  pub ground : Each AreConst s.literals
  pub few : length s.literals ≤ 24
  pub instances : AreInstances trees s.literals s.instances
  pub at_most : length s.instances ≤ 4096
