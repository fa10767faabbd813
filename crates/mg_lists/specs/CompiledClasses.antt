-- Compiled classes: trees of minimal models, beside their texts.
use Rattle.std.specs.Prelude.{◌≡◌, ℕ, List, map}
use Rattle.gr_base.specs.Lists.{Each}
use Rattle.mg_syntax.specs.declared.item.Item.{Item}
use Rattle.mg_scope.specs.Classes.{valued_classes}
use Rattle.mg_scope.specs.Faults.{IsThere}
use Rattle.td_canon.specs.TreeSets.{IsWhole}
use Rattle.td_canon.specs.declared.tree_set.ClassTrees.{ClassTrees}
use Rattle.mg_compile.specs.Compiled.{IsCompiledTree}

-- a class of the metagrammar with trees that stand beside their texts, each of which is that of a minimal model of an expansion of it
pub record IsCompiledClass (texts : List (List ℕ)) (m : List Item) (t : ClassTrees) : Type 0 where
  pub there : IsThere m t.class
  pub whole : IsWhole texts t.trees
  pub trees : Each (IsCompiledTree texts m t.class) t.trees

-- these are compiled classes for the valued classes of the metagrammar, one for each, in order
pub record AreCompiled (texts : List (List ℕ)) (m : List Item) (classes : List ClassTrees) : Type 0 where
  pub each : Each (IsCompiledClass texts m) classes
  pub valued : map (λ (c : ClassTrees). c.class) classes ≡ valued_classes m
