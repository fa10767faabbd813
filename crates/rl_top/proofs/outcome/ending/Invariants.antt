use Rattle.std.proofs.Common.{◌≡◌, false, take}
use Rattle.gr_base.specs.Lists.{Each}
use Rattle.td_canon.specs.declared.tree_set.ClassTrees.{ClassTrees}
use Rattle.rl_top.proofs.outcome.ending.Given as goal

abbrev pub invariant-loop-class : goal.invariant-loop-class
invariant-loop-class l = Each (λ (c : ClassTrees). c.cut ≡ false) (take l.class-index l.classes)
