use Rattle.std.proofs.Common.{take}
use Rattle.std.specs.List.{AllZip}
use Rattle.rl_top.specs.Compiling.{IsCompiled}
use Rattle.rl_top.proofs.compiling.valued_trees.Given as goal

abbrev pub invariant-loop-class : goal.invariant-loop-class
invariant-loop-class l = AllZip (IsCompiled l.symbols l.resolved l.models) (take l.class-index l.class-items) l.classes.items
