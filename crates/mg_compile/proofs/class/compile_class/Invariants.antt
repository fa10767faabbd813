use Rattle.mg_compile.specs.Going.{IsOnWay}
use Rattle.mg_compile.proofs.class.compile_class.Given as goal

abbrev pub invariant-loop-found : goal.invariant-loop-found
invariant-loop-found l = IsOnWay l.symbols l.resolved l.class l.budget l.expander l.looks.left l.found

abbrev pub decreases-loop-found : goal.decreases-loop-found
decreases-loop-found l = l.looks.left
