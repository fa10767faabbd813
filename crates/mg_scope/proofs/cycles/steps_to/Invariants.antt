use Rattle.mg_scope.specs.Classes.{mentioned}
use Rattle.mg_scope.proofs.StepLemmas.{IsLevel}
use Rattle.mg_scope.proofs.cycles.steps_to.Given as goal

abbrev pub invariant-loop-count : goal.invariant-loop-count
invariant-loop-count l = IsLevel (mentioned l.directory) l.fn.goal l.count l.steps l.level.items
