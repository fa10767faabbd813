use Rattle.std.proofs.Common.{sym}
use Rattle.mg_scope.proofs.StepLemmas.{best_no}
use Rattle.mg_scope.proofs.cycles.nearer.Goals as goal

pub returns-in-Some : goal.returns-in-Some
returns-in-Some c = λ seen best. c.fewer.ensures c.args.steps.now seen (sym c.in-Some.ensures) best

pub returns-in-None : goal.returns-in-None
returns-in-None c = λ seen best. best_no c.args.steps.now seen c.args.name c.args.best (sym c.in-None.ensures) best
