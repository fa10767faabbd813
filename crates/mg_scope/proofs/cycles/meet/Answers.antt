use Rattle.std.proofs.Common.{sym}
use Rattle.mg_scope.proofs.StepLemmas.{meets_known, meets_new}
use Rattle.mg_scope.proofs.cycles.meet.Goals as goal

pub returns-in-Some : goal.returns-in-Some
returns-in-Some c = meets_known c.args.steps.now c.args.name c.args.count c.in-Some.field-0 c.args.found.now.items (sym c.in-Some.ensures)

pub returns-in_ok-set-in-None : goal.returns-in_ok-set-in-None
returns-in_ok-set-in-None c =
    meets_new c.args.steps.now c.set.new.self c.args.name c.args.count c.args.found.now.items c.push.new.self.items (sym c.in-None.ensures) c.in_ok-set-in-None.ensures.ok c.in_ok-push-in-None.ensures.items
