use Rattle.std.proofs.Common.{◌∷◌, [], ap}
use Rattle.mg_expand.specs.declared.errand.Next.TheVariants.{On}
use Rattle.mg_expand.specs.Walks.{a_choice}
use Rattle.mg_expand.specs.Errands.{work_tasks}
use Rattle.mg_expand.proofs.WalkerLemmas.{stepped-same, stepped-choice}
use Rattle.mg_expand.proofs.walker.Walker.step.Goals as goal

pub returns-in_ok-next-in-Choice : goal.returns-in_ok-next-in-Choice
returns-in_ok-next-in-Choice c =
    stepped-same c.args.resolved.now c.args.self.now c.choose.new.self c.args.errand.here (a_choice c.in-Choice.body.now ∷ []) (work_tasks c.args.errand.work) c.args.errand.behind
    (On c.in_ok-next-in-Choice.next) (ap work_tasks c.in-Choice.is)
    (stepped-choice c.args.resolved.now c.args.self.now c.choose.new.self c.args.errand.here (a_choice c.in-Choice.body.now ∷ []) c.args.errand.behind c.in_ok-next-in-Choice.next
    (c.in_ok-next-in-Choice.ensures c.args.resolved.now))
