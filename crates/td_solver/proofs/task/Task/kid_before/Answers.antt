use Rattle.td_solver.proofs.task.Task.kid_before.Goals as goal

pub returns : goal.returns
returns c = c.requires.task.kids.told c.args.node c.get.result.now c.get.ensures
