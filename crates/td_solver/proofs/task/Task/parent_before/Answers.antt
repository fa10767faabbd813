use Rattle.std.specs.Prelude.{Some}
use Rattle.td_solver.proofs.task.Task.parent_before.Goals as goal

pub returns-then-parent-node : goal.returns-then-parent-node
returns-then-parent-node c = (c.if-parent-node.true, c.requires.task.parents.told c.args.kid (Some c.in-Some.parent) (rw c.in-Some.is at c.get.ensures))
