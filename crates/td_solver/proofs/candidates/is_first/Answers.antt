use Rattle.std.proofs.Common.{rules}
use Rattle.td_solver.proofs.Choosing.{first_test}
use Rattle.td_solver.proofs.candidates.is_first.Goals as goal

pub returns : goal.returns
returns c = first_test c.args.task.now.d.now.nodes c.args.at c.node.result.now c.ne.result c.node.ensures (λ t e. search rules) (λ ne. search rules)
