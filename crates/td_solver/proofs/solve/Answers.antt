use Rattle.td_solver.proofs.Solving.{none_all, none_spent}
use Rattle.td_solver.proofs.solve.Goals as goal

pub returns-in-None-clause-all : goal.returns-in-None-clause-all
returns-in-None-clause-all c e = none_all c.args.d.now c.args.symbols.now (rw c.in-None.is at c.in_ok-load.ensures) c.args.out.now

pub returns-in-None-clause-spent : goal.returns-in-None-clause-spent
returns-in-None-clause-spent c e total t = none_spent c.args.d.now c.args.symbols.now (rw c.in-None.is at c.in_ok-load.ensures) c.args.budget.now.left total t
