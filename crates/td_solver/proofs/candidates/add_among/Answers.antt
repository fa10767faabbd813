use Rattle.td_solver.proofs.Listed.{below_none, below_more}
use Rattle.td_solver.proofs.candidates.add_among.Goals as goal

pub loop-from-init : goal.loop-from-init
loop-from-init c = below_none c.args.under c.args.width c.args.all.now.items

pub loop-from-preserved : goal.loop-from-preserved
loop-from-preserved c = below_more c.args.under c.args.width c.loop-from.from c.args.all.now.items c.loop-from.all.items c.add_from.new.all.items c.loop-from.invariant c.in_ok-add_from.ensures
