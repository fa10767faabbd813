use Rattle.td_solver.proofs.Listed.{from_none, from_more}
use Rattle.td_solver.proofs.candidates.add_from.Goals as goal

pub loop-to-init : goal.loop-to-init
loop-to-init c = from_none c.args.under c.args.from c.args.all.now.items

pub loop-to-preserved : goal.loop-to-preserved
loop-to-preserved c = from_more c.args.under c.args.from c.loop-to.to c.args.all.now.items c.loop-to.all.items c.push.new.self.items c.loop-to.auto.to c.loop-to.invariant c.in_ok-push.ensures.items
