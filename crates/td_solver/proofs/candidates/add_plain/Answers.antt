use Rattle.td_solver.proofs.Listed.{plain_none, plain_more}
use Rattle.td_solver.proofs.candidates.add_plain.Goals as goal

pub loop-at-init : goal.loop-at-init
loop-at-init c = plain_none c.args.under c.args.all.now.items

pub loop-at-preserved : goal.loop-at-preserved
loop-at-preserved c = plain_more c.args.under c.loop-at.at c.args.all.now.items c.loop-at.all.items c.push.new.self.items c.loop-at.invariant c.in_ok-push.ensures.items
