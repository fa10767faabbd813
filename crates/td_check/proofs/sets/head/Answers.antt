use Rattle.std.proofs.Common.{arith}
use Rattle.td_check.proofs.Heads.{none_sent, none_more, first_sent, sent_absurd}
use Rattle.td_check.proofs.sets.head.Goals as goal

pub loop-node-init : goal.loop-node-init
loop-node-init c = none_sent c.args.map.now c.args.to

pub loop-node-preserved : goal.loop-node-preserved
loop-node-preserved c = none_more c.args.map.now c.args.to c.loop-node.node c.loop-node.invariant c.if-at-to.false

pub returns-then-at-to : goal.returns-then-at-to
returns-then-at-to c = first_sent c.args.map.now c.args.to c.loop-node.node c.loop-node.invariant c.loop-node-test.true c.if-at-to.true

pub returns : goal.returns
returns c = absurd (sent_absurd c.args.map.now c.args.to c.loop-node.node c.loop-node.invariant c.loop-node-test.false c.requires)
