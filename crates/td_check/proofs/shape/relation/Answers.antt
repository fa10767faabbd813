use Rattle.std.proofs.Common.{arith, ◌<◌}
use Rattle.td_check.proofs.Standing.{stand_same, stand_over, stand_left, stand_under, stand_right}
use Rattle.td_check.proofs.shape.relation.Goals as goal

pub returns-then-a-b : goal.returns-then-a-b
returns-then-a-b c = stand_same c.args.nodes.now c.args.a c.args.b c.requires.a_within c.requires.b_within c.if-a-b.true

pub returns-then-b-behind : goal.returns-then-b-behind
returns-then-b-behind c = stand_over c.args.nodes.now c.args.a c.args.b c.requires.a_within c.requires.b_within c.behind.result c.behind.ensures c.if-a-b-2.true c.if-b-behind.true

pub returns-else-b-behind : goal.returns-else-b-behind
returns-else-b-behind c = stand_left c.args.nodes.now c.args.a c.args.b c.requires.a_within c.requires.b_within c.behind.result c.behind.ensures c.if-b-behind.false

pub returns-then-a-behind : goal.returns-then-a-behind
returns-then-a-behind c =
    let less : c.args.b < c.args.a = omega arith in
    stand_under c.args.nodes.now c.args.a c.args.b c.requires.a_within c.requires.b_within c.behind-else-a-b-2.result c.behind-else-a-b-2.ensures less c.if-a-behind.true

pub returns-else-a-behind : goal.returns-else-a-behind
returns-else-a-behind c = stand_right c.args.nodes.now c.args.a c.args.b c.requires.a_within c.requires.b_within c.behind-else-a-b-2.result c.behind-else-a-b-2.ensures c.if-a-behind.false
