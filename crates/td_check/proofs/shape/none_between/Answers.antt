use Rattle.std.proofs.Common.{arith, subst, Bool, true, false}
use Rattle.td_check.specs.Places.{DecidesAmid}
use Rattle.td_check.proofs.Standing.{amid_none, amid_more, amid_all, amid_one}
use Rattle.td_check.proofs.shape.none_between.Goals as goal

pub loop-middle-init : goal.loop-middle-init
loop-middle-init c = amid_none c.args.nodes.now c.args.a c.args.b c.args.how

pub returns-then-stands_between : goal.returns-then-stands_between
returns-then-stands_between c =
    amid_one c.args.nodes.now c.args.a c.args.b c.args.how c.loop-middle.middle c.loop-middle-test.true
    (subst (λ (r : Bool). DecidesAmid c.args.nodes.now c.args.a c.loop-middle.middle c.args.b c.args.how r) c.if-stands_between.true c.stands_between.ensures)

pub loop-middle-preserved : goal.loop-middle-preserved
loop-middle-preserved c =
    amid_more c.args.nodes.now c.args.a c.args.b c.args.how c.loop-middle.middle c.loop-middle.invariant
    (subst (λ (r : Bool). DecidesAmid c.args.nodes.now c.args.a c.loop-middle.middle c.args.b c.args.how r) c.if-stands_between.false c.stands_between.ensures)

pub returns : goal.returns
returns c = amid_all c.args.nodes.now c.args.a c.args.b c.args.how c.loop-middle.middle c.loop-middle-test.false c.loop-middle.invariant
