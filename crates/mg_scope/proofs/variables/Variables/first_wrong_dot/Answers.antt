use Rattle.gr_base.proofs.ListLemmas.{IsAmong-get_or, Each-whole}
use Rattle.mg_scope.specs.Faults.{IsRightDot}
use Rattle.mg_scope.proofs.LoopLemmas.{Each-more, first_without}
use Rattle.mg_scope.proofs.variables.Variables.first_wrong_dot.Goals as goal

pub loop-one-preserved : goal.loop-one-preserved
loop-one-preserved c = λ k vs is right.
    Each-more (IsRightDot c.args.directory.now k) c.args.uses.now c.loop-one.one-index _ c.loop-one-test.true (c.loop-one.invariant k vs is right)
    (c.in_default.ensures k vs is right (IsAmong-get_or c.args.uses.now c.loop-one.one-index _ c.loop-one-test.true))

pub returns-in-Some : goal.returns-in-Some
returns-in-Some c = λ k vs is right.
    let wrong = c.in-Some.ensures k vs is right (IsAmong-get_or c.args.uses.now c.loop-one.one-index _ c.loop-one-test.true) in
    (_, wrong.0, first_without (IsRightDot c.args.directory.now k) c.args.uses.now c.loop-one.one-index _ c.loop-one-test.true (c.loop-one.invariant k vs is right) wrong.1)

pub returns : goal.returns
returns c = λ k vs is right. Each-whole (IsRightDot c.args.directory.now k) c.args.uses.now c.loop-one.one-index c.loop-one-test.false (c.loop-one.invariant k vs is right)
