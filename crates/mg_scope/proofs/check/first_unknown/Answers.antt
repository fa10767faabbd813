use Rattle.std.proofs.Common.{sym, ◌∙◌, true≢false}
use Rattle.gr_base.proofs.ListLemmas.{Each-whole}
use Rattle.mg_scope.specs.Faults.{IsThere}
use Rattle.mg_scope.proofs.LoopLemmas.{Each-more, first_without}
use Rattle.mg_scope.proofs.check.first_unknown.Goals as goal

pub loop-name-preserved : goal.loop-name-preserved
loop-name-preserved c = Each-more (IsThere c.args.directory.now) c.args.names.now c.loop-name.name-index _ c.loop-name-test.true c.loop-name.invariant (c.has.ensures.0 c.if-not-has.false)

pub returns-then-not-has : goal.returns-then-not-has
returns-then-not-has c =
    first_without (IsThere c.args.directory.now) c.args.names.now c.loop-name.name-index _ c.loop-name-test.true c.loop-name.invariant (λ h. true≢false (sym (c.has.ensures.1 h) ∙ c.if-not-has.true))

pub returns : goal.returns
returns c = Each-whole (IsThere c.args.directory.now) c.args.names.now c.loop-name.name-index c.loop-name-test.false c.loop-name.invariant
