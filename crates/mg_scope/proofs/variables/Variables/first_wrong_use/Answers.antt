use Rattle.std.proofs.Common.{sym, ◌∙◌, true≢false}
use Rattle.gr_base.proofs.ListLemmas.{Each-whole}
use Rattle.mg_scope.specs.Faults.{IsRightUse}
use Rattle.mg_scope.proofs.LoopLemmas.{Each-more}
use Rattle.mg_scope.proofs.VariableLemmas.{first_printed, use_among}
use Rattle.mg_scope.proofs.variables.Variables.first_wrong_use.Goals as goal

pub loop-one-preserved : goal.loop-one-preserved
loop-one-preserved c = λ m k vs is.
    Each-more (IsRightUse m k) c.args.uses.now c.loop-one.one-index _ c.loop-one-test.true (c.loop-one.invariant m k vs is) ((c.is_right_use.ensures m k vs (use_among k c.args.uses.now c.loop-one.one-index _ is c.loop-one-test.true)).0 c.if-not-is_right_use.false)

pub returns-then-not-is_right_use : goal.returns-then-not-is_right_use
returns-then-not-is_right_use c = λ m k vs is.
    first_printed m k c.args.uses.now c.loop-one.one-index _ c.printed.result c.loop-one-test.true (c.loop-one.invariant m k vs is)
    (λ r. true≢false (sym ((c.is_right_use.ensures m k vs (use_among k c.args.uses.now c.loop-one.one-index _ is c.loop-one-test.true)).1 r) ∙ c.if-not-is_right_use.true)) c.printed.ensures

pub returns : goal.returns
returns c = λ m k vs is. Each-whole (IsRightUse m k) c.args.uses.now c.loop-one.one-index c.loop-one-test.false (c.loop-one.invariant m k vs is)
