use Rattle.std.proofs.Common.{sym, ◌∙◌, true≢false}
use Rattle.gr_base.proofs.ListLemmas.{IsAmong-get_or, Each-whole}
use Rattle.mg_scope.specs.Faults.{IsRightExport}
use Rattle.mg_scope.proofs.LoopLemmas.{Each-more, first_without}
use Rattle.mg_scope.proofs.VariableLemmas.{asked_export}
use Rattle.mg_scope.proofs.variables.Variables.first_wrong_export.Goals as goal

pub loop-export-preserved : goal.loop-export-preserved
loop-export-preserved c = λ m k vs is.
    Each-more (IsRightExport m k) c.args.exports.now c.loop-export.export-index _ c.loop-export-test.true (c.loop-export.invariant m k vs is) ((c.is_plain.ensures m k vs (asked_export k c.args.exports.now _ is (IsAmong-get_or c.args.exports.now c.loop-export.export-index _ c.loop-export-test.true))).0 c.if-not-is_plain.false)

pub returns-then-not-is_plain : goal.returns-then-not-is_plain
returns-then-not-is_plain c = λ m k vs is.
    first_without (IsRightExport m k) c.args.exports.now c.loop-export.export-index _ c.loop-export-test.true (c.loop-export.invariant m k vs is)
    (λ r. true≢false (sym ((c.is_plain.ensures m k vs (asked_export k c.args.exports.now _ is (IsAmong-get_or c.args.exports.now c.loop-export.export-index _ c.loop-export-test.true))).1 r) ∙ c.if-not-is_plain.true))

pub returns : goal.returns
returns c = λ m k vs is. Each-whole (IsRightExport m k) c.args.exports.now c.loop-export.export-index c.loop-export-test.false (c.loop-export.invariant m k vs is)
