use Rattle.std.proofs.Common.{◌≡◌, ap, arith, length}
use Rattle.td_canon.specs.CanonicalTexts.{text_in}
use Rattle.td_canon.proofs.LiteralLemmas.{WritesLiterals-read, WritesLiterals-end}
use Rattle.td_canon.proofs.writing.push_literals.Goals as goal

pub loop-literal-preserved : goal.loop-literal-preserved
loop-literal-preserved c =
    WritesLiterals-read (text_in c.args.symbols.now) c.args.literals.now c.as_slice-literal-items.result.now c.literal-item.result c.loop-literal.literal-index c.args.draft.now c.loop-literal.draft c.push_literal.new.draft
    c.as_slice-literal-items.ensures c.literal-item.is (omega arith) c.in_ok-push_literal.ensures c.loop-literal.invariant

pub returns : goal.returns
returns c =
    let same : length c.as_slice-literal-items.result.now ≡ length c.args.literals.now = ap length c.as_slice-literal-items.ensures in
    WritesLiterals-end (text_in c.args.symbols.now) c.args.literals.now c.loop-literal.literal-index c.args.draft.now c.loop-literal.draft (omega arith) c.loop-literal.invariant
