use Rattle.std.proofs.Common.{length, ap, sym, subst, arith}
use Rattle.gr_tokens.specs.Answers.{AreTokens}
use Rattle.gr_tokens.proofs.CutLengths.{tokens_few}
use Rattle.sm_input.proofs.Finish.{read_there}
use Rattle.sm_input.proofs.read.read_inputs.Goals as goal

pub returns-clause-answer : goal.returns-clause-answer
returns-clause-answer c =
    read_there c.args.bytes.now c.as_slice.result.now _ c.read_tokens.new.symbols c.read_tokens.result
    (subst (λ z. AreTokens c.args.bytes.now z) (sym c.as_slice.ensures.value) c.in_ok-cut.ensures.ok) c.read_tokens.ensures.answer c.read_tokens.ensures.table

pub returns-clause-few : goal.returns-clause-few
returns-clause-few c =
    let a = tokens_few c.args.bytes.now c.in_ok-cut.cut.items c.in_ok-cut.ensures.ok in
    let b = c.read_tokens.ensures.few in
    let d = ap length c.as_slice.ensures.value in
    omega arith
