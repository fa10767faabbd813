use Rattle.std.proofs.lemmas.Result.{on_ok_weaker}
use Rattle.td_canon.specs.CanonicalTexts.{text_in}
use Rattle.td_canon.proofs.LiteralLemmas.{writes_literal}
use Rattle.td_canon.proofs.writing.push_literal.Goals as goal

pub returns : goal.returns
returns c =
    on_ok_weaker c.push_arguments.result
    (writes_literal (text_in c.args.symbols.now) c.args.literal.now c.args.draft.now c.push.new.self c.push_value.new.self c.push-2.new.self c.push_value-2.new.self c.push_arguments.new.draft
    c.in_ok-push.ensures c.in_ok-push_value.ensures c.in_ok-push-2.ensures c.in_ok-push_value-2.ensures)
    (rw c.as_slice.ensures at c.push_arguments.ensures)
