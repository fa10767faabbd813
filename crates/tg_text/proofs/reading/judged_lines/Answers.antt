use Rattle.std.proofs.Common.{◌-◌, ◌∙◌, ap, length, take, List, ℕ}
use Rattle.gr_text.specs.Places.{line_after}
use Rattle.tg_text.proofs.OneLine.{bad_number}
use Rattle.tg_text.proofs.reading.judged_lines.Goals as goal

pub returns-in-Err-Line-clause-answer : goal.returns-in-Err-Line-clause-answer
returns-in-Err-Line-clause-answer c =
    let h = rw c.in-Err-Line.field-0-is at c.in-Err-Line.ensures.stops in
    bad_number c.args.text.now h.0 c.in-Err-Line.left c.line_with.result h.1 h.2 (c.line_with.ensures ∙ ap (λ (z : List ℕ). line_after (take (length z - c.in-Err-Line.left) z)) c.as_bytes.ensures.value)
