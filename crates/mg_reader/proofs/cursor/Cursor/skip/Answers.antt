use Rattle.std.proofs.Common.{sym, ◌∙◌}
use Rattle.mg_reader.proofs.Steps.{skipped, left_out, left_out_end}
use Rattle.mg_reader.proofs.cursor.Cursor.skip.Goals as goal

pub returns-in_default : goal.returns-in_default
returns-in_default c = left_out_end _ _ c.in_default.ensures.cases

pub returns-then-not-has : goal.returns-then-not-has
returns-then-not-has c = rw c.in-Some.ensures.cases.0 (left_out _ _ _ (sym c.has.ensures ∙ c.if-not-has.true))

pub returns : goal.returns
returns c = rw c.in-Some.ensures.cases.0 (skipped _ _ _ (sym c.has.ensures ∙ c.if-not-has.false))
