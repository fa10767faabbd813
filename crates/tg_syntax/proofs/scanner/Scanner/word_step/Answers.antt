use Rattle.std.proofs.Common.{rules, ◌≡◌, Err, sym, ◌∙◌, arith}
use Rattle.tg_syntax.proofs.Steps.{word_full, word_on, word_one_left, word_ends, word_over_dash, word_stops}
use Rattle.tg_syntax.proofs.scanner.Scanner.word_step.Goals as goal

pub returns-then-left-eq0 : goal.returns-then-left-eq0
returns-then-left-eq0 c = word_full c.args.left _ c.if-left-eq0.true

pub returns-then-sees : goal.returns-then-sees
returns-then-sees c = (omega arith, word_on c.args.left c.if-left-eq0.false (sym c.sees.ensures ∙ c.if-sees.true) c.in_ok-_byte.ensures)

pub returns-then-left-eq1 : goal.returns-then-left-eq1
returns-then-left-eq1 c = word_one_left c.args.left c.if-left-eq1.true (sym c.sees.ensures ∙ c.if-sees.false)

pub returns-in_err-_after : goal.returns-in_err-_after
returns-in_err-_after c = let e : c.from_residual-in_err-_after.result ≡ Err c.in_err-_after.field-0.0 = search rules in rw e (word_stops c.args.left c.if-left-eq0.false c.if-left-eq1.false (sym c.sees.ensures ∙ c.if-sees.false) (sym c.sees-2.ensures ∙ c.if-sees-2.true) c.in_ok-_dash.ensures c.in_err-_after.ensures)

pub returns-then-sees-2 : goal.returns-then-sees-2
returns-then-sees-2 c = (omega arith, word_over_dash c.args.left c.if-left-eq0.false c.if-left-eq1.false (sym c.sees.ensures ∙ c.if-sees.false) (sym c.sees-2.ensures ∙ c.if-sees-2.true) c.in_ok-_dash.ensures c.in_ok-_after.ensures)

pub returns : goal.returns
returns c = word_ends c.args.left (sym c.sees.ensures ∙ c.if-sees.false) (sym c.sees-2.ensures ∙ c.if-sees-2.false)
