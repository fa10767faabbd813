use Rattle.std.proofs.Common.{rules, ◌≡◌, Err, sym, ◌∙◌}
use Rattle.gr_grammar.specs.Grammars.{run_left, run_right}
use Rattle.mg_syntax.specs.declared.body.Side.TheVariants as side
use Rattle.mg_reader.specs.declared.found.After.TheVariants as after
use Rattle.mg_reader.proofs.Steps.{left_stops, right_stops}
use Rattle.mg_reader.proofs.cursor.Cursor.right.Goals as goal

pub returns-in_err-word : goal.returns-in_err-word
returns-in_err-word c = let e : c.from_residual.result ≡ Err c.in_err-word.field-0.0 = search rules in rw e (left_stops (sym c.sees.ensures ∙ c.if-sees.true) (c.in_err-word.ensures))

pub returns-in_ok-word : goal.returns-in_ok-word
returns-in_ok-word c = (run_left (sym c.sees.ensures ∙ c.if-sees.true) (c.in_ok-word.ensures.0), c.in_ok-word.ensures.1)

pub returns-in_err-reserved : goal.returns-in_err-reserved
returns-in_err-reserved c = let e : c.from_residual-in_err-reserved.result ≡ Err c.in_err-reserved.field-0.0 = search rules in rw e (right_stops (sym c.sees.ensures ∙ c.if-sees.false) (left_stops (sym c.sees-else-sees.ensures ∙ c.if-sees-2.true) (c.in_err-reserved.ensures)))

pub returns-in_ok-reserved : goal.returns-in_ok-reserved
returns-in_ok-reserved c = (run_right (sym c.sees.ensures ∙ c.if-sees.false) (run_left (sym c.sees-else-sees.ensures ∙ c.if-sees-2.true) (c.in_ok-reserved.ensures.0)), (λ i. after.Equals (side.Name (c.in_ok-reserved.ensures.1 i).name)))

pub returns-in_err-text : goal.returns-in_err-text
returns-in_err-text c = let e : c.from_residual-in_err-text.result ≡ Err c.in_err-text.field-0.0 = search rules in rw e (right_stops (sym c.sees.ensures ∙ c.if-sees.false) (right_stops (sym c.sees-else-sees.ensures ∙ c.if-sees-2.false) (left_stops (sym c.sees-else-sees-2.ensures ∙ c.if-sees-3.true) (c.in_err-text.ensures))))

pub returns-in_ok-text : goal.returns-in_ok-text
returns-in_ok-text c = (run_right (sym c.sees.ensures ∙ c.if-sees.false) (run_right (sym c.sees-else-sees.ensures ∙ c.if-sees-2.false) (run_left (sym c.sees-else-sees-2.ensures ∙ c.if-sees-3.true) (c.in_ok-text.ensures.0))), (λ i. after.Equals (side.Name (c.in_ok-text.ensures.1 i).name)))

pub returns-in_err-variable : goal.returns-in_err-variable
returns-in_err-variable c = let e : c.from_residual-in_err-variable.result ≡ Err c.in_err-variable.field-0.0 = search rules in rw e (right_stops (sym c.sees.ensures ∙ c.if-sees.false) (right_stops (sym c.sees-else-sees.ensures ∙ c.if-sees-2.false) (right_stops (sym c.sees-else-sees-2.ensures ∙ c.if-sees-3.false) (c.in_err-variable.ensures))))

pub returns-in_ok-variable : goal.returns-in_ok-variable
returns-in_ok-variable c = (run_right (sym c.sees.ensures ∙ c.if-sees.false) (run_right (sym c.sees-else-sees.ensures ∙ c.if-sees-2.false) (run_right (sym c.sees-else-sees-2.ensures ∙ c.if-sees-3.false) (c.in_ok-variable.ensures.0))), (λ i. after.Equals (side.Ref (c.in_ok-variable.ensures.1 i))))
