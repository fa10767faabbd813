use Rattle.std.proofs.Common.{rules, ◌≡◌, Err, sym, ◌∙◌}
use Rattle.gr_grammar.specs.Grammars.{run_left, run_right}
use Rattle.mg_syntax.specs.declared.body.Side.TheVariants as side
use Rattle.mg_reader.proofs.Steps.{left_stops, right_stops}
use Rattle.mg_reader.proofs.cursor.Cursor.side.Goals as goal

pub returns-in_err-name : goal.returns-in_err-name
returns-in_err-name c = let e : c.from_residual.result ≡ Err c.in_err-name.field-0.0 = search rules in rw e (left_stops (sym c.sees.ensures ∙ c.if-sees.true) (c.in_err-name.ensures))

pub returns-in_ok-name : goal.returns-in_ok-name
returns-in_ok-name c = (run_left (sym c.sees.ensures ∙ c.if-sees.true) (c.in_ok-name.ensures.0), (λ i. side.Name (c.in_ok-name.ensures.1 i).name))

pub returns-in_err-variable : goal.returns-in_err-variable
returns-in_err-variable c = let e : c.from_residual-in_err-variable.result ≡ Err c.in_err-variable.field-0.0 = search rules in rw e (right_stops (sym c.sees.ensures ∙ c.if-sees.false) (c.in_err-variable.ensures))

pub returns-in_ok-variable : goal.returns-in_ok-variable
returns-in_ok-variable c = (run_right (sym c.sees.ensures ∙ c.if-sees.false) (c.in_ok-variable.ensures.0), (λ i. side.Ref (c.in_ok-variable.ensures.1 i)))
