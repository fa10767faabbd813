use Rattle.std.proofs.Common.{rules, ◌≡◌, Err, refl, sym, ◌∙◌}
use Rattle.gr_grammar.specs.Grammars.{run_left, run_right}
use Rattle.mg_syntax.specs.declared.item.Item.TheVariants as item
use Rattle.mg_reader.proofs.Steps.{left_stops, right_stops}
use Rattle.mg_reader.proofs.reader.Reader.item.Goals as goal

pub returns-in_err-class : goal.returns-in_err-class
returns-in_err-class c = let e : c.from_residual.result ≡ Err c.in_err-class.field-0.0 = search rules in rw e (left_stops (sym c.sees.ensures ∙ c.if-sees.true) (c.in_err-class.ensures))

pub returns-in_ok-class : goal.returns-in_ok-class
returns-in_ok-class c = (run_left (sym c.sees.ensures ∙ c.if-sees.true) (c.in_ok-class.ensures.0), (λ i. item.Class (c.in_ok-class.ensures.1 i)), c.in_ok-class.ensures.2)

pub returns-in_err-value : goal.returns-in_err-value
returns-in_err-value c = let e : c.from_residual-in_err-value.result ≡ Err c.in_err-value.field-0.0 = search rules in rw e (right_stops (sym c.sees.ensures ∙ c.if-sees.false) (left_stops (sym c.sees-else-sees.ensures ∙ c.if-sees-2.true) (c.in_err-value.ensures)))

pub returns-in_ok-value : goal.returns-in_ok-value
returns-in_ok-value c = (run_right (sym c.sees.ensures ∙ c.if-sees.false) (run_left (sym c.sees-else-sees.ensures ∙ c.if-sees-2.true) (c.in_ok-value.ensures.0)), (λ i. item.Value (c.in_ok-value.ensures.1 i)), refl)

pub returns-in_err-header : goal.returns-in_err-header
returns-in_err-header c = let e : c.from_residual-in_err-header.result ≡ Err c.in_err-header.field-0.0 = search rules in rw e (right_stops (sym c.sees.ensures ∙ c.if-sees.false) (right_stops (sym c.sees-else-sees.ensures ∙ c.if-sees-2.false) (c.in_err-header.ensures)))

pub returns-in_ok-header : goal.returns-in_ok-header
returns-in_ok-header c = (run_right (sym c.sees.ensures ∙ c.if-sees.false) (run_right (sym c.sees-else-sees.ensures ∙ c.if-sees-2.false) (c.in_ok-header.ensures.0)), (λ i. item.Header (c.in_ok-header.ensures.1 i)), refl)
