use Rattle.std.proofs.Common.{rules, ◌≡◌, Err, sym, ◌∙◌}
use Rattle.gr_grammar.specs.Grammars.{run_left, run_right}
use Rattle.mg_syntax.specs.declared.item.Header.TheVariants as header
use Rattle.mg_reader.proofs.Steps.{left_stops, right_stops}
use Rattle.mg_reader.proofs.cursor.Cursor.header.Goals as goal

pub returns-in_err-line : goal.returns-in_err-line
returns-in_err-line c = let e : c.from_residual.result ≡ Err c.in_err-line.field-0.0 = search rules in rw e (left_stops (sym c.sees.ensures ∙ c.if-sees.true) (c.in_err-line.ensures))

pub returns-in_ok-line : goal.returns-in_ok-line
returns-in_ok-line c = (run_left (sym c.sees.ensures ∙ c.if-sees.true) (c.in_ok-line.ensures.0), c.in_ok-line.ensures.1)

pub returns-in_err-property : goal.returns-in_err-property
returns-in_err-property c = let e : c.from_residual-in_err-property.result ≡ Err c.in_err-property.field-0.0 = search rules in rw e (right_stops (sym c.sees.ensures ∙ c.if-sees.false) (left_stops (sym c.sees-else-sees.ensures ∙ c.if-sees-2.true) (c.in_err-property.ensures)))

pub returns-in_ok-property : goal.returns-in_ok-property
returns-in_ok-property c = (run_right (sym c.sees.ensures ∙ c.if-sees.false) (run_left (sym c.sees-else-sees.ensures ∙ c.if-sees-2.true) (c.in_ok-property.ensures.0)), (λ i. header.Property (c.in_ok-property.ensures.1 i).0 (c.in_ok-property.ensures.1 i).1))

pub returns-in_err-feature : goal.returns-in_err-feature
returns-in_err-feature c = let e : c.from_residual-in_err-feature.result ≡ Err c.in_err-feature.field-0.0 = search rules in rw e (right_stops (sym c.sees.ensures ∙ c.if-sees.false) (right_stops (sym c.sees-else-sees.ensures ∙ c.if-sees-2.false) (left_stops (sym c.sees-else-sees-2.ensures ∙ c.if-sees-3.true) (c.in_err-feature.ensures))))

pub returns-in_ok-feature : goal.returns-in_ok-feature
returns-in_ok-feature c = (run_right (sym c.sees.ensures ∙ c.if-sees.false) (run_right (sym c.sees-else-sees.ensures ∙ c.if-sees-2.false) (run_left (sym c.sees-else-sees-2.ensures ∙ c.if-sees-3.true) (c.in_ok-feature.ensures.0))), (λ i. header.Feature (c.in_ok-feature.ensures.1 i).0 (c.in_ok-feature.ensures.1 i).1))

pub returns-in_err-principle : goal.returns-in_err-principle
returns-in_err-principle c = let e : c.from_residual-in_err-principle.result ≡ Err c.in_err-principle.field-0.0 = search rules in rw e (right_stops (sym c.sees.ensures ∙ c.if-sees.false) (right_stops (sym c.sees-else-sees.ensures ∙ c.if-sees-2.false) (right_stops (sym c.sees-else-sees-2.ensures ∙ c.if-sees-3.false) (c.in_err-principle.ensures))))

pub returns-in_ok-principle : goal.returns-in_ok-principle
returns-in_ok-principle c = (run_right (sym c.sees.ensures ∙ c.if-sees.false) (run_right (sym c.sees-else-sees.ensures ∙ c.if-sees-2.false) (run_right (sym c.sees-else-sees-2.ensures ∙ c.if-sees-3.false) (c.in_ok-principle.ensures.0))), c.in_ok-principle.ensures.1)
