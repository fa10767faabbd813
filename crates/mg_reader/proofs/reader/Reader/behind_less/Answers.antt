use Rattle.std.proofs.Common.{rules, ◌≡◌, Err, refl, sym, ◌∙◌}
use Rattle.gr_grammar.specs.Grammars.{run_left, run_right}
use Rattle.mg_syntax.specs.declared.body.Statement.TheVariants as statement
use Rattle.mg_reader.proofs.Steps.{left_stops, right_stops}
use Rattle.mg_reader.proofs.reader.Reader.behind_less.Goals as goal

pub returns-in_err-items : goal.returns-in_err-items
returns-in_err-items c = let e : c.from_residual.result ≡ Err c.in_err-items.field-0.0 = search rules in rw e (left_stops (sym c.sees.ensures ∙ c.if-sees.true) (c.in_err-items.ensures))

pub returns-in_ok-items : goal.returns-in_ok-items
returns-in_ok-items c = (run_left (sym c.sees.ensures ∙ c.if-sees.true) (c.in_ok-items.ensures.0), (λ i. statement.Syn (c.in_ok-items.ensures.1 i)), c.in_ok-items.ensures.2)

pub returns-in_err-literals : goal.returns-in_err-literals
returns-in_err-literals c = let e : c.from_residual-in_err-literals.result ≡ Err c.in_err-literals.field-0.0 = search rules in rw e (right_stops (sym c.sees.ensures ∙ c.if-sees.false) (left_stops (sym c.sees-else-sees.ensures ∙ c.if-sees-2.true) (c.in_err-literals.ensures)))

pub returns-in_ok-literals : goal.returns-in_ok-literals
returns-in_ok-literals c = (run_right (sym c.sees.ensures ∙ c.if-sees.false) (run_left (sym c.sees-else-sees.ensures ∙ c.if-sees-2.true) (c.in_ok-literals.ensures.0)), (λ i. statement.Sem (c.in_ok-literals.ensures.1 i)), refl)

pub returns-in_err-bag : goal.returns-in_err-bag
returns-in_err-bag c = let e : c.from_residual-in_err-bag.result ≡ Err c.in_err-bag.field-0.0 = search rules in rw e (right_stops (sym c.sees.ensures ∙ c.if-sees.false) (right_stops (sym c.sees-else-sees.ensures ∙ c.if-sees-2.false) (c.in_err-bag.ensures)))

pub returns-in_ok-bag : goal.returns-in_ok-bag
returns-in_ok-bag c = (run_right (sym c.sees.ensures ∙ c.if-sees.false) (run_right (sym c.sees-else-sees.ensures ∙ c.if-sees-2.false) (c.in_ok-bag.ensures.0)), (λ i. statement.Iface (c.in_ok-bag.ensures.1 i)), c.in_ok-bag.ensures.2)
