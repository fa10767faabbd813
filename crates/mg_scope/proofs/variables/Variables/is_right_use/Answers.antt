use Rattle.std.proofs.Common.{sym, ap, subst, refl}
use Rattle.std.specs.Prelude.{IsTrue, ◌↔◌}
use Rattle.mg_scope.specs.declared.uses.Use.{Use}
use Rattle.mg_scope.specs.Faults.{IsRightUse}
use Rattle.mg_scope.specs.Variables.{variable_in}
use Rattle.mg_scope.proofs.VariableLemmas.{asked_use}
use Rattle.mg_scope.proofs.variables.Variables.is_right_use.Goals as goal

pub returns-in-Alone : goal.returns-in-Alone
returns-in-Alone c = λ m k vs i. subst (λ (u : Use). IsTrue c.is_plain.result ↔ IsRightUse m k u) (sym c.in-Alone.is) (c.is_plain.ensures m k vs (asked_use k c.args.one c.in-Alone.variable (ap variable_in c.in-Alone.is) i))

pub returns-in-Bound : goal.returns-in-Bound
returns-in-Bound c = λ m k vs _. subst (λ (u : Use). IsTrue c.is_bound.result ↔ IsRightUse m k u) (sym c.in-Bound.is) (c.is_bound.ensures m k c.in-Bound.field-1 vs)

pub returns-in-Dotted : goal.returns-in-Dotted
returns-in-Dotted c = λ m k vs i. subst (λ (u : Use). IsTrue c.is_before_dot.result ↔ IsRightUse m k u) (sym c.in-Dotted.is) (c.is_before_dot.ensures m k c.in-Dotted.field-1 vs (asked_use k c.args.one c.in-Dotted.variable (ap variable_in c.in-Dotted.is) i))
