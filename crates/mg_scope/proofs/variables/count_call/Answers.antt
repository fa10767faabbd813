use Rattle.std.proofs.Common.{sym, ◌∙◌, refl, ap, suc}
use Rattle.mg_scope.specs.Variables.{tally}
use Rattle.mg_scope.proofs.VariableLemmas.{tally-again, tally-none}
use Rattle.mg_scope.proofs.variables.count_call.Goals as goal

pub returns-in_ok-set-in-Some : goal.returns-in_ok-set-in-Some
returns-in_ok-set-in-Some c = λ n at. (2, c.in_ok-set-in-Some.ensures.ok, sym (tally-again n c.in-Some.field-0 (sym at ∙ sym c.in-Some.ensures)))

pub returns-in_ok-set-in-None : goal.returns-in_ok-set-in-None
returns-in_ok-set-in-None c = λ n at. (1, c.in_ok-set-in-None.ensures.ok, ap (λ k. tally (suc k)) (sym (tally-none n (sym at ∙ sym c.in-None.ensures))))
