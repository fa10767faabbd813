use Rattle.std.proofs.Common.{sym, ◌∙◌, true≢false}
use Rattle.std.proofs.lemmas.Bool.{false≢true}
use Rattle.mg_scope.proofs.VariableLemmas.{bound_no, bound_yes}
use Rattle.mg_scope.proofs.variables.Variables.is_bound.Goals as goal

pub returns-then-not-is_called_once : goal.returns-then-not-is_called_once
returns-then-not-is_called_once c = λ m k d vs. (
  (λ h. absurd (false≢true h)),
  (λ r. absurd (bound_no m k c.args.self.now vs c.args.variable d (λ s. true≢false (sym (c.is_called_once.ensures.1 s) ∙ c.if-not-is_called_once.true)) r)),
)

pub returns : goal.returns
returns c = λ m k d vs.
    let yes = bound_yes m k c.args.self.now vs c.args.variable d (c.is_called_once.ensures.0 c.if-not-is_called_once.false) in
    ((λ h. yes.0 (c.is_declared.ensures.0 h)), (λ r. c.is_declared.ensures.1 (yes.1 r)))
