use Rattle.std.proofs.Common.{sym, ◌∙◌, true≢false}
use Rattle.std.proofs.lemmas.Bool.{false≢true}
use Rattle.mg_scope.proofs.VariableLemmas.{dot_no, dot_yes}
use Rattle.mg_scope.proofs.variables.Variables.is_before_dot.Goals as goal

pub returns-then-not-is_called : goal.returns-then-not-is_called
returns-then-not-is_called c = λ m k y vs _. (
  (λ h. absurd (false≢true h)),
  (λ r. absurd (dot_no m k c.args.self.now vs c.args.variable y (λ s. true≢false (sym (c.is_called.ensures.1 s) ∙ c.if-not-is_called.true)) r)),
)

pub returns : goal.returns
returns c = λ m k y vs asked.
    let yes = dot_yes m k c.args.self.now vs c.args.variable y asked (c.is_called.ensures.0 c.if-not-is_called.false) in
    ((λ h. yes.0 (c.is_seen.ensures.0 h)), (λ r. c.is_seen.ensures.1 (yes.1 r)))
