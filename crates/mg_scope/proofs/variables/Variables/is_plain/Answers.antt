use Rattle.std.proofs.Common.{sym, ◌∙◌, true≢false}
use Rattle.std.proofs.lemmas.Bool.{false≢true}
use Rattle.mg_scope.proofs.VariableLemmas.{plain_no, plain_yes}
use Rattle.mg_scope.proofs.variables.Variables.is_plain.Goals as goal

pub returns-then-is_called : goal.returns-then-is_called
returns-then-is_called c = λ m k vs _. ((λ h. absurd (false≢true h)), (λ r. absurd (plain_no m k c.args.self.now vs c.args.variable (c.is_called.ensures.0 c.if-is_called.true) r)))

pub returns : goal.returns
returns c = λ m k vs asked.
    let yes = plain_yes m k c.args.self.now vs c.args.variable asked (λ s. true≢false (sym (c.is_called.ensures.1 s) ∙ c.if-is_called.false)) in
    ((λ h. yes.0 (c.is_seen.ensures.0 h)), (λ r. c.is_seen.ensures.1 (yes.1 r)))
