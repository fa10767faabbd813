use Rattle.std.proofs.Common.{ap, ◌∙◌, sym}
use Rattle.mg_facts.specs.Ledgers.{Kept}
use Rattle.mg_facts.specs.Numbered.{Numbered, all_joined}
use Rattle.mg_facts.proofs.StatedLemmas.{root_is, root_is_no_name}
use Rattle.mg_facts.proofs.stated.Stated.root.Goals as goal

pub returns-in-Var : goal.returns-in-Var
returns-in-Var c =
    root_is c.args.self.now.facts c.store.result.now.accepted c.args.x c.in-Var.root
    (ap (λ (k : Kept). k.accepted) c.store.ensures ∙ c.self.invariant.joined ∙ ap (λ (s : Numbered). all_joined s.facts) c.self.view_is)
    c.in-Var.ensures.is_linked c.in-Var.ensures.least

pub returns-in-Const : goal.returns-in-Const
returns-in-Const c =
    absurd (root_is_no_name c.args.self.now.facts c.store.result.now.accepted c.args.x c.in-Const.field-0.0
    (ap (λ (k : Kept). k.accepted) c.store.ensures ∙ c.self.invariant.joined ∙ ap (λ (s : Numbered). all_joined s.facts) c.self.view_is)
    c.in-Const.ensures.is_linked)
