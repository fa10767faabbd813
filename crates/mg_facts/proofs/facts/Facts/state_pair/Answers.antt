use Rattle.std.proofs.Common.{[], ◌∷◌, ◌++◌, map, ap, ◌∙◌}
use Rattle.mg_facts.specs.Said.{block, related, one_node, identified, is_name, coloured, paired, says, slot_of, term_of}
use Rattle.mg_facts.proofs.FactsLemmas.{on_ok, on_err}
use Rattle.mg_facts.proofs.facts.Facts.state_pair.Goals as goal

pub returns-clause-ok : goal.returns-clause-ok
returns-clause-ok c =
    on_ok c.add_pair-done.result _ _ c.add_pair-done.ensures.ok (λ e. c.forget.ensures.reads ∙ e ∙ ap (λ v. v ++ paired (slot_of c.args.place) c.args.attr.0 (term_of c.args.value) ∷ []) c.self.view_is)

pub returns-clause-err : goal.returns-clause-err
returns-clause-err c = on_err c.add_pair-done.result _ _ c.add_pair-done.ensures.err (λ e. c.forget.ensures.reads ∙ e ∙ c.self.view_is)
