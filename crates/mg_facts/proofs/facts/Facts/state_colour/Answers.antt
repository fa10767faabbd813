use Rattle.std.proofs.Common.{[], ◌∷◌, ◌++◌, map, ap, ◌∙◌}
use Rattle.mg_facts.specs.Said.{block, related, one_node, identified, is_name, coloured, paired, says, slot_of, term_of}
use Rattle.mg_facts.proofs.FactsLemmas.{on_ok, on_err}
use Rattle.mg_facts.proofs.facts.Facts.state_colour.Goals as goal

pub returns-clause-ok : goal.returns-clause-ok
returns-clause-ok c =
    on_ok c.add_colour-done.result _ _ c.add_colour-done.ensures.ok (λ e. c.forget.ensures.reads ∙ e ∙ ap (λ v. v ++ coloured c.args.x c.args.c ∷ []) c.self.view_is)

pub returns-clause-err : goal.returns-clause-err
returns-clause-err c = on_err c.add_colour-done.result _ _ c.add_colour-done.ensures.err (λ e. c.forget.ensures.reads ∙ e ∙ c.self.view_is)
