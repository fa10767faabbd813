use Rattle.std.proofs.Common.{[], ◌∷◌, ◌≡◌, ap, ap₂, sym, ◌∙◌}
use Rattle.std.proofs.lemmas.Option.{slice_get_within}
use Rattle.gr_base.specs.Lists.{gathered}
use Rattle.mg_facts.specs.Said.{block, related, one_node, identified, is_name, coloured, paired}
use Rattle.mg_facts.specs.Numbered.{Keeps, slot_variable, variable_in}
use Rattle.mg_facts.proofs.NumberLemmas.{Keeps-trans}
use Rattle.mg_facts.proofs.FactsLemmas.{named_at, still_at, still_slot, still_term, said_more, said_still, fresh_from, IsFresh-then, literal_at, on_ok, on_err, always_err}
use Rattle.mg_facts.proofs.facts.add_name.Goals as goal

pub returns-in_err-x-clause-err : goal.returns-in_err-x-clause-err
returns-in_err-x-clause-err c =
    always_err _ _ c.number.ensures.keeps.reads

pub state-requires-clause-below : goal.state-requires-clause-below
state-requires-clause-below c =
    slice_get_within c.number.new.self.names c.in_ok-x.x c.args.x c.in_ok-x.ensures.named

pub state-requires-clause-met : goal.state-requires-clause-met
state-requires-clause-met c =
    fresh_from c.args.stated.now c.number.new.self (c.in_ok-x.x ∷ []) c.number.ensures.keeps c.requires c.in_ok-x.ensures.fresh

pub returns-clause-ok : goal.returns-clause-ok
returns-clause-ok c =
    on_ok c.state.result _ _ c.state.ensures.ok (λ e. said_more c.args.stated.now c.number.new.self c.state.new.self _ _ c.number.ensures.keeps e (ap (λ v. is_name v c.args.a.0) (named_at c.number.new.self.names c.in_ok-x.x c.args.x c.in_ok-x.ensures.named)))

pub returns-clause-err : goal.returns-clause-err
returns-clause-err c =
    on_err c.state.result _ _ c.state.ensures.err (λ e. said_still c.args.stated.now c.number.new.self c.state.new.self c.number.ensures.keeps e)
