use Rattle.std.proofs.Common.{[], ◌∷◌, ◌≡◌, ap, ap₂, sym, ◌∙◌}
use Rattle.std.proofs.lemmas.Option.{slice_get_within}
use Rattle.gr_base.specs.Lists.{gathered}
use Rattle.mg_facts.specs.Said.{block, related, one_node, identified, is_name, coloured, paired}
use Rattle.mg_facts.specs.Numbered.{Keeps, slot_variable, variable_in}
use Rattle.mg_facts.proofs.NumberLemmas.{Keeps-trans}
use Rattle.mg_facts.proofs.FactsLemmas.{named_at, still_at, still_slot, still_term, said_more, said_still, fresh_from, IsFresh-then, literal_at, on_ok, on_err, always_err}
use Rattle.mg_facts.proofs.facts.add_pair.Goals as goal

pub returns-in_err-slot-clause-err : goal.returns-in_err-slot-clause-err
returns-in_err-slot-clause-err c =
    always_err _ _ c.slot_at.ensures.keeps.reads

pub returns-in_err-value-clause-err : goal.returns-in_err-value-clause-err
returns-in_err-value-clause-err c =
    let k : Keeps c.args.stated.now c.term_at.new.stated = Keeps-trans c.args.stated.now c.slot_at.new.stated c.term_at.new.stated c.slot_at.ensures.keeps c.term_at.ensures.keeps in always_err _ _ k.reads

pub state-requires-clause-below : goal.state-requires-clause-below
state-requires-clause-below c =
    let s = (still_slot c.slot_at.new.stated c.term_at.new.stated c.term_at.ensures.keeps c.in_ok-slot.slot.0 _ c.in_ok-slot.ensures.slot) in (s.0, c.in_ok-value.ensures.term.0)

pub state-requires-clause-met : goal.state-requires-clause-met
state-requires-clause-met c =
    fresh_from c.args.stated.now c.term_at.new.stated _ (Keeps-trans c.args.stated.now c.slot_at.new.stated c.term_at.new.stated c.slot_at.ensures.keeps c.term_at.ensures.keeps) c.requires (IsFresh-then c.args.stated.now c.slot_at.new.stated c.term_at.new.stated (slot_variable c.in_ok-slot.slot.0) (variable_in c.in_ok-value.value) c.in_ok-slot.ensures.fresh c.in_ok-value.ensures.fresh)

pub returns-clause-ok : goal.returns-clause-ok
returns-clause-ok c =
    let s = (still_slot c.slot_at.new.stated c.term_at.new.stated c.term_at.ensures.keeps c.in_ok-slot.slot.0 _ c.in_ok-slot.ensures.slot) in on_ok c.state.result _ _ c.state.ensures.ok (λ e. said_more c.args.stated.now c.term_at.new.stated c.state.new.self _ _ (Keeps-trans c.args.stated.now c.slot_at.new.stated c.term_at.new.stated c.slot_at.ensures.keeps c.term_at.ensures.keeps) e (ap₂ (λ p v. paired p c.args.attr.0 v) s.1 c.in_ok-value.ensures.term.1))

pub returns-clause-err : goal.returns-clause-err
returns-clause-err c =
    on_err c.state.result _ _ c.state.ensures.err (λ e. said_still c.args.stated.now c.term_at.new.stated c.state.new.self (Keeps-trans c.args.stated.now c.slot_at.new.stated c.term_at.new.stated c.slot_at.ensures.keeps c.term_at.ensures.keeps) e)
