use Rattle.std.proofs.Common.{[], ◌∷◌, ◌≡◌, ap, ap₂, sym, ◌∙◌}
use Rattle.std.proofs.lemmas.Option.{slice_get_within}
use Rattle.gr_base.specs.Lists.{gathered}
use Rattle.mg_facts.specs.Said.{block, related, one_node, identified, is_name, coloured, paired}
use Rattle.mg_facts.specs.Numbered.{Keeps, slot_variable, variable_in}
use Rattle.mg_facts.proofs.NumberLemmas.{Keeps-trans}
use Rattle.mg_facts.proofs.FactsLemmas.{named_at, still_at, still_slot, still_term, said_more, said_still, fresh_from, IsFresh-then, literal_at, on_ok, on_err, always_err}
use Rattle.mg_facts.proofs.facts.add_literal.Goals as goal

pub returns-in_err-handle-clause-err : goal.returns-in_err-handle-clause-err
returns-in_err-handle-clause-err c =
    always_err _ _ c.term_at.ensures.keeps.reads

pub returns-in_err-pred-clause-err : goal.returns-in_err-pred-clause-err
returns-in_err-pred-clause-err c =
    let k : Keeps c.args.stated.now c.term_at-2.new.stated = Keeps-trans c.args.stated.now c.term_at.new.stated c.term_at-2.new.stated c.term_at.ensures.keeps c.term_at-2.ensures.keeps in always_err _ _ k.reads

pub returns-in_err-args-clause-err : goal.returns-in_err-args-clause-err
returns-in_err-args-clause-err c =
    let k : Keeps c.args.stated.now c.terms_at.new.stated = Keeps-trans c.args.stated.now c.term_at-2.new.stated c.terms_at.new.stated (Keeps-trans c.args.stated.now c.term_at.new.stated c.term_at-2.new.stated c.term_at.ensures.keeps c.term_at-2.ensures.keeps) c.terms_at.ensures.keeps in always_err _ _ k.reads

pub state-requires-clause-below : goal.state-requires-clause-below
state-requires-clause-below c =
    let h = (still_term c.term_at.new.stated c.terms_at.new.stated (Keeps-trans c.term_at.new.stated c.term_at-2.new.stated c.terms_at.new.stated c.term_at-2.ensures.keeps c.terms_at.ensures.keeps) c.in_ok-handle.handle _ c.in_ok-handle.ensures.term) in let p = (still_term c.term_at-2.new.stated c.terms_at.new.stated c.terms_at.ensures.keeps c.in_ok-pred.pred _ c.in_ok-pred.ensures.term) in (h.0, p.0, c.in_ok-args.ensures.terms.0)

pub state-requires-clause-met : goal.state-requires-clause-met
state-requires-clause-met c =
    fresh_from c.args.stated.now c.terms_at.new.stated _ (Keeps-trans c.args.stated.now c.term_at-2.new.stated c.terms_at.new.stated (Keeps-trans c.args.stated.now c.term_at.new.stated c.term_at-2.new.stated c.term_at.ensures.keeps c.term_at-2.ensures.keeps) c.terms_at.ensures.keeps) c.requires (IsFresh-then c.args.stated.now c.term_at.new.stated c.terms_at.new.stated (variable_in c.in_ok-handle.handle) _ c.in_ok-handle.ensures.fresh (IsFresh-then c.term_at.new.stated c.term_at-2.new.stated c.terms_at.new.stated (variable_in c.in_ok-pred.pred) (gathered variable_in c.in_ok-args.args) c.in_ok-pred.ensures.fresh c.in_ok-args.ensures.fresh))

pub returns-clause-ok : goal.returns-clause-ok
returns-clause-ok c =
    let h = (still_term c.term_at.new.stated c.terms_at.new.stated (Keeps-trans c.term_at.new.stated c.term_at-2.new.stated c.terms_at.new.stated c.term_at-2.ensures.keeps c.terms_at.ensures.keeps) c.in_ok-handle.handle _ c.in_ok-handle.ensures.term) in let p = (still_term c.term_at-2.new.stated c.terms_at.new.stated c.terms_at.ensures.keeps c.in_ok-pred.pred _ c.in_ok-pred.ensures.term) in on_ok c.state.result _ _ c.state.ensures.ok (λ e. said_more c.args.stated.now c.terms_at.new.stated c.state.new.self _ _ (Keeps-trans c.args.stated.now c.term_at-2.new.stated c.terms_at.new.stated (Keeps-trans c.args.stated.now c.term_at.new.stated c.term_at-2.new.stated c.term_at.ensures.keeps c.term_at-2.ensures.keeps) c.terms_at.ensures.keeps) e (literal_at c.terms_at.new.stated.names c.in_ok-handle.handle c.in_ok-pred.pred c.in_ok-args.args _ _ _ h.1 p.1 c.in_ok-args.ensures.terms.1))

pub returns-clause-err : goal.returns-clause-err
returns-clause-err c =
    on_err c.state.result _ _ c.state.ensures.err (λ e. said_still c.args.stated.now c.terms_at.new.stated c.state.new.self (Keeps-trans c.args.stated.now c.term_at-2.new.stated c.terms_at.new.stated (Keeps-trans c.args.stated.now c.term_at.new.stated c.term_at-2.new.stated c.term_at.ensures.keeps c.term_at-2.ensures.keeps) c.terms_at.ensures.keeps) e)
