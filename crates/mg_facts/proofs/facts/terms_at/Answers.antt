use Rattle.std.proofs.Common.{[], ◌≡◌, ◌+◌, length, take, map, refl, subst, sym, ◌∙◌}
use Rattle.gr_base.specs.Lists.{Each, gathered}
use Rattle.td_desc.specs.Conditions.{IsTermBelow}
use Rattle.mg_facts.specs.Said.{term_of}
use Rattle.mg_facts.specs.Numbered.{IsFresh, variable_in, read_terms}
use Rattle.mg_facts.proofs.LoopLemmas.{taken_all}
use Rattle.mg_facts.proofs.NumberLemmas.{Keeps-refl, Keeps-trans}
use Rattle.mg_facts.proofs.FactsLemmas.{nothing_fresh, terms_fresh, terms_more, still_terms}
use Rattle.mg_facts.proofs.facts.terms_at.Goals as goal

pub returns-in_err-terms-clause-keeps : goal.returns-in_err-terms-clause-keeps
returns-in_err-terms-clause-keeps c = Keeps-refl c.args.stated.now

pub loop-value-init : goal.loop-value-init
loop-value-init c =
    record {
      terms = subst (λ ts. Each (IsTermBelow (length c.args.stated.now.names)) ts × (read_terms c.args.stated.now.names ts ≡ [])) (sym c.in_ok-terms.ensures.items) (tt, refl);
      keeps = Keeps-refl c.args.stated.now;
      fresh = nothing_fresh c.args.stated.now (gathered variable_in c.in_ok-terms.terms.items);
    }

pub loop-value-preserved : goal.loop-value-preserved
loop-value-preserved c = record {
  terms = subst (λ ts. Each (IsTermBelow (length c.term_at.new.stated.names)) ts × (read_terms c.term_at.new.stated.names ts ≡ map term_of (take (c.loop-value.value-index + 1) c.args.values.now))) (sym c.in_ok-push.ensures.items)
      (terms_more c.term_at.new.stated.names c.loop-value.terms.items c.in_ok-term.term c.args.values.now c.loop-value.value-index _ c.loop-value-test.true
      (still_terms c.loop-value.stated c.term_at.new.stated c.term_at.ensures.keeps c.loop-value.terms.items _ c.loop-value.invariant.terms) c.in_ok-term.ensures.term);
  keeps = Keeps-trans c.args.stated.now c.loop-value.stated c.term_at.new.stated c.loop-value.invariant.keeps c.term_at.ensures.keeps;
  fresh = subst (λ ts. IsFresh c.args.stated.now c.term_at.new.stated (gathered variable_in ts)) (sym c.in_ok-push.ensures.items)
      (terms_fresh c.args.stated.now c.loop-value.stated c.term_at.new.stated c.loop-value.terms.items c.in_ok-term.term c.loop-value.invariant.fresh c.in_ok-term.ensures.fresh);
}

pub returns-in_err-term-clause-keeps : goal.returns-in_err-term-clause-keeps
returns-in_err-term-clause-keeps c = Keeps-trans c.args.stated.now c.loop-value.stated c.term_at.new.stated c.loop-value.invariant.keeps c.term_at.ensures.keeps

pub returns-in_err-push-clause-keeps : goal.returns-in_err-push-clause-keeps
returns-in_err-push-clause-keeps c = Keeps-trans c.args.stated.now c.loop-value.stated c.term_at.new.stated c.loop-value.invariant.keeps c.term_at.ensures.keeps

pub returns-clause-terms : goal.returns-clause-terms
returns-clause-terms c =
    subst (λ ts. Each (IsTermBelow (length c.loop-value.stated.names)) ts × (read_terms c.loop-value.stated.names ts ≡ map term_of c.args.values.now)) (sym c.from_vec.ensures)
    (subst (λ vs. Each (IsTermBelow (length c.loop-value.stated.names)) c.loop-value.terms.items × (read_terms c.loop-value.stated.names c.loop-value.terms.items ≡ map term_of vs))
    (taken_all c.args.values.now c.loop-value.value-index c.loop-value-test.false) c.loop-value.invariant.terms)

pub returns-clause-fresh : goal.returns-clause-fresh
returns-clause-fresh c = subst (λ ts. IsFresh c.args.stated.now c.loop-value.stated (gathered variable_in ts)) (sym c.from_vec.ensures) c.loop-value.invariant.fresh

pub returns-clause-keeps : goal.returns-clause-keeps
returns-clause-keeps c = c.loop-value.invariant.keeps
