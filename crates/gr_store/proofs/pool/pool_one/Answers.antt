use Rattle.std.proofs.Common.{sym, subst}
use Rattle.std.specs.List.{Contains}
use Rattle.gr_terms.specs.declared.Sym.{Sym}
use Rattle.gr_terms.specs.declared.Assertion.TheVariants.{Entry, Equate, Link}
use Rattle.gr_store.specs.State.{assertions_of}
use Rattle.gr_store.proofs.IndexLemmas.{node_of_kept, one_value, no_value}
use Rattle.gr_store.proofs.Keeping.{is_linked_answer, shares_answer, clash_answer}
use Rattle.gr_store.proofs.pool.pool_one.Goals as goal

pub returns-in-None-clause-shares : goal.returns-in-None-clause-shares
returns-in-None-clause-shares c = λ pools of w t x d told has.
    let same = one_value c.args.kept.now c.args.base c.args.node _ c.if-node-base.false c.requires.node_in c.in-Entry.field-0 c.in-Entry.attr c.in-Entry.value c.in-Entry.is of w d in
    absurd (c.in-None.ensures t x (subst (λ (a : Sym). Contains (assertions_of c.args.kept.now) (Entry t a x)) (sym same.0) has) told)

pub unify-requires-clause-a_in : goal.unify-requires-clause-a_in
unify-requires-clause-a_in c = let some = c.in-Some.ensures in c.requires.values some.from c.in-Entry.attr c.in-Some.other some.has

pub unify-requires-clause-b_in : goal.unify-requires-clause-b_in
unify-requires-clause-b_in c =
    let e = node_of_kept c.args.kept.now c.args.base c.args.node _ c.if-node-base.false c.requires.node_in c.in-Entry.field-0 c.in-Entry.attr c.in-Entry.value c.in-Entry.is in
    c.requires.values e.2.0 c.in-Entry.attr c.in-Entry.value (e.0, e.2.1.0, e.2.1.1)

pub returns-in-Some-clause-is_linked : goal.returns-in-Some-clause-is_linked
returns-in-Some-clause-is_linked c = λ from of_from.
    is_linked_answer c.args.base (assertions_of c.args.kept.now) c.args.nodes.now c.requires.indexed c.args.terms.now.1 c.unify.new.self.1 c.args.node c.args.into c.in-Entry.attr c.in-Entry.value c.in-Some.other
    (node_of_kept c.args.kept.now c.args.base c.args.node _ c.if-node-base.false c.requires.node_in c.in-Entry.field-0 c.in-Entry.attr c.in-Entry.value c.in-Entry.is) c.in-Some.ensures
    (one_value c.args.kept.now c.args.base c.args.node _ c.if-node-base.false c.requires.node_in c.in-Entry.field-0 c.in-Entry.attr c.in-Entry.value c.in-Entry.is)
    c.unify.result from of_from c.unify.ensures.joined c.unify.ensures.clash

pub returns-in-Some-clause-shares : goal.returns-in-Some-clause-shares
returns-in-Some-clause-shares c =
    shares_answer c.args.base (assertions_of c.args.kept.now) c.args.nodes.now c.requires.indexed c.args.terms.now.1 c.unify.new.self.1 c.args.node c.args.into c.in-Entry.attr c.in-Entry.value c.in-Some.other
    (node_of_kept c.args.kept.now c.args.base c.args.node _ c.if-node-base.false c.requires.node_in c.in-Entry.field-0 c.in-Entry.attr c.in-Entry.value c.in-Entry.is) c.in-Some.ensures
    (one_value c.args.kept.now c.args.base c.args.node _ c.if-node-base.false c.requires.node_in c.in-Entry.field-0 c.in-Entry.attr c.in-Entry.value c.in-Entry.is)
    c.unify.result c.unify.ensures.joined

pub returns-in-Some-clause-clash : goal.returns-in-Some-clause-clash
returns-in-Some-clause-clash c =
    clash_answer c.args.base (assertions_of c.args.kept.now) c.args.nodes.now c.requires.indexed c.args.terms.now.1 c.unify.new.self.1 c.args.node c.args.into c.in-Entry.attr c.in-Entry.value c.in-Some.other
    (node_of_kept c.args.kept.now c.args.base c.args.node _ c.if-node-base.false c.requires.node_in c.in-Entry.field-0 c.in-Entry.attr c.in-Entry.value c.in-Entry.is) c.in-Some.ensures
    (one_value c.args.kept.now c.args.base c.args.node _ c.if-node-base.false c.requires.node_in c.in-Entry.field-0 c.in-Entry.attr c.in-Entry.value c.in-Entry.is)
    c.unify.result c.unify.ensures.clash

pub returns-in-Equate-clause-shares : goal.returns-in-Equate-clause-shares
returns-in-Equate-clause-shares c = λ pools of w t x d told has.
    absurd (no_value c.args.kept.now c.args.base c.args.node _ c.if-node-base.false c.requires.node_in (Equate c.in-Equate.field-0 c.in-Equate.field-1) c.in-Equate.is (λ s attr a same. cc) of w d)

pub returns-in-Link-clause-shares : goal.returns-in-Link-clause-shares
returns-in-Link-clause-shares c = λ pools of w t x d told has.
    absurd (no_value c.args.kept.now c.args.base c.args.node _ c.if-node-base.false c.requires.node_in (Link c.in-Link.field-0 c.in-Link.field-1) c.in-Link.is (λ s attr a same. cc) of w d)
