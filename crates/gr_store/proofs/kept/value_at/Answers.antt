use Rattle.std.proofs.Common.{◌≡◌, ◌≢◌, subst, rules}
use Rattle.gr_terms.specs.declared.Sym.{Sym}
use Rattle.gr_terms.specs.declared.Assertion.TheVariants.{Equate, Link}
use Rattle.gr_store.specs.Index.{IsEntryNode}
use Rattle.gr_store.specs.State.{assertions_of}
use Rattle.gr_store.proofs.IndexLemmas.{node_of_kept, one_value, no_value}
use Rattle.gr_store.proofs.kept.value_at.Goals as goal

pub returns-then-eq : goal.returns-then-eq
returns-then-eq c =
    let same : c.in-Entry.of ≡ c.args.attr = search rules in
    subst (λ (attr : Sym). IsEntryNode c.args.base (assertions_of c.args.kept.now) attr c.args.node c.in-Entry.value) same
    (node_of_kept c.args.kept.now c.args.base c.args.node _ c.if-node-base.false c.requires c.in-Entry.field-0 c.in-Entry.of c.in-Entry.value c.in-Entry.is)

pub returns-else-eq : goal.returns-else-eq
returns-else-eq c =
    let differ : c.in-Entry.of ≢ c.args.attr = search rules in
    λ w e. differ (one_value c.args.kept.now c.args.base c.args.node _ c.if-node-base.false c.requires c.in-Entry.field-0 c.in-Entry.of c.in-Entry.value c.in-Entry.is c.args.attr w e).0

pub returns-in-Equate : goal.returns-in-Equate
returns-in-Equate c =
    no_value c.args.kept.now c.args.base c.args.node _ c.if-node-base.false c.requires (Equate c.in-Equate.field-0 c.in-Equate.field-1) c.in-Equate.is (λ s attr a same. cc) c.args.attr

pub returns-in-Link : goal.returns-in-Link
returns-in-Link c =
    no_value c.args.kept.now c.args.base c.args.node _ c.if-node-base.false c.requires (Link c.in-Link.field-0 c.in-Link.field-1) c.in-Link.is (λ s attr a same. cc) c.args.attr
