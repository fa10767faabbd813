use Rattle.std.proofs.Common.{ℕ, sym, ap, ◌∙◌}
use Rattle.gr_terms.specs.declared.Term.TheVariants.{Var}
use Rattle.gr_store.specs.Roots.{root_by, slot_root}
use Rattle.gr_store.specs.State.{assertions_of}
use Rattle.gr_store.proofs.Keeping.{link_same, link_skip, link_solved, link_clash, link_index}
use Rattle.gr_store.proofs.pool.link_slots.Goals as goal

pub returns-then-from-into-clause-solved : goal.returns-then-from-into-clause-solved
returns-then-from-into-clause-solved c =
    link_same c.args.base (assertions_of c.args.kept.now) (root_by c.args.terms.now.1) (slot_root c.args.nodes.now.1) c.args.a c.args.b
    (c.root-from.ensures.value ∙ ap (λ (k : ℕ). Var k) c.if-from-into.true ∙ sym c.root-into.ensures.value)

pub returns-then-from-into-clause-index : goal.returns-then-from-into-clause-index
returns-then-from-into-clause-index c = link_skip c.args.base (assertions_of c.args.kept.now) c.args.nodes.now.1 c.args.a c.args.b c.requires.indexed.index

pub returns-then-not-pool_classes-clause-clash : goal.returns-then-not-pool_classes-clause-clash
returns-then-not-pool_classes-clause-clash c =
    link_clash c.args.base (assertions_of c.args.kept.now) c.args.terms.now.1 c.pool_classes.new.terms.1 c.args.nodes.now.1 c.args.nodes.now.1 c.args.a c.args.b c.root-from.result c.root-into.result
    c.requires.a_in c.requires.b_in c.root-from.ensures.value c.root-into.ensures.value c.if-not-pool_classes.ensures.clash

pub returns-clause-solved : goal.returns-clause-solved
returns-clause-solved c =
    link_solved c.args.base (assertions_of c.args.kept.now) c.args.terms.now.1 c.pool_classes.new.terms.1 c.args.nodes.now.1 c.join.new.self.1 c.args.a c.args.b c.root-from.result c.root-into.result
    c.requires.a_in c.requires.b_in c.root-from.ensures.value c.root-into.ensures.value c.join.ensures.joined c.if-not-pool_classes.ensures.extends c.if-not-pool_classes.ensures.is_linked c.if-not-pool_classes.ensures.shares

pub returns-clause-index : goal.returns-clause-index
returns-clause-index c =
    link_index c.args.base (assertions_of c.args.kept.now) c.args.nodes.now.1 c.join.new.self.1 c.args.a c.args.b c.requires.a_in c.requires.b_in c.join.ensures.joined c.requires.indexed.index
