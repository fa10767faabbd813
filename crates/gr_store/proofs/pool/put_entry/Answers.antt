use Rattle.std.proofs.Common.{ℕ, ◌+◌, sym, subst}
use Rattle.gr_terms.specs.declared.Term.TheVariants.{Var}
use Rattle.gr_store.specs.Roots.{root_by, Joins}
use Rattle.gr_store.specs.State.{assertions_of}
use Rattle.gr_store.proofs.IndexLemmas.{IsIndex-put, length-assertions_of}
use Rattle.gr_store.proofs.Keeping.{put_regroup}
use Rattle.gr_store.proofs.pool.put_entry.Goals as goal

pub returns-clause-index : goal.returns-clause-index
returns-clause-index c =
    let net = assertions_of c.args.kept.now in
    let len = length-assertions_of c.args.kept.now in
    IsIndex-put c.args.base net c.args.nodes.now.1 c.join.new.self.1 c.args.slot c.requires.slot_in c.requires.indexed.index
    (subst (λ (k : ℕ). Joins (root_by c.args.nodes.now.1) (root_by c.join.new.self.1) (Var c.args.slot.0) (Var (c.args.base + k))) (sym len) c.join.ensures.joined) c.args.attr c.args.value

pub returns-clause-solved : goal.returns-clause-solved
returns-clause-solved c = λ solved.
    let net = assertions_of c.args.kept.now in
    let len = length-assertions_of c.args.kept.now in
    put_regroup c.args.base net (root_by c.put_value.new.terms.1) c.args.nodes.now.1 c.join.new.self.1 c.args.slot c.args.attr c.args.value c.requires.slot_in c.requires.indexed.below c.requires.indexed.index
    (subst (λ (k : ℕ). Joins (root_by c.args.nodes.now.1) (root_by c.join.new.self.1) (Var c.args.slot.0) (Var (c.args.base + k))) (sym len) c.join.ensures.joined)
    (c.if-not-put_value.ensures.solved solved)
