use Rattle.gr_store.specs.State.{assertions_of}
use Rattle.gr_store.specs.Roots.{slot_root}
use Rattle.gr_terms.specs.declared.Term.TheVariants.{Var}
use Rattle.gr_store.proofs.Keeping.{put_first, put_solved, put_clash}
use Rattle.gr_store.proofs.pool.put_value.Goals as goal

pub returns-in-None-clause-solved : goal.returns-in-None-clause-solved
returns-in-None-clause-solved c =
    put_first c.args.base (assertions_of c.args.kept.now) c.args.terms.now.1 (slot_root c.args.nodes.now.1) c.args.slot c.args.attr c.args.value (Var c.root-root.result)
    c.root-root.ensures.value c.in-None.ensures

pub unify-requires-clause-a_in : goal.unify-requires-clause-a_in
unify-requires-clause-a_in c = let some = c.in-Some.ensures in c.requires.values some.from c.args.attr c.in-Some.other some.has

pub returns-in-Some-clause-solved : goal.returns-in-Some-clause-solved
returns-in-Some-clause-solved c =
    put_solved c.args.base (assertions_of c.args.kept.now) c.args.terms.now.1 c.unify.new.self.1 (slot_root c.args.nodes.now.1) c.args.slot c.args.attr c.args.value c.in-Some.other (Var c.root-root.result)
    c.root-root.ensures.value c.requires.indexed.below c.requires.slot_in c.in-Some.ensures c.unify.result c.unify.ensures.joined

pub returns-in-Some-clause-clash : goal.returns-in-Some-clause-clash
returns-in-Some-clause-clash c =
    put_clash c.args.base (assertions_of c.args.kept.now) c.args.terms.now.1 c.unify.new.self.1 (slot_root c.args.nodes.now.1) c.args.slot c.args.attr c.args.value c.in-Some.other (Var c.root-root.result)
    c.root-root.ensures.value c.requires.indexed.below c.requires.slot_in c.in-Some.ensures c.unify.result c.unify.ensures.clash
