use Rattle.gr_base.proofs.ListLemmas.{Each-at}
use Rattle.gr_terms.specs.declared.Sym.{Sym}
use Rattle.gr_terms.specs.declared.Term.{Term}
use Rattle.gr_store.specs.Contents.{IsMade}
use Rattle.lx_anchor.proofs.SharingLemmas.{value-absent, value-found, value-refused}
use Rattle.lx_anchor.proofs.sharing.share_value.Goals as goal

pub equate-requires-clause-a_made : goal.equate-requires-clause-a_made
equate-requires-clause-a_made c = Each-at (λ (p : Sym × Term). IsMade c.args.store.now.vars p.1) c.args.bag.now (c.args.attr, c.in-Some.other) c.requires.bag_made c.in-Some.ensures.value

pub returns-in-Some-clause-shared : goal.returns-in-Some-clause-shared
returns-in-Some-clause-shared c =
    value-found c.args.bag.now c.args.attr c.in-Some.other c.args.value c.args.store.now c.equate.new.self c.equate.result c.in-Some.ensures.listed c.in-Some.ensures.value c.requires.room c.equate.ensures.accepted

pub returns-in-Some-clause-refused : goal.returns-in-Some-clause-refused
returns-in-Some-clause-refused c = value-refused c.args.bag.now c.args.attr c.in-Some.other c.args.value c.args.store.now c.equate.result c.in-Some.ensures.value c.equate.ensures.agrees

pub returns-in-None-clause-shared : goal.returns-in-None-clause-shared
returns-in-None-clause-shared c = value-absent c.args.bag.now c.args.attr c.args.value c.args.store.now c.in-None.ensures.value
