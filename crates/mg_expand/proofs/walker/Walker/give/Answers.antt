use Rattle.std.proofs.Common.{List, refl, subst, take, MatchOption}
use Rattle.td_desc.specs.declared.Description as code
use Rattle.std.proofs.Common.{Option}
use Rattle.mg_facts.specs.Meanings.{Clashes, IsDescriptionOf}
use Rattle.mg_expand.specs.declared.walker.Walker.{Walker}
use Rattle.mg_expand.specs.Routes.{Outcome}
use Rattle.mg_expand.specs.Walkers.{Ends}
use Rattle.mg_expand.specs.Ways.{Stands}
use Rattle.mg_expand.proofs.WayLemmas.{goes-fork, gave-description, gave-clash}
use Rattle.mg_expand.proofs.WalkerLemmas.{Is}
use Rattle.mg_expand.proofs.walker.Walker.give.Goals as goal

pub walk-requires : goal.walk-requires
walk-requires c =
    let w : Walker = record c.args.self.now { kept = c.truncate.new.self; forks = c.pop.new.self; facts = c.keep.new.self; items = c.in-Some.fork.items } in
    let is : Is w (take c.in-Some.fork.kept c.args.self.now.kept.items) (take c.in-Some.fork.said c.args.self.now.facts) c.pop.new.self.items c.in-Some.fork.items =
    record { as_kept = c.truncate.ensures.items; as_said = c.keep.ensures; as_forks = refl; as_items = refl } in
    let goes = goes-fork c.args.resolved.now c.args.self.now w c.pop.new.self.items c.in-Some.fork in
    (c.requires.stands.0, goes c.requires.stands.0 c.requires.stands.1 c.in-Some.ensures.items is)

pub returns-then-not-branch : goal.returns-then-not-branch
returns-then-not-branch c =
    let w : Walker = record c.args.self.now { kept = c.truncate.new.self; forks = c.pop.new.self; facts = c.keep.new.self; items = c.in-Some.fork.items } in
    let is : Is w (take c.in-Some.fork.kept c.args.self.now.kept.items) (take c.in-Some.fork.said c.args.self.now.facts) c.pop.new.self.items c.in-Some.fork.items =
    record { as_kept = c.truncate.ensures.items; as_said = c.keep.ensures; as_forks = refl; as_items = refl } in
    let goes = goes-fork c.args.resolved.now c.args.self.now w c.pop.new.self.items c.in-Some.fork in
    let end = λ (outs : List Outcome) (h : Stands c.args.resolved.now c.args.self.now outs).
    subst (λ z. Ends c.args.resolved.now c.walk.new.self z outs) c.if-not-branch.true (c.in_ok-walk.ensures outs (goes outs h c.in-Some.ensures.items is)) in
    λ outs h. end outs h

pub returns-in-Some-2 : goal.returns-in-Some-2
returns-in-Some-2 c =
    let w : Walker = record c.args.self.now { kept = c.truncate.new.self; forks = c.pop.new.self; facts = c.keep.new.self; items = c.in-Some.fork.items } in
    let is : Is w (take c.in-Some.fork.kept c.args.self.now.kept.items) (take c.in-Some.fork.said c.args.self.now.facts) c.pop.new.self.items c.in-Some.fork.items =
    record { as_kept = c.truncate.ensures.items; as_said = c.keep.ensures; as_forks = refl; as_items = refl } in
    let goes = goes-fork c.args.resolved.now c.args.self.now w c.pop.new.self.items c.in-Some.fork in
    let end = λ (outs : List Outcome) (h : Stands c.args.resolved.now c.args.self.now outs).
    subst (λ z. Ends c.args.resolved.now c.walk.new.self z outs) c.if-not-branch.false (c.in_ok-walk.ensures outs (goes outs h c.in-Some.ensures.items is)) in
    let told = subst (λ (o : Option code.Description). MatchOption o (Clashes c.walk.new.self.facts) (λ d. (Clashes c.walk.new.self.facts → ⊥) × IsDescriptionOf c.walk.new.self.facts d))
    c.in-Some-2.is c.in_ok-description.ensures in
    λ outs h. gave-description c.args.resolved.now c.walk.new.self outs c.in-Some-2.description (end outs h) told.0 told.1

pub returns-in-None : goal.returns-in-None
returns-in-None c =
    let w : Walker = record c.args.self.now { kept = c.truncate.new.self; forks = c.pop.new.self; facts = c.keep.new.self; items = c.in-Some.fork.items } in
    let is : Is w (take c.in-Some.fork.kept c.args.self.now.kept.items) (take c.in-Some.fork.said c.args.self.now.facts) c.pop.new.self.items c.in-Some.fork.items =
    record { as_kept = c.truncate.ensures.items; as_said = c.keep.ensures; as_forks = refl; as_items = refl } in
    let goes = goes-fork c.args.resolved.now c.args.self.now w c.pop.new.self.items c.in-Some.fork in
    let end = λ (outs : List Outcome) (h : Stands c.args.resolved.now c.args.self.now outs).
    subst (λ z. Ends c.args.resolved.now c.walk.new.self z outs) c.if-not-branch.false (c.in_ok-walk.ensures outs (goes outs h c.in-Some.ensures.items is)) in
    let told = subst (λ (o : Option code.Description). MatchOption o (Clashes c.walk.new.self.facts) (λ d. (Clashes c.walk.new.self.facts → ⊥) × IsDescriptionOf c.walk.new.self.facts d))
    c.in-None.is c.in_ok-description.ensures in
    λ outs h. gave-clash c.args.resolved.now c.walk.new.self outs (end outs h) told
