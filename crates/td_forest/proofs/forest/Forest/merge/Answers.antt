use Rattle.std.proofs.Common.{◌≡◌, ◌<◌, arith, length}
use Rattle.std.proofs.lemmas.List.{take_more_set}
use Rattle.td_forest.specs.declared.Step.TheVariants.{Merge}
use Rattle.td_forest.proofs.Moving.{steps_merge}
use Rattle.td_forest.proofs.Kept.{kept_room, kept_merge}
use Rattle.td_forest.proofs.forest.Forest.merge.Goals as goal

pub bounds-self-inside-self-inside : goal.bounds-self-inside-self-inside
bounds-self-inside-self-inside c =
    let f = c.self.inside in
    let can = rw (← c.self.view_is) at c.requires in
    kept_room f.made f.count f.here f.first f.behind c.self.invariant c.args.node can.low c.self.told.0 can.new

pub invariant_of-self : goal.invariant_of-self
invariant_of-self c =
    let f = c.self.inside in
    let can = rw (← c.self.view_is) at c.requires in
    kept_merge f.made f.count f.here f.first f.behind c.self.invariant c.args.node c.args.at c.self.told.0 c.self.told.1 c.self.told.2 can

pub returns-clause-made : goal.returns-clause-made
returns-clause-made c =
    let f = c.self.inside in
    let can = rw (← c.self.view_is) at c.requires in
    let r : f.count < 24 = kept_room f.made f.count f.here f.first f.behind c.self.invariant c.args.node can.low c.self.told.0 can.new in
    let l : length f.made ≡ 24 = c.self.invariant.cells in
    rw (← c.self.view_is) (take_more_set f.made f.count (record { node = c.args.node; step = Merge c.args.at }) (omega arith))

pub returns-clause-moves : goal.returns-clause-moves
returns-clause-moves c p is = steps_merge c.args.self.now _ c.args.node c.args.at (rw (← c.self.view_is) c.self.invariant.grown) c.requires.step (returns-clause-made c) p is
