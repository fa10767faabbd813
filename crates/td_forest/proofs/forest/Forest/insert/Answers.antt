use Rattle.std.proofs.Common.{◌≡◌, ◌<◌, ◌≤◌, arith, length}
use Rattle.std.proofs.lemmas.List.{take_more_set}
use Rattle.td_forest.specs.declared.Step.TheVariants.{Insert}
use Rattle.td_forest.proofs.Moving.{steps_insert}
use Rattle.td_forest.proofs.Kept.{kept_room, kept_bound, kept_wrap, kept_insert}
use Rattle.td_forest.proofs.forest.Forest.insert.Goals as goal

pub make_room-requires : goal.make_room-requires
make_room-requires c k h =
    let f = c.self.inside in
    let b = kept_bound f.made f.count f.here f.first f.behind c.self.invariant k (c.self.invariant.places.only k h) in
    let p = b.some in
    let q = b.high in
    (omega arith, omega arith)

pub overflow_add-self : goal.overflow_add-self
overflow_add-self c =
    let f = c.self.inside in
    let can = rw (← c.self.view_is) at c.requires in
    let e : c.skip-end.result ≤ 24 =
    kept_wrap f.made f.count f.here f.first f.behind c.self.invariant c.args.under c.args.from c.args.to c.start-start.result c.skip-place.result c.skip-end.result
    (rw (← c.self.view_is) at c.start-start.ensures) (rw (← c.self.view_is) at c.skip-place.ensures) (rw (← c.self.view_is) at c.skip-end.ensures) can.step in
    omega (arith, e)

pub bounds-self-inside-self-inside : goal.bounds-self-inside-self-inside
bounds-self-inside-self-inside c =
    let f = c.self.inside in
    let can = rw (← c.self.view_is) at c.requires in
    kept_room f.made f.count f.here f.first f.behind c.self.invariant c.args.node can.low c.self.told.0 can.new

pub invariant_of-self : goal.invariant_of-self
invariant_of-self c =
    let f = c.self.inside in
    let can = rw (← c.self.view_is) at c.requires in
    kept_insert f.made f.count f.here f.first f.behind c.self.invariant c.args.node c.args.under c.args.from c.args.to c.start-start.result c.skip-place.result c.skip-end.result
    c.make_room.new.first c.make_room.new.behind
    (rw (← c.self.view_is) at c.start-start.ensures) (rw (← c.self.view_is) at c.skip-place.ensures) (rw (← c.self.view_is) at c.skip-end.ensures)
    c.self.told.0 c.make_room.ensures.cells.0 c.make_room.ensures.cells.1 can c.make_room.ensures.shifted

pub returns-clause-made : goal.returns-clause-made
returns-clause-made c =
    let f = c.self.inside in
    let can = rw (← c.self.view_is) at c.requires in
    let r : f.count < 24 = kept_room f.made f.count f.here f.first f.behind c.self.invariant c.args.node can.low c.self.told.0 can.new in
    let l : length f.made ≡ 24 = c.self.invariant.cells in
    rw (← c.self.view_is) (take_more_set f.made f.count (record { node = c.args.node; step = Insert c.args.under c.args.from c.args.to }) (omega arith))

pub returns-clause-moves : goal.returns-clause-moves
returns-clause-moves c base is = steps_insert c.args.self.now _ c.args.node c.args.under c.args.from c.args.to (rw (← c.self.view_is) c.self.invariant.grown) c.requires.step (returns-clause-made c) base is
