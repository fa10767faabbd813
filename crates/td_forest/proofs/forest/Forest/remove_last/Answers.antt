use Rattle.std.proofs.Common.{◌<◌}
use Rattle.td_forest.specs.declared.Step.TheVariants.{Merge}
use Rattle.td_forest.proofs.Kept.{kept_some, kept_last, kept_bound, kept_unmerge, kept_uninsert, still_here}
use Rattle.td_forest.proofs.forest.Forest.remove_last.Goals as goal

pub bounds-self-inside-node : goal.bounds-self-inside-node
bounds-self-inside-node c =
    let f = c.self.inside in
    let some : 0 < f.count = kept_some f.made f.count f.here f.first f.behind c.self.invariant (rw (← c.self.view_is) at c.requires) in
    (kept_last f.made f.count f.here f.first f.behind c.self.invariant (record { node = 0; step = Merge 0 }) some).can.low

pub invariant_of-self : goal.invariant_of-self
invariant_of-self c =
    let f = c.self.inside in
    let some : 0 < f.count = kept_some f.made f.count f.here f.first f.behind c.self.invariant (rw (← c.self.view_is) at c.requires) in
    kept_unmerge f.made f.count f.here f.first f.behind c.self.invariant _ c.in-Merge.field-0 some c.self.told.0
    (kept_last f.made f.count f.here f.first f.behind c.self.invariant (record { node = 0; step = Merge 0 }) some) c.in-Merge.is

pub bounds-self-inside-node-in-Insert : goal.bounds-self-inside-node-in-Insert
bounds-self-inside-node-in-Insert c =
    let f = c.self.inside in
    let some : 0 < f.count = kept_some f.made f.count f.here f.first f.behind c.self.invariant (rw (← c.self.view_is) at c.requires) in
    (kept_last f.made f.count f.here f.first f.behind c.self.invariant (record { node = 0; step = Merge 0 }) some).can.low

pub close_room-requires : goal.close_room-requires
close_room-requires c k h =
    let f = c.self.inside in
    (kept_bound f.made f.count f.here f.first f.behind c.self.invariant k (c.self.invariant.places.only k (still_here f.here _ k h))).some

pub invariant_of-self-in-Insert : goal.invariant_of-self-in-Insert
invariant_of-self-in-Insert c =
    let f = c.self.inside in
    let some : 0 < f.count = kept_some f.made f.count f.here f.first f.behind c.self.invariant (rw (← c.self.view_is) at c.requires) in
    kept_uninsert f.made f.count f.here f.first f.behind c.self.invariant _ c.in-Insert.field-0 c.in-Insert.field-1 c.in-Insert.field-2 c.close_room.new.first c.close_room.new.behind some c.self.told.0
    (kept_last f.made f.count f.here f.first f.behind c.self.invariant (record { node = 0; step = Merge 0 }) some) c.in-Insert.is c.close_room.ensures
