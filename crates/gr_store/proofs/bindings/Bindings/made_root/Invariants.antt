use Rattle.std.proofs.Common.{◌≡◌, ◌≤◌, take}
use Rattle.gr_store.specs.Contents.{rank}
use Rattle.gr_store.specs.Roots.{root_by}
use Rattle.gr_store.proofs.bindings.Bindings.made_root.Given as goal

abbrev pub invariant-walk : goal.invariant-walk
invariant-walk l =
    let trail = take l.self-inside.used l.self-inside.trail.items in
    record { joined : root_by trail l.at ≡ root_by trail l.fn.t; below : rank l.at ≤ rank l.fn.t }

abbrev pub decreases-walk : goal.decreases-walk
decreases-walk l = rank l.at
