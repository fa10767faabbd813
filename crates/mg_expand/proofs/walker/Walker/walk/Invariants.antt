use Rattle.std.proofs.Common.{List}
use Rattle.mg_expand.specs.Routes.{Outcome}
use Rattle.mg_expand.specs.Walkers.{CanGo, Goes, left_for}
use Rattle.mg_expand.proofs.walker.Walker.walk.Given as goal

abbrev pub invariant-steps : goal.invariant-steps
invariant-steps l =
    CanGo l.resolved l.self l.now
    × ((outs : List Outcome) → Goes l.resolved l.fn.self l.fn.errand outs → Goes l.resolved l.self l.now outs)

abbrev pub decreases-steps : goal.decreases-steps
decreases-steps l = left_for l.resolved l.self l.now
