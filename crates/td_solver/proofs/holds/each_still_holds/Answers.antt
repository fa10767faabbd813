use Rattle.std.proofs.Common.{◌≡◌, ℕ, Bool, true, false, get_or, refl, below_more}
use Rattle.td_forest.specs.Steps.{forest_of}
use Rattle.td_forest.specs.Without.{without}
use Rattle.td_solver.specs.Ties.{HoldsOf, no_relation}
use Rattle.td_solver.proofs.Deciding.{each_at, each_stop, each_end}
use Rattle.td_solver.proofs.holds.each_still_holds.Goals as goal

pub still_holds-requires-clause-before : goal.still_holds-requires-clause-before
still_holds-requires-clause-before c =
    each_at (HoldsOf (without c.args.node (forest_of c.args.forest.now))) c.args.relations.now c.loop-related.related-index no_relation c.requires.before c.loop-related-test.true

pub returns-then-not-still_holds : goal.returns-then-not-still_holds
returns-then-not-still_holds c =
    each_stop (HoldsOf (forest_of c.args.forest.now)) c.args.relations.now c.loop-related.related-index no_relation c.loop-related-test.true
    (λ h. let e : ◌≡◌ {A = Bool} false true = c.if-not-still_holds.ensures.1 h in cc)

pub returns : goal.returns
returns c = each_end (HoldsOf (forest_of c.args.forest.now)) c.args.relations.now c.loop-related.related-index no_relation c.loop-related-test.false c.loop-related.invariant

pub loop-related-preserved : goal.loop-related-preserved
loop-related-preserved c =
    below_more (λ (j : ℕ). HoldsOf (forest_of c.args.forest.now) (get_or c.args.relations.now j no_relation)) c.loop-related.related-index c.loop-related.invariant (c.if-not-still_holds.ensures.0 refl)
