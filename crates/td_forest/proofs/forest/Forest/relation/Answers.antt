use Rattle.std.proofs.Common.{◌<◌, take, arith, get_or}
use Rattle.td_forest.specs.declared.Relation.TheVariants.{Same, Over, Under, Left, Right}
use Rattle.td_forest.specs.Steps.{forest_of}
use Rattle.td_forest.proofs.Positions.{by_position}
use Rattle.td_forest.proofs.Places.{relates_same, relates_over, relates_under, relates_left, relates_right}
use Rattle.td_forest.proofs.forest.Forest.relation.Goals as goal

pub returns-then-at-other : goal.returns-then-at-other
returns-then-at-other c =
    let f = c.self.inside in
    rw (← c.self.view_is)
    (by_position (forest_of (take f.count f.made)) c.args.a c.args.b Same
    (relates_same (take f.count f.made) f.here f.first f.behind c.args.a c.args.b c.self.invariant.places (rw (← c.self.view_is) at c.requires.a_here) (rw (← c.self.view_is) at c.requires.b_here) c.if-at-other.true))

pub returns-then-other-self : goal.returns-then-other-self
returns-then-other-self c =
    let f = c.self.inside in
    rw (← c.self.view_is)
    (by_position (forest_of (take f.count f.made)) c.args.a c.args.b Over
    (relates_over (take f.count f.made) f.here f.first f.behind c.args.a c.args.b c.self.invariant.places (rw (← c.self.view_is) at c.requires.a_here) (rw (← c.self.view_is) at c.requires.b_here) c.if-at-other-2.true c.if-other-self.true))

pub returns-else-other-self : goal.returns-else-other-self
returns-else-other-self c =
    let f = c.self.inside in
    rw (← c.self.view_is)
    (by_position (forest_of (take f.count f.made)) c.args.a c.args.b Left
    (relates_left (take f.count f.made) f.here f.first f.behind c.args.a c.args.b c.self.invariant.places (rw (← c.self.view_is) at c.requires.a_here) (rw (← c.self.view_is) at c.requires.b_here) c.if-other-self.false))

pub returns-then-at-self : goal.returns-then-at-self
returns-then-at-self c =
    let f = c.self.inside in
    let lt : get_or f.first c.args.b 0 < get_or f.first c.args.a 0 = omega arith in
    rw (← c.self.view_is)
    (by_position (forest_of (take f.count f.made)) c.args.a c.args.b Under
    (relates_under (take f.count f.made) f.here f.first f.behind c.args.a c.args.b c.self.invariant.places (rw (← c.self.view_is) at c.requires.a_here) (rw (← c.self.view_is) at c.requires.b_here) lt c.if-at-self.true))

pub returns-else-at-self : goal.returns-else-at-self
returns-else-at-self c =
    let f = c.self.inside in
    rw (← c.self.view_is)
    (by_position (forest_of (take f.count f.made)) c.args.a c.args.b Right
    (relates_right (take f.count f.made) f.here f.first f.behind c.args.a c.args.b c.self.invariant.places (rw (← c.self.view_is) at c.requires.a_here) (rw (← c.self.view_is) at c.requires.b_here) c.if-at-self.false))
