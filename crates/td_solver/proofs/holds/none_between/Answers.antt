use Rattle.std.proofs.Common.{◌≡◌, Bool, true, false, refl}
use Rattle.td_forest.specs.Steps.{forest_of}
use Rattle.td_solver.proofs.Deciding.{one_between, between_more, none_far}
use Rattle.td_solver.proofs.holds.none_between.Goals.{else-relates-via-then-relates+else-relates-2, else-relates-via-else-relates}
use Rattle.td_solver.proofs.holds.none_between.Goals as goal

pub returns-then-relates-2 : goal.returns-then-relates-2
returns-then-relates-2 c =
    one_between c.args.nodes (forest_of c.args.forest.now) c.args.a c.args.b c.loop-z.z c.args.how c.loop-z-test.true (c.if-relates.ensures.0 refl) (c.if-relates-2.ensures.0 refl)

pub loop-z-preserved : goal.loop-z-preserved
loop-z-preserved c =
    between_more (forest_of c.args.forest.now) c.args.a c.args.b c.loop-z.z c.args.how c.loop-z.invariant
    (λ i j. elim c.else-relates.branch [
      | else-relates-via-then-relates+else-relates-2 w ↦ (let e : ◌≡◌ {A = Bool} false true = w.if-relates-2.ensures.1 j in cc)
      | else-relates-via-else-relates w ↦ (let e : ◌≡◌ {A = Bool} false true = w.if-relates.ensures.1 i in cc)
    ])

pub returns : goal.returns
returns c = none_far (forest_of c.args.forest.now) c.args.a c.args.b c.args.nodes c.loop-z.z c.args.how c.loop-z-test.false c.loop-z.invariant
