use Rattle.std.proofs.Common.{◌≡◌, ℕ, subst, arith, Bool, true, false}
use Rattle.td_forest.specs.Steps.{forest_of}
use Rattle.td_solver.specs.Candidates.{AreTold}
use Rattle.td_solver.proofs.Narrowing.{told_more}
use Rattle.td_solver.proofs.candidates.are_told.Goals.{else-not-is_told-via-then-not-is_told+else-relates, else-not-is_told-via-else-not-is_told}
use Rattle.td_solver.proofs.candidates.are_told.Goals as goal

pub loop-kid-preserved : goal.loop-kid-preserved
loop-kid-preserved c =
    told_more c.args.task.now.d.now.relations c.args.node (forest_of c.args.forest.now) c.args.at c.loop-kid.kid c.loop-kid.invariant
    (λ over. elim c.else-not-is_told.branch [
      | else-not-is_told-via-then-not-is_told+else-relates w ↦ (let e : ◌≡◌ {A = Bool} false true = w.if-relates.ensures.1 over in cc)
      | else-not-is_told-via-else-not-is_told w ↦ w.if-not-is_told.ensures
    ])

pub returns : goal.returns
returns c =
    let e : c.loop-kid.kid ≡ c.args.node = omega arith in
    subst (λ (k : ℕ). AreTold c.args.task.now.d.now.relations c.args.node (forest_of c.args.forest.now) c.args.at k) e c.loop-kid.invariant
