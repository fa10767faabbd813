use Rattle.std.proofs.Common.{◌≡◌, ℕ, subst, arith, refl, Bool, true, false}
use Rattle.td_desc.specs.Descriptions.{description_of}
use Rattle.td_forest.specs.Names.{IsHead}
use Rattle.td_forest.specs.Steps.{forest_of, kids_of, width}
use Rattle.td_solver.specs.Candidates.{IsEnough, IsUnderBelow}
use Rattle.td_solver.proofs.Suiting.{dark_head, head_dark}
use Rattle.td_solver.proofs.Listed.{under_skip, under_head}
use Rattle.td_solver.proofs.candidates.add_insertions.Goals.{then-is_first+then-may_go_under+in_ok-add_under, else-is_first, else-is_first-via-then-is_first+else-may_go_under, else-is_first-via-else-is_first}
use Rattle.td_solver.proofs.candidates.add_insertions.Goals as goal

pub loop-at-preserved : goal.loop-at-preserved
loop-at-preserved c =
    let d = description_of c.args.task.now.d.now in
    let m = c.args.node in
    let F = forest_of c.args.forest.now in
    let k = c.loop-at.at in
    let old = c.args.all.now.items in
    let now = c.loop-at.all.items in
    elim c.if-is_first.branch [
      | then-is_first+then-may_go_under+in_ok-add_under w ↦
          let head : IsHead F k = dark_head d c.requires.task.first c.requires.task.last m F c.requires.model k c.loop-at-test.true (w.if-is_first.ensures.0 refl) in
          rw w.all-is (under_head d m F k (width (kids_of k F)) old now w.add_under.new.all.items head refl c.loop-at.invariant w.in_ok-add_under.ensures)
      | else-is_first w ↦
          rw w.all-is
          (under_skip d m F k old now
          (λ h. elim w.else-is_first.branch [
            | else-is_first-via-then-is_first+else-may_go_under v ↦ v.if-may_go_under.ensures
            | else-is_first-via-else-is_first v ↦ (let e : ◌≡◌ {A = Bool} false true = v.if-is_first.ensures.1 (head_dark d c.requires.task.first c.requires.task.last m F c.requires.model k h) in cc)
          ])
          c.loop-at.invariant)
    ]

pub returns : goal.returns
returns c =
    let e : c.loop-at.at ≡ c.args.node = omega arith in
    subst (λ (k : ℕ). IsEnough (description_of c.args.task.now.d.now) c.args.node (forest_of c.args.forest.now) (IsUnderBelow (forest_of c.args.forest.now) k) c.args.all.now.items c.loop-at.all.items) e c.loop-at.invariant
