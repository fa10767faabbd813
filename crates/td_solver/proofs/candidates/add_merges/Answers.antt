use Rattle.std.proofs.Common.{◌≡◌, ℕ, subst, arith, refl, Bool, true, false}
use Rattle.td_desc.specs.Descriptions.{description_of}
use Rattle.td_forest.specs.Names.{IsHead}
use Rattle.td_forest.specs.Steps.{forest_of}
use Rattle.td_solver.specs.Candidates.{IsEnough, IsMergeBelow}
use Rattle.td_solver.proofs.Suiting.{dark_head, head_dark}
use Rattle.td_solver.proofs.Listed.{merges_none, merges_skip, merges_head}
use Rattle.td_solver.proofs.candidates.add_merges.Goals.{then-is_first+then-may_merge+in_ok-push, else-is_first, else-is_first-via-then-is_first+else-may_merge, else-is_first-via-else-is_first}
use Rattle.td_solver.proofs.candidates.add_merges.Goals as goal

pub loop-at-init : goal.loop-at-init
loop-at-init c = merges_none (description_of c.args.task.now.d.now) c.args.node (forest_of c.args.forest.now) c.args.all.now.items

pub loop-at-preserved : goal.loop-at-preserved
loop-at-preserved c =
    let d = description_of c.args.task.now.d.now in
    let m = c.args.node in
    let F = forest_of c.args.forest.now in
    let k = c.loop-at.at in
    let old = c.args.all.now.items in
    let now = c.loop-at.all.items in
    elim c.if-is_first.branch [
      | then-is_first+then-may_merge+in_ok-push w ↦
          let head : IsHead F k = dark_head d c.requires.task.first c.requires.task.last m F c.requires.model k c.loop-at-test.true (w.if-is_first.ensures.0 refl) in
          rw w.all-is (merges_head d m F k old now w.push.new.self.items head c.loop-at.invariant w.in_ok-push.ensures.items)
      | else-is_first w ↦
          rw w.all-is
          (merges_skip d m F k old now
          (λ h. elim w.else-is_first.branch [
            | else-is_first-via-then-is_first+else-may_merge v ↦ v.if-may_merge.ensures
            | else-is_first-via-else-is_first v ↦ (let e : ◌≡◌ {A = Bool} false true = v.if-is_first.ensures.1 (head_dark d c.requires.task.first c.requires.task.last m F c.requires.model k h) in cc)
          ])
          c.loop-at.invariant)
    ]

pub returns : goal.returns
returns c =
    let e : c.loop-at.at ≡ c.args.node = omega arith in
    subst (λ (k : ℕ). IsEnough (description_of c.args.task.now.d.now) c.args.node (forest_of c.args.forest.now) (IsMergeBelow (forest_of c.args.forest.now) k) c.args.all.now.items c.loop-at.all.items) e c.loop-at.invariant
