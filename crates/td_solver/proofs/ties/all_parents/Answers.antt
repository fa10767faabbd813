use Rattle.std.proofs.Common.{◌≡◌, ℕ, subst, arith}
use Rattle.td_solver.specs.Ties.{ArePlaced}
use Rattle.td_solver.proofs.Told.{parents_none, parents_more}
use Rattle.td_solver.proofs.ties.all_parents.Goals as goal

pub loop-kid-init : goal.loop-kid-init
loop-kid-init c = rw c.new-all.ensures (parents_none c.args.relations.now)

pub loop-kid-preserved : goal.loop-kid-preserved
loop-kid-preserved c = parents_more c.args.relations.now c.loop-kid.kid c.loop-kid.all c.push.new.self c.parent_of.result c.loop-kid.invariant c.parent_of.ensures c.in_ok-push.ensures.ok

pub returns : goal.returns
returns c =
    let e : c.loop-kid.kid ≡ c.args.count = omega arith in
    subst (λ (k : ℕ). ArePlaced c.args.relations.now k c.loop-kid.all) e c.loop-kid.invariant
