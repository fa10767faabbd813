use Rattle.std.proofs.Common.{◌≡◌, ℕ, subst, arith}
use Rattle.td_solver.specs.Ties.{AreKidsTold}
use Rattle.td_solver.proofs.Told.{kids_none, kids_more}
use Rattle.td_solver.proofs.ties.all_kids.Goals as goal

pub loop-node-init : goal.loop-node-init
loop-node-init c = rw c.new-all.ensures (kids_none c.args.relations.now)

pub loop-node-preserved : goal.loop-node-preserved
loop-node-preserved c = kids_more c.args.relations.now c.loop-node.node c.loop-node.all c.push.new.self c.kid_of.result c.loop-node.invariant c.kid_of.ensures c.in_ok-push.ensures.ok

pub returns : goal.returns
returns c =
    let e : c.loop-node.node ≡ c.args.count = omega arith in
    subst (λ (k : ℕ). AreKidsTold c.args.relations.now k c.loop-node.all) e c.loop-node.invariant
