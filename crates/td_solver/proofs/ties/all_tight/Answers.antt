use Rattle.std.proofs.Common.{◌≡◌, ℕ, subst, arith}
use Rattle.td_solver.specs.Ties.{is_tight_before, kept_for}
use Rattle.td_solver.proofs.TieLemmas.{kept_more}
use Rattle.td_solver.proofs.ties.all_tight.Goals as goal

pub loop-node-preserved : goal.loop-node-preserved
loop-node-preserved c = kept_more is_tight_before c.args.relations.now c.loop-node.node c.loop-node.all c.push.new.self c.in_ok-own.own c.loop-node.invariant c.in_ok-own.ensures c.in_ok-push.ensures.ok

pub returns : goal.returns
returns c =
    let e : c.loop-node.node ≡ c.args.count = omega arith in
    subst (λ (k : ℕ). c.loop-node.all ≡ kept_for is_tight_before k c.args.relations.now) e c.loop-node.invariant
