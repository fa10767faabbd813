use Rattle.std.proofs.Common.{ℕ, ◌<◌, sym, ◌∙◌, arith}
use Rattle.gr_base.specs.Lists.{IsAmong}
use Rattle.td_check.proofs.Heads.{met_more, met_yes, met_no, yes_to, no_to}
use Rattle.td_check.proofs.sets.meets_all.Goals as goal

pub loop-to-preserved : goal.loop-to-preserved
loop-to-preserved c = met_more c.args.map.now c.loop-to.to c.loop-to.invariant (met_yes c.args.map.now c.loop-to.to c.meets.result c.meets.ensures c.if-not-meets.false)

pub returns-then-not-meets : goal.returns-then-not-meets
returns-then-not-meets c =
    no_to ((t : ℕ) → t < c.args.count → IsAmong c.args.map.now t) (λ all. met_no c.args.map.now c.loop-to.to c.meets.result c.meets.ensures c.if-not-meets.true (all c.loop-to.to c.loop-to-test.true))

pub returns : goal.returns
returns c = yes_to ((t : ℕ) → t < c.args.count → IsAmong c.args.map.now t) (λ t l. c.loop-to.invariant t (omega (arith, c.loop-to-test.false, l)))
