use Rattle.std.proofs.Common.{refl, rules, arith, ◌<◌}
use Rattle.td_check.proofs.Heads.{heads_more}
use Rattle.td_check.proofs.sets.heads.Goals as goal

pub head-requires : goal.head-requires
head-requires c = c.requires.met c.loop-to.to c.loop-to-test.true

pub loop-to-preserved : goal.loop-to-preserved
loop-to-preserved c =
    let low : c.loop-to.to < 24 = omega (arith, c.requires.few, c.loop-to-test.true) in
    heads_more c.args.map.now c.loop-to.to c.head.result c.loop-to.heads _ low c.loop-to.invariant c.head.ensures refl (search rules)

pub returns : goal.returns
returns c t l = c.loop-to.invariant.are t (omega (arith, c.loop-to-test.false, l))
