use Rattle.std.proofs.Common.{◌<◌, ◌+◌, ◌^◌, List, subst, arith, rules}
use Rattle.mg_syntax.specs.declared.block.NodeBlock.{the_lemmas as block_lemmas}
use Rattle.mg_syntax.specs.declared.block.Kid.{Kid, the_lemmas as kid_lemmas}
use Rattle.mg_deeds.specs.Blocks.{forest_of}
use Rattle.mg_deeds.specs.Fronts.{AddsFront}
use Rattle.mg_deeds.specs.Sayings.{kids_said}
use Rattle.mg_deeds.specs.Kids.{kid_weight}
use Rattle.std.proofs.lemmas.Result.{on_err_weaker}
use Rattle.mg_deeds.proofs.FrontLemmas.{err_at}
use Rattle.mg_deeds.proofs.BlockLemmas.{kid_head_failed, kid_relation_failed, kid_kids_failed}
use Rattle.mg_deeds.proofs.SayingLemmas.{next_place, kid_added, kid_failed}
use Rattle.mg_deeds.proofs.blocks.+kids.Goals as goal

pub say_kid-returns-in_err-inside-clause-err : goal.say_kid-returns-in_err-inside-clause-err
say_kid-returns-in_err-inside-clause-err t c =
    err_at c.from_residual.result
    (kid_head_failed c.args.here c.args.parent c.args.at c.args.kid.now c.node-variable.result c.node-variable.ensures c.args.facts.now c.say_head.new.facts c.in_err-inside.ensures.err)

pub say_kid-returns-in_err-say_relation-clause-err : goal.say_kid-returns-in_err-say_relation-clause-err
say_kid-returns-in_err-say_relation-clause-err t c =
    err_at c.from_residual-in_err-say_relation.result
    (kid_relation_failed c.args.here c.args.parent c.args.at c.args.kid.now c.node-variable.result c.node-variable.ensures c.args.facts.now
    c.say_head.new.facts c.say_relation.new.facts c.in_ok-inside.ensures.ok c.in_err-say_relation.ensures.err)

pub say_kid-returns-clause-err : goal.say_kid-returns-clause-err
say_kid-returns-clause-err t c =
    on_err_weaker c.say_kids.result
    (λ f. kid_kids_failed c.args.here c.args.parent c.args.at c.args.kid.now c.node-variable.result c.node-variable.ensures c.args.facts.now
    c.in_ok-inside.inside c.say_head.new.facts c.say_relation.new.facts c.say_kids.new.facts c.in_ok-inside.ensures.next c.in_ok-inside.ensures.ok c.in_ok-say_relation.ensures.ok
    (subst (λ (ks : List Kid). AddsFront c.say_relation.new.facts c.say_kids.new.facts (kids_said c.args.here c.node-variable.result (c.in_ok-inside.inside + 1) (forest_of ks))) c.as_slice.ensures f))
    c.say_kids.ensures.err

pub say_kids-say_kid-requires : goal.say_kids-say_kid-requires
say_kids-say_kid-requires t c =
    let place = next_place c.loop-kid.sister c.loop-kid.next c.args.kids.now c.loop-kid.kid-index c.kid-item.result c.loop-kid-test.true c.kid-item.is in
    let room : c.in_ok-place.place + kid_weight c.kid-item.result < 2 ^ 32 = omega (arith, c.in_ok-place.ensures.place) in
    (search (rules, block_lemmas, kid_lemmas), room)

pub say_kids-returns-in_err-next-clause-err : goal.say_kids-returns-in_err-next-clause-err
say_kids-returns-in_err-next-clause-err t c =
    err_at c.from_residual-in_err-next.result
    (kid_failed c.args.here c.args.parent c.loop-kid.sister c.loop-kid.next c.args.kids.now c.loop-kid.kid-index c.kid-item.result c.in_ok-place.place
    c.args.facts.now c.loop-kid.facts c.say_link.new.facts c.say_kid.new.facts (kids_said c.args.here c.args.parent c.args.at (forest_of c.args.kids.now))
    c.loop-kid-test.true c.kid-item.is c.loop-kid.invariant.said c.in_ok-place.ensures.place c.in_ok-place.ensures.ok c.in_err-next.ensures.err)

pub say_kids-loop-kid-preserved : goal.say_kids-loop-kid-preserved
say_kids-loop-kid-preserved t c =
    let place = next_place c.loop-kid.sister c.loop-kid.next c.args.kids.now c.loop-kid.kid-index c.kid-item.result c.loop-kid-test.true c.kid-item.is in
    record {
      place = omega (arith, c.in_ok-place.ensures.place, c.in_ok-next.ensures.next);
      said =
          kid_added c.args.here c.args.parent c.loop-kid.sister c.loop-kid.next c.args.kids.now c.loop-kid.kid-index c.kid-item.result c.node.result c.in_ok-place.place c.in_ok-next.next
          c.args.facts.now c.loop-kid.facts c.say_link.new.facts c.say_kid.new.facts (kids_said c.args.here c.args.parent c.args.at (forest_of c.args.kids.now))
          c.loop-kid-test.true c.kid-item.is c.loop-kid.invariant.said c.in_ok-place.ensures.place c.node.ensures c.in_ok-next.ensures.next c.in_ok-place.ensures.ok c.in_ok-next.ensures.ok;
    }
