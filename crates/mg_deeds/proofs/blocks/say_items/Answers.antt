use Rattle.std.proofs.Common.{◌+◌, drop}
use Rattle.mg_deeds.specs.Weights.{syntax_weight}
use Rattle.mg_deeds.specs.Sayings.{said_from, syntax_said}
use Rattle.mg_deeds.proofs.FrontLemmas.{err_at, part_failed}
use Rattle.mg_deeds.proofs.SayingLemmas.{said_item}
use Rattle.mg_deeds.proofs.blocks.say_items.Goals as goal

pub returns-in_err-at-clause-err : goal.returns-in_err-at-clause-err
returns-in_err-at-clause-err c =
    let items = c.args.items.now in
    let i = c.loop-item.item-index in
    let x = c.item-item.result in
    let at = c.loop-item.at in
    let said = said_from syntax_weight (syntax_said c.args.here) in
    err_at c.from_residual.result
    (part_failed c.args.facts.now c.loop-item.facts c.say_item.new.facts (said c.args.first items) (said at (drop i items)) (syntax_said c.args.here at x) (said (at + syntax_weight x) (drop (i + 1) items))
    c.loop-item.invariant.said (said_item syntax_weight (syntax_said c.args.here) at items i x c.loop-item-test.true c.item-item.is) c.in_err-at.ensures.err)
