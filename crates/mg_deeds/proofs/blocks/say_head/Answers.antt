use Rattle.mg_deeds.specs.Blocks.{head_of}
use Rattle.mg_deeds.specs.Sayings.{head_said, colour_said}
use Rattle.mg_deeds.proofs.FrontLemmas.{err_at, none_added}
use Rattle.mg_deeds.proofs.BlockLemmas.{colour_failed, own_failed, top_failed, bottom_failed}
use Rattle.mg_deeds.proofs.blocks.say_head.Goals as goal

pub returns-in_err-state_block-clause-err : goal.returns-in_err-state_block-clause-err
returns-in_err-state_block-clause-err c =
    err_at c.from_residual.result (none_added c.args.facts.now c.state_block.new.self (head_said c.args.here c.args.variable (head_of c.args.block.now)) c.in_err-state_block.ensures.err)

pub returns-in_err-say_colour-clause-err : goal.returns-in_err-say_colour-clause-err
returns-in_err-say_colour-clause-err c =
    let h = head_of c.args.block.now in
    err_at c.from_residual-in_err-say_colour.result
    (colour_failed c.args.here c.args.variable h c.args.facts.now c.state_block.new.self c.say_colour.new.facts c.in_ok-state_block.ensures.ok
    (none_added c.state_block.new.self c.say_colour.new.facts (colour_said c.args.variable h.colour) c.in_err-say_colour.ensures.err))

pub returns-in_err-say_bag-clause-err : goal.returns-in_err-say_bag-clause-err
returns-in_err-say_bag-clause-err c =
    err_at c.from_residual-in_err-say_bag.result
    (own_failed c.args.here c.args.variable (head_of c.args.block.now) c.args.facts.now c.state_block.new.self c.say_colour.new.facts c.say_bag.new.facts
    c.in_ok-state_block.ensures.ok c.in_ok-say_colour.ensures.ok c.in_err-say_bag.ensures.err)

pub returns-in_err-say_bag-2-clause-err : goal.returns-in_err-say_bag-2-clause-err
returns-in_err-say_bag-2-clause-err c =
    err_at c.from_residual-in_err-say_bag-2.result
    (top_failed c.args.here c.args.variable (head_of c.args.block.now) c.args.facts.now c.state_block.new.self c.say_colour.new.facts c.say_bag.new.facts c.say_bag-2.new.facts
    c.in_ok-state_block.ensures.ok c.in_ok-say_colour.ensures.ok c.in_ok-say_bag.ensures.ok c.in_err-say_bag-2.ensures.err)

pub returns-in_err-say_bag-3-clause-err : goal.returns-in_err-say_bag-3-clause-err
returns-in_err-say_bag-3-clause-err c =
    err_at c.from_residual-in_err-say_bag-3.result
    (bottom_failed c.args.here c.args.variable (head_of c.args.block.now) c.args.facts.now c.state_block.new.self c.say_colour.new.facts c.say_bag.new.facts c.say_bag-2.new.facts c.say_bag-3.new.facts
    c.in_ok-state_block.ensures.ok c.in_ok-say_colour.ensures.ok c.in_ok-say_bag.ensures.ok c.in_ok-say_bag-2.ensures.ok c.in_err-say_bag-3.ensures.err)
