use Rattle.std.proofs.lemmas.Result.{on_ok_weaker, on_err_weaker}
use Rattle.mg_deeds.proofs.FrontLemmas.{err_at}
use Rattle.mg_deeds.specs.Weights.{head_weight}
use Rattle.mg_deeds.specs.Blocks.{head_of, forest_of}
use Rattle.std.proofs.Common.{refl, ap, ◌∙◌, ◌+◌, ◌++◌, List, subst}
use Rattle.mg_syntax.specs.declared.block.Kid.{Kid}
use Rattle.mg_deeds.specs.Fronts.{AddsFront}
use Rattle.mg_deeds.specs.Sayings.{kids_said}
use Rattle.mg_deeds.proofs.BlockLemmas.{block_head_failed, block_kids_failed, block_added}
use Rattle.mg_deeds.proofs.blocks.say_block.Goals as goal

pub returns-in_err-inside-clause-err : goal.returns-in_err-inside-clause-err
returns-in_err-inside-clause-err c =
    err_at c.from_residual.result
    (block_head_failed c.args.here c.args.at c.args.block.now c.node-variable.result (c.args.at + head_weight (head_of c.args.block.now)) c.node-variable.ensures refl c.args.facts.now c.say_head.new.facts c.in_err-inside.ensures.err)

pub returns-clause-ok : goal.returns-clause-ok
returns-clause-ok c =
    on_ok_weaker c.say_kids.result
    (λ e. block_added c.args.here c.args.at c.args.block.now c.node-variable.result c.in_ok-inside.inside c.node-variable.ensures c.in_ok-inside.ensures.next c.args.facts.now c.say_head.new.facts c.say_kids.new.facts c.in_ok-inside.ensures.ok (e ∙ ap (λ (ks : List Kid). c.say_head.new.facts ++ kids_said c.args.here c.node-variable.result c.in_ok-inside.inside (forest_of ks)) c.as_slice.ensures))
    c.say_kids.ensures.ok

pub returns-clause-err : goal.returns-clause-err
returns-clause-err c =
    on_err_weaker c.say_kids.result
    (λ f. block_kids_failed c.args.here c.args.at c.args.block.now c.node-variable.result c.in_ok-inside.inside c.node-variable.ensures c.in_ok-inside.ensures.next c.args.facts.now c.say_head.new.facts c.say_kids.new.facts c.in_ok-inside.ensures.ok (subst (λ (ks : List Kid). AddsFront c.say_head.new.facts c.say_kids.new.facts (kids_said c.args.here c.node-variable.result c.in_ok-inside.inside (forest_of ks))) c.as_slice.ensures f))
    c.say_kids.ensures.err
