use Rattle.std.proofs.Common.{sym, subst}
use Rattle.std.specs.Prelude.{OnErr}
use Rattle.mg_syntax.specs.declared.block.SynItem.{SynItem}
use Rattle.mg_deeds.specs.Fronts.{AddsFront}
use Rattle.mg_deeds.specs.Sayings.{syntax_said}
use Rattle.mg_deeds.proofs.blocks.say_item.Goals as goal

pub returns-in-Node-clause-err : goal.returns-in-Node-clause-err
returns-in-Node-clause-err c =
    subst (λ (i : SynItem). OnErr c.say_block.result (AddsFront c.args.facts.now c.say_block.new.facts (syntax_said c.args.here c.args.at i))) (sym c.in-Node.is) c.say_block.ensures.err
