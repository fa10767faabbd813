use Rattle.std.proofs.Common.{[], ◌∷◌, ◌++◌, map, ap₂, ap, sym, ◌∙◌}
use Rattle.std.proofs.lemmas.List.{map_more}
use Rattle.mg_facts.specs.Classes.{node_at}
use Rattle.mg_facts.proofs.LoopLemmas.{taken_all}
use Rattle.mg_facts.proofs.describe.described.Goals as goal

pub loop-x-preserved : goal.loop-x-preserved
loop-x-preserved c =
    c.in_ok-push.ensures.items ∙ ap₂ (λ a b. a ++ b ∷ []) c.loop-x.invariant c.node.ensures ∙ sym (map_more (node_at c.args.roots.now c.args.colours.now) c.args.nodes.now c.loop-x.x-index _ c.loop-x-test.true)

pub returns : goal.returns
returns c = c.from_vec.ensures ∙ c.loop-x.invariant ∙ ap (map (node_at c.args.roots.now c.args.colours.now)) (taken_all c.args.nodes.now c.loop-x.x-index c.loop-x-test.false)
