use Rattle.std.proofs.Common.{◌++◌, ◌∷◌, [], ap, ◌∙◌}
use Rattle.tg_tests.proofs.ChainLemmas.{chain_nodes}
use Rattle.tg_tests.proofs.grammars.chain.Goals as goal

pub returns : goal.returns
returns c =
    let first = c.in_ok-push.ensures.ok ∙ ap (λ xs. xs ++ c.in_ok-node.field-0 ∷ []) c.new-nodes.ensures in
    let second = c.in_ok-push-2.ensures.ok ∙ ap (λ xs. xs ++ c.in_ok-node-2.field-0 ∷ []) first in
    let third = c.in_ok-push-3.ensures.ok ∙ ap (λ xs. xs ++ c.in_ok-node-3.field-0 ∷ []) second in
    chain_nodes c.push-3.new.self c.in_ok-node.field-0 c.in_ok-node-2.field-0 c.in_ok-node-3.field-0 third c.in_ok-node.ensures.parent c.in_ok-node-2.ensures.parent c.in_ok-node-3.ensures.parent
