use Rattle.std.proofs.Common.{rules, arith}
use Rattle.td_check.proofs.Lawfulness.{goes_answer}
use Rattle.td_check.proofs.sets.goes_with.Goals as goal

pub returns : goal.returns
returns c =
    goes_answer c.args.nodes.now c.args.map.now c.args.to c.args.head c.args.node c.get.result.now c.get-2.result.now c.eq-black.result c.eq-white.result c.get.ensures c.get-2.ensures
    c.requires.node_within c.if-map-node.false c.if-node-head.false (λ e. search rules) (λ e. search rules) (λ e. search rules) (λ e. search rules)
