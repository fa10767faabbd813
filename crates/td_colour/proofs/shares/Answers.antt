use Rattle.std.proofs.Common.{rules, ◌≡◌, true, false, sym, ◌∙◌}
use Rattle.td_forest.specs.Steps.{forest_of}
use Rattle.td_colour.specs.Colours.{IsBeside}
use Rattle.td_colour.proofs.Colouring.{not_beside, never}
use Rattle.td_colour.proofs.shares.Goals.{then-other-node, else-other-node}
use Rattle.td_colour.proofs.shares.Goals as goal

pub returns-else-has : goal.returns-else-has
returns-else-has c =
    let F = forest_of c.args.forest.now in
    never c.if-other-node.value (IsBeside F c.args.node c.args.other) c.if-has.false (elim c.if-other-node.branch [
      | then-other-node w ↦ not_beside F c.args.node c.args.other (λ i.
          let t : w.has.result ≡ true = w.has.ensures.1 i in
          let f : w.has.result ≡ false = sym w.value-is ∙ c.if-has.false in
          let bad : false ≡ true = sym f ∙ t in cc)
      | else-other-node w ↦ λ b. let e : c.args.other ≡ c.args.node = search rules in b.0 e
    ])
