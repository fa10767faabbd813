use Rattle.td_forest.specs.Steps.{forest_of}
use Rattle.td_forest.proofs.Forming.{forest_is}
use Rattle.td_forest.proofs.Widths.{relates_test}
use Rattle.std.proofs.Common.{rules}
use Rattle.td_forest.proofs.forest.Forest.relates.Goals as goal

pub returns : goal.returns
returns c =
    relates_test (forest_of c.args.self.now) c.args.a c.args.b c.relation.result c.args.how c.eq.result
    (forest_is (forest_of c.args.self.now) c.is_forest.ensures).once c.requires.a_here c.requires.b_here c.relation.ensures (λ e. search rules) (λ e. search rules)
