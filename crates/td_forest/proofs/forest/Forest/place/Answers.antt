use Rattle.std.proofs.Common.{take}
use Rattle.td_forest.specs.Steps.{forest_of}
use Rattle.td_forest.proofs.Walking.{node_place}
use Rattle.td_forest.proofs.forest.Forest.place.Goals as goal

pub returns : goal.returns
returns c =
    let f = c.self.inside in
    rw (← c.self.view_is) (node_place (forest_of (take f.count f.made)) f.here f.first f.behind c.args.node c.self.invariant.places (rw (← c.self.view_is) at c.requires))
