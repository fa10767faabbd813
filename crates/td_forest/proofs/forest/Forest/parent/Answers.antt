use Rattle.std.proofs.Common.{take}
use Rattle.td_forest.specs.Steps.{forest_of}
use Rattle.td_forest.proofs.Kept.{kept_once, kept_full}
use Rattle.td_forest.proofs.Walking.{cover_parent}
use Rattle.td_forest.proofs.forest.Forest.parent.Goals as goal

pub returns : goal.returns
returns c =
    let f = c.self.inside in
    rw (← c.self.view_is)
    (cover_parent (forest_of (take f.count f.made)) f.here f.first f.behind (kept_once f.made f.count f.here f.first f.behind c.self.invariant)
    (kept_full f.made f.count f.here f.first f.behind c.self.invariant) c.self.invariant.places c.args.place (rw (← c.self.view_is) at c.requires) c.cover.result c.cover.ensures)
