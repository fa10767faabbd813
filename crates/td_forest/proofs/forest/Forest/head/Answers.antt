use Rattle.std.proofs.Common.{◌<◌, take}
use Rattle.gr_base.specs.Forests.{size}
use Rattle.td_forest.specs.Steps.{forest_of}
use Rattle.td_forest.specs.Walks.{IsHeadAt}
use Rattle.td_forest.proofs.Kept.{kept_once, kept_rise}
use Rattle.td_forest.proofs.Walking.{least_head, no_place}
use Rattle.td_forest.proofs.forest.Forest.head.Goals as goal

pub returns-in-Some : goal.returns-in-Some
returns-in-Some c =
    let f = c.self.inside in
    rw (← c.self.view_is)
    (least_head (forest_of (take f.count f.made)) f.here f.first f.behind (kept_once f.made f.count f.here f.first f.behind c.self.invariant)
    (kept_rise f.made f.count f.here f.first f.behind c.self.invariant) c.self.invariant.places c.args.place c.in-Some.node (rw (← c.self.view_is) at c.requires) c.in-Some.ensures)

pub returns-in-None : goal.returns-in-None
returns-in-None c =
    let f = c.self.inside in
    let low : c.args.place < size (forest_of (take f.count f.made)) = rw (← c.self.view_is) at c.requires in
    no_place (forest_of (take f.count f.made)) f.here f.first f.behind (kept_once f.made f.count f.here f.first f.behind c.self.invariant)
    (kept_rise f.made f.count f.here f.first f.behind c.self.invariant) c.self.invariant.places c.args.place (IsHeadAt (forest_of c.args.self.now) c.args.place 0) low c.in-None.ensures
