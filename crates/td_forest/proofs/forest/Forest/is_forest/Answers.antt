use Rattle.td_forest.proofs.Kept.{kept_forest}
use Rattle.td_forest.proofs.forest.Forest.is_forest.Goals as goal

pub returns : goal.returns
returns c =
    let f = c.self.inside in
    rw (← c.self.view_is) (kept_forest f.made f.count f.here f.first f.behind c.self.invariant)
