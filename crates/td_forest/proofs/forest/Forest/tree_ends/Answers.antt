use Rattle.td_forest.proofs.Kept.{kept_first, kept_ends}
use Rattle.td_forest.proofs.forest.Forest.tree_ends.Goals as goal

pub ends-requires : goal.ends-requires
ends-requires c k h = let f = c.self.inside in kept_first f.made f.count f.here f.first f.behind c.self.invariant k h

pub returns : goal.returns
returns c = let f = c.self.inside in rw (← c.self.view_is) (kept_ends f.made f.count f.here f.first f.behind c.self.invariant c.ends.result c.ends.ensures)
