use Rattle.td_forest.proofs.Kept.{kept_above, kept_least, kept_forest}
use Rattle.td_forest.proofs.forest.Forest.above.Goals as goal

pub returns : goal.returns
returns c =
    let f = c.self.inside in
    rw (← c.self.view_is) (record {
      above = kept_above f.made f.count f.here f.first f.behind c.self.invariant c.highest.result c.highest.ensures;
      least = kept_least f.made f.count f.here f.first f.behind c.self.invariant c.highest.result c.highest.ensures;
      few = c.highest.ensures.few;
      forest = kept_forest f.made f.count f.here f.first f.behind c.self.invariant;
    })
