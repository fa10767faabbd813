use Rattle.std.proofs.Common.{◌≡◌, ℕ, ◌≤◌, take, subst, sym}
use Rattle.gr_base.specs.Forests.{size}
use Rattle.td_forest.specs.Steps.{forest_of}
use Rattle.td_forest.proofs.Kept.{kept_once, kept_full, kept_size}
use Rattle.td_forest.proofs.Widths.{greatest_size}
use Rattle.td_forest.proofs.forest.Forest.size.Goals as goal

pub returns : goal.returns
returns c =
    let f = c.self.inside in
    let e : c.greatest.result ≡ size (forest_of (take f.count f.made)) = greatest_size (forest_of (take f.count f.made)) f.here f.first f.behind c.greatest.result
    (kept_once f.made f.count f.here f.first f.behind c.self.invariant) (kept_full f.made f.count f.here f.first f.behind c.self.invariant) c.self.invariant.places c.greatest.ensures in
    rw (← c.self.view_is) (record { is = e; few = subst (λ (k : ℕ). k ≤ 24) (sym e) (kept_size f.made f.count f.here f.first f.behind c.self.invariant) })
