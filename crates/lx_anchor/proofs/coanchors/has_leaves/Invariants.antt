use Rattle.std.proofs.Common.{take}
use Rattle.gr_base.specs.Lists.{Each}
use Rattle.lx_anchor.specs.Anchoring.{HasLeaf}
use Rattle.lx_anchor.proofs.coanchors.has_leaves.Given as goal

abbrev pub invariant-names : goal.invariant-names
invariant-names l = Each (λ c. HasLeaf l.tree c.0.0) (take l.place l.coanchors)
