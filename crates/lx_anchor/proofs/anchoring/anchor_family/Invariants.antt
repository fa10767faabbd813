use Rattle.std.proofs.Common.{◌≡◌}
use Rattle.lx_anchor.specs.Rows.{AreDone}
use Rattle.lx_anchor.proofs.anchoring.anchor_family.Given as goal

abbrev pub invariant-trees : goal.invariant-trees
invariant-trees l = (l.store ≡ l.fn.store) × AreDone l.grammar l.lexicon l.number l.at l.trees
