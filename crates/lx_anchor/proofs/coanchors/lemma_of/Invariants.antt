use Rattle.std.proofs.Common.{◌≡◌, drop}
use Rattle.lx_anchor.specs.Anchoring.{lemma_for}
use Rattle.lx_anchor.proofs.coanchors.lemma_of.Given as goal

abbrev pub invariant-names : goal.invariant-names
invariant-names l = lemma_for l.coanchors l.name.0 ≡ lemma_for (drop l.place l.coanchors) l.name.0
