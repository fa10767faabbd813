use Rattle.std.proofs.Common.{take}
use Rattle.gr_terms.specs.Views.{network_of}
use Rattle.lx_anchor.specs.Sharing.{counted_pairs}
use Rattle.lx_anchor.proofs.WritingLemmas.{IsPut}
use Rattle.lx_anchor.proofs.writing.put_pairs.Given as goal

abbrev pub invariant-pairs : goal.invariant-pairs
invariant-pairs l = IsPut (network_of l.store.accepted) (take l.place (counted_pairs l.first l.pairs)) l.fn.joint l.joint
