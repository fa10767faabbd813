use Rattle.std.proofs.Common.{take}
use Rattle.gr_terms.specs.Views.{network_of}
use Rattle.lx_anchor.proofs.WritingLemmas.{HasAppended}
use Rattle.lx_anchor.proofs.writing.put_literals.Given as goal

abbrev pub invariant-literals : goal.invariant-literals
invariant-literals l = HasAppended (network_of l.store.accepted) l.first (take l.place l.literals) l.fn.written l.written
