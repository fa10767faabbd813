use Rattle.std.proofs.Common.{length}
use Rattle.gr_feats.specs.Grammars.{next_pair_text, next_pair_of}
use Rattle.gr_feats.specs.Readings.{IsBag}
use Rattle.gr_feats.proofs.ReadingLemmas.{ReadsOn}
use Rattle.gr_feats.proofs.bags.pairs.Given as goal

abbrev pub invariant-row : goal.invariant-row
invariant-row l = ReadsOn next_pair_text (λ ts rest m. next_pair_of m) (λ texts ws x. IsBag texts l.fn.names ws x.0 x.1) l.initial.reader l.initial.symbols (l.initial.gathered, l.initial.names) l.reader l.symbols (l.gathered, l.names)

abbrev pub decreases-row : goal.decreases-row
decreases-row l = length l.reader
