use Rattle.std.proofs.Common.{length}
use Rattle.gr_feats.specs.Numberings.{none_met}
use Rattle.gr_feats.proofs.ReadingLemmas.{ReadsOn}
use Rattle.lx_lexicon.specs.Grammars.{coanchor_text, coanchor_of}
use Rattle.lx_lexicon.specs.Reading.{AreCoanchors}
use Rattle.lx_lexicon.proofs.parts.coanchors.Given as goal

abbrev pub invariant-row : goal.invariant-row
invariant-row l = ReadsOn coanchor_text (λ ts rest m. coanchor_of m) (λ texts ws x. AreCoanchors texts ws x.0) l.initial.reader l.initial.symbols (l.initial.row, none_met) l.reader l.symbols (l.row, none_met)

abbrev pub decreases-row : goal.decreases-row
decreases-row l = length l.reader
