use Rattle.std.proofs.Common.{length}
use Rattle.gr_feats.specs.Numberings.{none_met}
use Rattle.gr_feats.proofs.ReadingLemmas.{ReadsOn}
use Rattle.lx_lexicon.specs.Grammars.{entry_text, entry_of}
use Rattle.lx_lexicon.proofs.NoteLemmas.{AreNoted}
use Rattle.lx_lexicon.proofs.read.entries.Given as goal

abbrev pub invariant-row : goal.invariant-row
invariant-row l = ReadsOn entry_text (λ ts rest m. entry_of m) (AreNoted l.fn.complaints) l.initial.reader l.initial.symbols ((l.initial.lexicon, l.initial.complaints), none_met) l.reader l.symbols ((l.lexicon, l.complaints), none_met)

abbrev pub decreases-row : goal.decreases-row
decreases-row l = length l.reader
