use Rattle.std.proofs.Common.{length}
use Rattle.gr_feats.specs.Grammars.{next_literal_text, next_literal_of}
use Rattle.gr_feats.specs.Readings.{InTurn, IsLiteral}
use Rattle.gr_feats.proofs.ReadingLemmas.{ReadsOn}
use Rattle.gr_feats.proofs.literals.row.Given as goal

abbrev pub invariant-row : goal.invariant-row
invariant-row l = ReadsOn next_literal_text (λ ts rest m. next_literal_of m) (λ texts ws x. InTurn (IsLiteral texts) l.fn.names ws x.0 x.1) l.initial.reader l.initial.symbols (l.initial.row, l.initial.names) l.reader l.symbols (l.row, l.names)

abbrev pub decreases-row : goal.decreases-row
decreases-row l = length l.reader
