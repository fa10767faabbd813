use Rattle.std.proofs.Common.{length}
use Rattle.gr_feats.specs.Grammars.{next_arg_text, next_arg_of}
use Rattle.gr_feats.specs.Readings.{InTurn, IsTerm}
use Rattle.gr_feats.proofs.ReadingLemmas.{ReadsOn}
use Rattle.gr_feats.proofs.literals.args.Given as goal

abbrev pub invariant-row : goal.invariant-row
invariant-row l = ReadsOn next_arg_text (λ ts rest m. next_arg_of m) (λ texts ws x. InTurn (IsTerm texts) l.fn.names ws x.0 x.1) l.initial.reader l.initial.symbols (l.initial.row, l.initial.names) l.reader l.symbols (l.row, l.names)

abbrev pub decreases-row : goal.decreases-row
decreases-row l = length l.reader
