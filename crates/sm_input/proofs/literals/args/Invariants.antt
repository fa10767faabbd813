use Rattle.std.proofs.Common.{length}
use Rattle.gr_feats.specs.Grammars.{next_arg_text, next_arg_of}
use Rattle.std.specs.List.{AllZip}
use Rattle.gr_feats.specs.Numberings.{none_met}
use Rattle.sm_input.specs.Reading.{IsRawTerm}
use Rattle.gr_feats.proofs.ReadingLemmas.{ReadsOn}
use Rattle.sm_input.proofs.literals.args.Given as goal

abbrev pub invariant-row : goal.invariant-row
invariant-row l = ReadsOn next_arg_text (λ ts rest m. next_arg_of m) (λ texts ws x. AllZip (IsRawTerm texts) ws x.0) l.initial.reader l.initial.symbols (l.initial.row, none_met) l.reader l.symbols (l.row, none_met)

abbrev pub decreases-row : goal.decreases-row
decreases-row l = length l.reader
