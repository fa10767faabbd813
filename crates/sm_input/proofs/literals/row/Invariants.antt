use Rattle.std.proofs.Common.{◌+◌, ◌≤◌, length}
use Rattle.gr_base.specs.Lists.{NoneTwice}
use Rattle.gr_feats.specs.Grammars.{next_literal_text, next_literal_of}
use Rattle.gr_feats.specs.Numberings.{none_met}
use Rattle.gr_feats.proofs.ReadingLemmas.{ReadsOn}
use Rattle.sm_input.specs.Reading.{AreKept}
use Rattle.sm_input.proofs.literals.row.Given as goal

-- what was read by then, and that there is room for a name more for each literal that is kept
abbrev pub invariant-row : goal.invariant-row
invariant-row l =
    ReadsOn next_literal_text (λ ts rest m. next_literal_of m) (λ texts ws x. NoneTwice texts → AreKept texts ws x.0) l.initial.reader l.initial.symbols (l.initial.row.items, none_met) l.reader l.symbols (l.row.items, none_met)
    × (length l.symbols + length l.reader + length l.row.items ≤ length l.fn.symbols + length l.fn.reader)

abbrev pub decreases-row : goal.decreases-row
decreases-row l = length l.reader
