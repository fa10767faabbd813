use Rattle.std.proofs.Common.{◌≡◌, ◌+◌, length}
use Rattle.gr_grammar.specs.Depths.{shallow_len}
use Rattle.mg_reader.specs.Kinds.{turn}
use Rattle.mg_reader.proofs.answer.shallow.Given as goal

abbrev pub invariant-cut : goal.invariant-cut
invariant-cut l = (l.count + shallow_len turn 200 l.level l.rest ≡ shallow_len turn 200 0 l.initial.rest) × (l.count + length l.rest ≡ length l.initial.rest)

abbrev pub decreases-cut : goal.decreases-cut
decreases-cut l = length l.rest
