use Rattle.std.proofs.Common.{◌≡◌, ◌+◌, length}
use Rattle.gr_base.specs.Lists.{Each}
use Rattle.gr_grammar.specs.Depths.{shallow_len}
use Rattle.gr_reader.specs.Lexemes.{HasText, lexemes}
use Rattle.gr_reader.specs.Brackets.{turn}
use Rattle.gr_reader.proofs.brackets.shallow.Given as goal

abbrev pub invariant-cut : goal.invariant-cut
invariant-cut l =
    (l.count + shallow_len turn 200 l.level (lexemes l.bytes l.rest) ≡ shallow_len turn 200 0 (lexemes l.bytes l.tokens))
    × (l.count + length l.rest ≡ length l.tokens)
    × Each (HasText l.bytes) l.rest

abbrev pub decreases-cut : goal.decreases-cut
decreases-cut l = length l.rest
