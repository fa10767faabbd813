use Rattle.std.proofs.Common.{length, ℕ}
use Rattle.std.specs.Prelude.{Option}
use Rattle.gr_grammar.specs.Grammars.{End, part}
use Rattle.tg_syntax.specs.Files.{LINES}
use Rattle.tg_syntax.specs.Reading.{Read}
use Rattle.tg_syntax.proofs.reader.Reader.lines.Given as goal

abbrev pub invariant-lines : goal.invariant-lines
invariant-lines l = (e : End ℕ) (last : Option ℕ) → Read (part LINES) l.self.scanner.rest.now e l.self.broken last → Read (part LINES) l.initial.self.scanner.rest.now e l.initial.self.broken last

abbrev pub decreases-lines : goal.decreases-lines
decreases-lines l = length l.self.scanner.rest.now
