use Rattle.std.proofs.Common.{length}
use Rattle.tg_syntax.specs.Files.{class}
use Rattle.tg_syntax.proofs.Noting.{ReadRow}
use Rattle.tg_syntax.proofs.reader.Reader.classes.Given as goal

abbrev pub invariant-row : goal.invariant-row
invariant-row l = ReadRow (class) l.initial.self.scanner.rest.now l.self.scanner.rest.now l.initial.self.broken l.self.broken

abbrev pub decreases-row : goal.decreases-row
decreases-row l = length l.self.scanner.rest.now
