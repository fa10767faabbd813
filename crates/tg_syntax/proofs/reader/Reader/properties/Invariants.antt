use Rattle.std.proofs.Common.{length}
use Rattle.gr_grammar.specs.Grammars.{seq, tok, part}
use Rattle.tg_syntax.specs.declared.class.Class.TheVariants.{Byte}
use Rattle.tg_syntax.specs.Trees.{PROPERTY}
use Rattle.tg_syntax.proofs.Noting.{ReadRow}
use Rattle.tg_syntax.proofs.reader.Reader.properties.Given as goal

abbrev pub invariant-row : goal.invariant-row
invariant-row l = ReadRow (seq (tok (Byte 44)) (part PROPERTY)) l.initial.self.scanner.rest.now l.self.scanner.rest.now l.initial.self.broken l.self.broken

abbrev pub decreases-row : goal.decreases-row
decreases-row l = length l.self.scanner.rest.now
