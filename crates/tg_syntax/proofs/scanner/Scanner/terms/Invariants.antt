use Rattle.std.proofs.Common.{length}
use Rattle.gr_grammar.specs.Grammars.{Rounds, seq, tok}
use Rattle.tg_syntax.specs.declared.class.Class.TheVariants.{Byte}
use Rattle.tg_syntax.specs.Names.{term}
use Rattle.tg_syntax.specs.Files.{system}
use Rattle.tg_syntax.proofs.scanner.Scanner.terms.Given as goal

abbrev pub invariant-row : goal.invariant-row
invariant-row l = Rounds system (seq (tok (Byte 32)) term) l.initial.self.rest.now l.self.rest.now

abbrev pub decreases-row : goal.decreases-row
decreases-row l = length l.self.rest.now
