use Rattle.gr_grammar.specs.Grammars.{End, Runs}
use Rattle.std.proofs.Common.{ℕ}
use Rattle.tg_syntax.specs.Names.{digits}
use Rattle.tg_syntax.specs.Files.{system}
use Rattle.tg_syntax.proofs.scanner.Scanner.digits.Given as goal

abbrev pub invariant-digits : goal.invariant-digits
invariant-digits l = (e : End ℕ) → Runs system (digits l.left) l.self.rest.now e → Runs system (digits l.initial.left) l.initial.self.rest.now e

abbrev pub decreases-digits : goal.decreases-digits
decreases-digits l = l.left
