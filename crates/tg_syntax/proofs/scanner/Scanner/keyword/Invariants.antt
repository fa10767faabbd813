use Rattle.gr_grammar.specs.Grammars.{End, Runs}
use Rattle.std.proofs.Common.{ℕ, length}
use Rattle.tg_syntax.specs.Names.{keyword}
use Rattle.tg_syntax.specs.Files.{system}
use Rattle.tg_syntax.proofs.scanner.Scanner.keyword.Given as goal

abbrev pub invariant-bytes : goal.invariant-bytes
invariant-bytes l = (e : End ℕ) → Runs system (keyword l.more) l.self.rest.now e → Runs system (keyword l.initial.more) l.initial.self.rest.now e

abbrev pub decreases-bytes : goal.decreases-bytes
decreases-bytes l = length l.more
