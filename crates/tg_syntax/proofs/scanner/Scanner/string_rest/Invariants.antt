use Rattle.gr_grammar.specs.Grammars.{End, Runs, part}
use Rattle.std.proofs.Common.{ℕ}
use Rattle.tg_syntax.specs.Families.{string_part}
use Rattle.tg_syntax.specs.Files.{system}
use Rattle.tg_syntax.proofs.scanner.Scanner.string_rest.Given as goal

abbrev pub invariant-string : goal.invariant-string
invariant-string l = (e : End ℕ) → Runs system (part (string_part l.left)) l.self.rest.now e → Runs system (part (string_part l.initial.left)) l.initial.self.rest.now e

abbrev pub decreases-string : goal.decreases-string
decreases-string l = l.left
