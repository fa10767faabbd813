use Rattle.gr_grammar.specs.Grammars.{End, Runs, part}
use Rattle.std.proofs.Common.{ℕ}
use Rattle.tg_syntax.specs.Families.{word_part}
use Rattle.tg_syntax.specs.Files.{system}
use Rattle.tg_syntax.proofs.scanner.Scanner.word_rest.Given as goal

abbrev pub invariant-word : goal.invariant-word
invariant-word l = (e : End ℕ) → Runs system (part (word_part l.left)) l.self.rest.now e → Runs system (part (word_part l.initial.left)) l.initial.self.rest.now e

abbrev pub decreases-word : goal.decreases-word
decreases-word l = l.left
