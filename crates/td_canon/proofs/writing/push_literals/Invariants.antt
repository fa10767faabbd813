use Rattle.std.proofs.Common.{take}
use Rattle.td_canon.specs.CanonicalTexts.{text_in}
use Rattle.td_canon.proofs.LiteralLemmas.{WritesLiterals}
use Rattle.td_canon.proofs.writing.push_literals.Given as goal

abbrev pub invariant-loop-literal : goal.invariant-loop-literal
invariant-loop-literal l = WritesLiterals (text_in l.symbols) (take l.literal-index l.literals) l.initial.draft l.draft
