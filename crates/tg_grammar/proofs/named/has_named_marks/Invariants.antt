use Rattle.std.proofs.Common.{take}
use Rattle.tg_grammar.specs.NamedMarks.{HaveNamedMarks}
use Rattle.tg_grammar.proofs.named.has_named_marks.Given as goal

abbrev pub invariant-classes : goal.invariant-classes
invariant-classes l = HaveNamedMarks (take l.place l.grammar)
