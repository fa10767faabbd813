use Rattle.std.proofs.Common.{take}
use Rattle.tg_grammar.specs.Grammars.{IsGrammar}
use Rattle.tg_grammar.proofs.grammar.check_classes.Given as goal

abbrev pub invariant-loop-class : goal.invariant-loop-class
invariant-loop-class l = IsGrammar (take l.class-index l.classes)
