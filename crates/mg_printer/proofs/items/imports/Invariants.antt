use Rattle.std.proofs.Common.{drop}
use Rattle.mg_printer.specs.Bodies.{call_pieces}
use Rattle.mg_printer.specs.Writing.{IsLeft}
use Rattle.mg_printer.proofs.items.imports.Given as goal

abbrev pub invariant-loop-class : goal.invariant-loop-class
invariant-loop-class l = IsLeft l.symbols call_pieces l.class-items (drop l.class-index l.class-items) l.initial.out l.out
