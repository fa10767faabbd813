use Rattle.std.proofs.Common.{drop}
use Rattle.mg_printer.specs.Values.{literal_pieces}
use Rattle.mg_printer.specs.Writing.{IsLeft}
use Rattle.mg_printer.proofs.values.literals.Given as goal

abbrev pub invariant-loop-one : goal.invariant-loop-one
invariant-loop-one l = IsLeft l.symbols literal_pieces l.one-items (drop l.one-index l.one-items) l.initial.out l.out
