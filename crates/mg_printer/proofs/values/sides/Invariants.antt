use Rattle.std.proofs.Common.{drop}
use Rattle.mg_printer.specs.Values.{side_pieces}
use Rattle.mg_printer.specs.Writing.{IsLeft}
use Rattle.mg_printer.proofs.values.sides.Given as goal

abbrev pub invariant-loop-one : goal.invariant-loop-one
invariant-loop-one l = IsLeft l.symbols side_pieces l.one-items (drop l.one-index l.one-items) l.initial.out l.out
