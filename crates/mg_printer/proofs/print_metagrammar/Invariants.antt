use Rattle.std.proofs.Common.{drop}
use Rattle.mg_printer.specs.Writing.{AreLinesLeft}
use Rattle.mg_printer.proofs.print_metagrammar.Given as goal

abbrev pub invariant-loop-one : goal.invariant-loop-one
invariant-loop-one l = AreLinesLeft l.symbols l.one-items (drop l.one-index l.one-items) l.out
