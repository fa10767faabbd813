use Rattle.std.proofs.Common.{drop}
use Rattle.mg_printer.specs.Items.{variable_pieces}
use Rattle.mg_printer.specs.Writing.{IsLeft}
use Rattle.mg_printer.proofs.items.variables.Given as goal

abbrev pub invariant-loop-name : goal.invariant-loop-name
invariant-loop-name l = IsLeft l.symbols variable_pieces l.name-items (drop l.name-index l.name-items) l.initial.out l.out
