use Rattle.std.proofs.Common.{drop}
use Rattle.mg_printer.specs.Blocks.{kid_pieces}
use Rattle.mg_printer.specs.Writing.{IsLeft}
use Rattle.mg_printer.proofs.blocks.+printing.Given as goal

abbrev pub invariant-kids_in_row-loop-one : goal.invariant-kids_in_row-loop-one
invariant-kids_in_row-loop-one l = IsLeft l.symbols kid_pieces l.kids (drop l.one-index l.kids) l.initial.out l.out
