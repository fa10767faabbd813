use Rattle.std.proofs.Common.{drop, codes}
use Rattle.mg_printer.specs.Blocks.{is_category, category_pieces}
use Rattle.mg_printer.specs.Writing.{ArePartsLeft}
use Rattle.mg_printer.proofs.blocks.category.Given as goal

abbrev pub invariant-loop-one : goal.invariant-loop-one
invariant-loop-one l = ArePartsLeft l.symbols (codes "[") is_category category_pieces l.one-items (drop l.one-index l.one-items) l.initial.begun l.begun l.initial.out l.out
