use Rattle.std.proofs.Common.{drop, codes, not}
use Rattle.mg_printer.specs.Values.{pair_pieces}
use Rattle.mg_printer.specs.Blocks.{is_category}
use Rattle.mg_printer.specs.Writing.{ArePartsLeft}
use Rattle.mg_printer.proofs.blocks.properties.Given as goal

abbrev pub invariant-loop-one : goal.invariant-loop-one
invariant-loop-one l = ArePartsLeft l.symbols (codes "(") (λ p. not (is_category p)) pair_pieces l.one-items (drop l.one-index l.one-items) l.initial.begun l.begun l.initial.out l.out
