use Rattle.std.proofs.Common.{drop, codes, ◌∷◌}
use Rattle.mg_printer.specs.Pieces.{a_sign}
use Rattle.mg_printer.specs.Values.{pair_pieces}
use Rattle.mg_printer.specs.Writing.{IsLeft}
use Rattle.mg_printer.proofs.values.pairs.Given as goal

abbrev pub invariant-loop-other : goal.invariant-loop-other
invariant-loop-other l = IsLeft l.symbols (λ x. a_sign (codes ",") ∷ pair_pieces x) l.others (drop l.other-index l.others) l.initial.out l.out
