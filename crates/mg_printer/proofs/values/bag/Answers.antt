use Rattle.std.proofs.Common.{length, codes, [], ◌∷◌}
use Rattle.gr_base.proofs.ListLemmas.{Each-left}
use Rattle.mg_printer.specs.Pieces.{IsKnown, a_sign, separated}
use Rattle.mg_printer.specs.Values.{pair_pieces}
use Rattle.mg_printer.proofs.values.bag.Goals as goal

pub pairs-requires : goal.pairs-requires
pairs-requires c = Each-left (IsKnown (length c.args.symbols.now)) (separated (a_sign (codes ",")) pair_pieces c.args.bag.now) (a_sign (codes "]") ∷ []) c.requires.1
