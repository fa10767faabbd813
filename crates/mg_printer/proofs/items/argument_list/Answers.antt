use Rattle.std.proofs.Common.{length, codes, [], ◌∷◌}
use Rattle.gr_base.proofs.ListLemmas.{Each-left}
use Rattle.mg_printer.specs.Pieces.{IsKnown, a_sign, separated}
use Rattle.mg_printer.specs.Items.{argument_pieces}
use Rattle.mg_printer.proofs.items.argument_list.Goals as goal

pub arguments-requires : goal.arguments-requires
arguments-requires c = Each-left (IsKnown (length c.args.symbols.now)) (separated (a_sign (codes ",")) argument_pieces c.args.list.now) (a_sign (codes ")") ∷ []) c.requires.1
