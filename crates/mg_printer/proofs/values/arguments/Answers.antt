use Rattle.std.proofs.Common.{length, codes, [], ◌∷◌}
use Rattle.gr_base.specs.Lists.{gathered}
use Rattle.gr_base.proofs.ListLemmas.{Each-left}
use Rattle.mg_printer.specs.Pieces.{IsKnown, a_sign}
use Rattle.mg_printer.specs.Values.{side_pieces}
use Rattle.mg_printer.proofs.values.arguments.Goals as goal

pub sides-requires : goal.sides-requires
sides-requires c = Each-left (IsKnown (length c.args.symbols.now)) (gathered side_pieces c.args.arguments.now) (a_sign (codes ")") ∷ []) c.requires.1
