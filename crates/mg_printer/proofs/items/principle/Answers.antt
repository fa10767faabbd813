use Rattle.std.proofs.Common.{length}
use Rattle.gr_base.proofs.ListLemmas.{Each-left, Each-right}
use Rattle.mg_printer.specs.Pieces.{IsKnown}
use Rattle.mg_printer.specs.Items.{arguments_pieces, dims_pieces}
use Rattle.mg_printer.proofs.items.principle.Goals as goal

pub argument_list-requires : goal.argument_list-requires
argument_list-requires c = Each-left (IsKnown (length c.args.symbols.now)) (arguments_pieces c.args.list.now) (dims_pieces c.args.dims) c.requires.1.1

pub dimension-requires : goal.dimension-requires
dimension-requires c = (Each-right (IsKnown (length c.args.symbols.now)) (arguments_pieces c.args.list.now) (dims_pieces c.args.dims) c.requires.1.1).1.1.0
