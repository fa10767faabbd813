use Rattle.std.proofs.Common.{length}
use Rattle.gr_base.proofs.ListLemmas.{Each-left, Each-right}
use Rattle.mg_printer.specs.Pieces.{IsKnown}
use Rattle.mg_printer.specs.Bodies.{group_pieces}
use Rattle.mg_printer.specs.Items.{class_head}
use Rattle.mg_printer.proofs.items.class.Goals as goal

pub class_head-requires : goal.class_head-requires
class_head-requires c = Each-left (IsKnown (length c.args.symbols.now)) (class_head c.args.class.now) (group_pieces c.args.class.now.body) c.requires

pub group-requires : goal.group-requires
group-requires c = Each-right (IsKnown (length c.args.symbols.now)) (class_head c.args.class.now) (group_pieces c.args.class.now.body) c.requires
