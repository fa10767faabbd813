use Rattle.std.proofs.Common.{◌++◌, ◌∷◌, [], codes, length}
use Rattle.std.proofs.lemmas.Result.{on_ok_weaker}
use Rattle.gr_base.proofs.ListLemmas.{Each-left}
use Rattle.mg_printer.specs.Pieces.{IsKnown, a_sign}
use Rattle.mg_printer.specs.Values.{bag_pieces}
use Rattle.mg_printer.specs.Bodies.{opened}
use Rattle.mg_printer.proofs.Loops.{then}
use Rattle.mg_printer.proofs.bodies.iface.Goals as goal

pub bag-requires : goal.bag-requires
bag-requires c = Each-left (IsKnown (length c.args.symbols.now)) (bag_pieces c.args.list.now) (a_sign (codes "}") ∷ []) c.requires.1.1.1.1

pub returns : goal.returns
returns c =
    let texts = c.args.symbols.now in
    let one = then texts (opened (codes "iface")) (bag_pieces c.args.list.now) c.args.out.now c.open_dimension.new.out c.bag.new.out c.in_ok-open_dimension.ensures c.in_ok-bag.ensures in
    on_ok_weaker c.sign.result (λ e. then texts (opened (codes "iface") ++ bag_pieces c.args.list.now) (a_sign (codes "}") ∷ []) c.args.out.now c.bag.new.out c.sign.new.out one e) c.sign.ensures
