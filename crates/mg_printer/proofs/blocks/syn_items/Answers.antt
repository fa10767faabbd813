use Rattle.std.proofs.Common.{rules, ◌≡◌, ◌∷◌, [], codes}
use Rattle.mg_printer.specs.Pieces.{a_sign}
use Rattle.mg_printer.specs.Blocks.{syn_item_pieces}
use Rattle.mg_printer.proofs.Loops.{then, left_here, left_next, others_left}
use Rattle.mg_printer.proofs.blocks.syn_items.Goals as goal

pub loop-other-init : goal.loop-other-init
loop-other-init c =
    let is : c.args.items.now ≡ c.in-Some.first.now ∷ c.in-Some.others.now = search rules in
    others_left c.args.symbols.now (a_sign (codes ";")) syn_item_pieces c.args.items.now c.in-Some.first.now c.in-Some.others.now is c.requires c.syn_item.new.out

pub syn_item-requires-in-loop-other : goal.syn_item-requires-in-loop-other
syn_item-requires-in-loop-other c =
    (left_here c.args.symbols.now (λ x. a_sign (codes ";") ∷ syn_item_pieces x) c.in-Some.others.now c.loop-other.other-index c.other-item.result _ _ c.other-item.is c.loop-other-test.true c.loop-other.invariant).1

pub loop-other-preserved : goal.loop-other-preserved
loop-other-preserved c =
    left_next c.args.symbols.now (λ x. a_sign (codes ";") ∷ syn_item_pieces x) c.in-Some.others.now c.loop-other.other-index c.other-item.result _ _ c.other-item.is c.loop-other-test.true c.loop-other.invariant _
    (then c.args.symbols.now (a_sign (codes ";") ∷ []) (syn_item_pieces c.other-item.result) c.loop-other.out c.sign.new.out c.syn_item-in-loop-other.new.out c.in_ok-sign.ensures c.in_ok-syn_item-2.ensures)
