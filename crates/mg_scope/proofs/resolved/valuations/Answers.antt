use Rattle.std.proofs.Common.{subst, sym, ap, ◌∙◌, ◌++◌, take, List}
use Rattle.std.proofs.lemmas.List.{take_all}
use Rattle.gr_base.specs.Lists.{gathered}
use Rattle.mg_syntax.specs.declared.item.Item.{Item}
use Rattle.mg_scope.specs.Classes.{valuation, firsts}
use Rattle.mg_scope.specs.Orders.{AreFirsts}
use Rattle.mg_scope.proofs.FirstLemmas.{firsts_none, firsts_next}
use Rattle.mg_scope.proofs.resolved.valuations.Goals as goal

pub loop-item-init : goal.loop-item-init
loop-item-init c = firsts_none c.new-met.result c.new-names.result.items c.new-met.ensures c.new-names.ensures.items

pub loop-item-preserved : goal.loop-item-preserved
loop-item-preserved c =
    let seen = gathered valuation (take c.loop-item.item-index c.args.items.now) in
    firsts_next c.note_item.new.met c.note_item.new.names.items c.args.items.now c.loop-item.item-index c.item-item.result c.loop-item-test.true
    (subst (λ (z : Item). AreFirsts c.note_item.new.met c.note_item.new.names.items (seen ++ valuation z)) c.item-item.is (c.in_ok-note_item.ensures seen c.loop-item.invariant))

pub returns : goal.returns
returns c =
    c.loop-item.invariant.1 ∙ ap (λ (z : List Item). firsts (gathered valuation z)) (take_all c.loop-item.item-index c.args.items.now c.loop-item-test.false)
