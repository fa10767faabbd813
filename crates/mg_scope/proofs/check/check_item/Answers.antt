use Rattle.std.proofs.Common.{subst, sym, ◌∙◌, take}
use Rattle.mg_syntax.specs.declared.item.Item.{Item}
use Rattle.mg_syntax.specs.declared.item.Item.TheVariants as item
use Rattle.mg_scope.specs.Checks.{IsRightItem, IsItemRefusal}
use Rattle.mg_scope.proofs.CheckLemmas.{item_at, on_err}
use Rattle.mg_scope.proofs.check.check_item.Goals as goal

pub returns-in-Value-clause-err : goal.returns-in-Value-clause-err
returns-in-Value-clause-err c =
    let m = c.args.directory.now in
    let done = take c.args.place m in
    on_err c.check_name.result
    (λ e h i at.
    subst (λ (z : Item). IsItemRefusal m done z e)
    (item_at c.items.result.now m c.args.place c.index-items-place.result (item.Value c.in-Value.name) i c.items.ensures c.requires.within (sym c.index-items-place.is ∙ c.in-Value.is) at) (h done))
    c.check_name.ensures.err

pub returns-in-Header-clause-ok : goal.returns-in-Header-clause-ok
returns-in-Header-clause-ok c = λ i at.
    let m = c.args.directory.now in
    subst (IsRightItem m (take c.args.place m))
    (item_at c.items.result.now m c.args.place c.index-items-place.result (item.Header c.in-Header.field-0) i c.items.ensures c.requires.within (sym c.index-items-place.is ∙ c.in-Header.is) at) tt
