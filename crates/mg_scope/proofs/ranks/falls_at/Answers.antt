use Rattle.std.proofs.Common.{refl, sym, ◌∙◌, subst, take}
use Rattle.mg_syntax.specs.declared.item.Class.{Class}
use Rattle.mg_syntax.specs.declared.item.Item.TheVariants as item
use Rattle.mg_scope.specs.Classes.{mentioned}
use Rattle.mg_scope.specs.Orders.{Falls}
use Rattle.mg_scope.proofs.CallerLemmas.{place_has}
use Rattle.mg_scope.proofs.CheckLemmas.{item_at}
use Rattle.mg_scope.proofs.ClassLemmas.{class_same}
use Rattle.mg_scope.proofs.ranks.falls_at.Goals as goal

pub class_falls-requires : goal.class_falls-requires
class_falls-requires c =
    (c.in-Class.class, place_has c.items.result.now c.args.directory.now c.args.place c.index-items-place.result (item.Class c.in-Class.class) c.items.ensures c.requires (sym c.index-items-place.is ∙ c.in-Class.is), refl)

pub returns-in-Class : goal.returns-in-Class
returns-in-Class c = λ yes k at.
    let m = c.args.directory.now in
    let e =
    item_at c.items.result.now m c.args.place c.index-items-place.result (item.Class c.in-Class.class) (item.Class k) c.items.ensures c.requires (sym c.index-items-place.is ∙ c.in-Class.is) at
    in
    subst (λ (z : Class). Falls (mentioned m) c.args.ranks.now (take c.args.place m) z.name) (class_same c.in-Class.class k e) (c.class_falls.ensures yes)

pub returns-in-Value : goal.returns-in-Value
returns-in-Value c = λ yes k at.
    let e = item_at c.items.result.now c.args.directory.now c.args.place c.index-items-place.result (item.Value c.in-Value.field-0) (item.Class k) c.items.ensures c.requires (sym c.index-items-place.is ∙ c.in-Value.is) at in
    cc

pub returns-in-Header : goal.returns-in-Header
returns-in-Header c = λ yes k at.
    let e = item_at c.items.result.now c.args.directory.now c.args.place c.index-items-place.result (item.Header c.in-Header.field-0) (item.Class k) c.items.ensures c.requires (sym c.index-items-place.is ∙ c.in-Header.is) at in
    cc
