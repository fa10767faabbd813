use Rattle.std.proofs.Common.{refl, sym, ◌∙◌}
use Rattle.mg_syntax.specs.declared.item.Item.TheVariants as item
use Rattle.mg_scope.specs.Classes.{mentioned}
use Rattle.mg_scope.proofs.CallerLemmas.{place_has, callers_past}
use Rattle.mg_scope.proofs.callers.Callers.add_item.Goals as goal

pub add_class-requires : goal.add_class-requires
add_class-requires c =
    (c.in-Class.class, place_has c.items.result.now c.args.directory.now c.args.place c.index-items-place.result (item.Class c.in-Class.class) c.items.ensures c.requires (sym c.index-items-place.is ∙ c.in-Class.is), refl)

pub returns-in-Value : goal.returns-in-Value
returns-in-Value c = λ known.
    callers_past (mentioned c.args.directory.now) c.args.self.now c.args.directory.now c.args.place (item.Value c.in-Value.field-0)
    (place_has c.items.result.now c.args.directory.now c.args.place c.index-items-place.result (item.Value c.in-Value.field-0) c.items.ensures c.requires (sym c.index-items-place.is ∙ c.in-Value.is)) (λ k e. cc) known

pub returns-in-Header : goal.returns-in-Header
returns-in-Header c = λ known.
    callers_past (mentioned c.args.directory.now) c.args.self.now c.args.directory.now c.args.place (item.Header c.in-Header.field-0)
    (place_has c.items.result.now c.args.directory.now c.args.place c.index-items-place.result (item.Header c.in-Header.field-0) c.items.ensures c.requires (sym c.index-items-place.is ∙ c.in-Header.is)) (λ k e. cc) known
