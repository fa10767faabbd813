use Rattle.std.proofs.Common.{subst, sym, refl, ◌∙◌}
use Rattle.mg_scope.specs.Directories.{IsPlace}
use Rattle.mg_scope.proofs.ClassLemmas.{class_here, class_of-none, place_found}
use Rattle.mg_scope.proofs.places.first_class.Goals as goal

pub bounds-items-place : goal.bounds-items-place
bounds-items-place c = (place_found c.args.items.now c.args.name c.in-Some.place (subst (IsPlace c.args.items.now c.args.name) (sym c.in-Some.ensures) (c.requires c.args.name))).within

pub returns-in-Some : goal.returns-in-Some
returns-in-Some c =
    class_here c.args.items.now c.args.items.now c.args.name c.in-Some.place c.index-items-place.result c.class_in.result refl
    (subst (IsPlace c.args.items.now c.args.name) (sym c.in-Some.ensures) (c.requires c.args.name)) (λ k e. c.class_in.ensures k (c.index-items-place.is ∙ e))

pub returns-in-None : goal.returns-in-None
returns-in-None c = class_of-none c.args.items.now c.args.name (subst (IsPlace c.args.items.now c.args.name) (sym c.in-None.ensures) (c.requires c.args.name))
