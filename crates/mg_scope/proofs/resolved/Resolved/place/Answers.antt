use Rattle.std.specs.Prelude.{◌≡◌, List, Some, None, MatchOption, slice_get}
use Rattle.std.proofs.Common.{subst}
use Rattle.mg_syntax.specs.declared.item.Class.{Class}
use Rattle.mg_syntax.specs.declared.item.Item.{Item}
use Rattle.mg_syntax.specs.declared.item.Item.TheVariants as item
use Rattle.mg_scope.specs.Classes.{class_of}
use Rattle.mg_scope.proofs.ClassLemmas.{place_answer}
use Rattle.mg_scope.proofs.resolved.Resolved.place.Goals as goal

pub returns-clause-place : goal.returns-clause-place
returns-clause-place c =
    subst (λ (m : List Item). MatchOption c.get.result (class_of m c.args.name ≡ None) (λ i. (k : Class) × (class_of m c.args.name ≡ Some k) × (slice_get m i ≡ Some (item.Class k))))
    c.self.view_is (place_answer c.self.inside.metagrammar c.self.inside.places c.args.name c.get.result c.self.invariant.2 c.get.ensures)
