use Rattle.std.proofs.Common.{◌++◌, ◌∷◌, [], refl, ap, ap₂, ◌∙◌, map}
use Rattle.mg_expand.specs.declared.errand.Fork.{Fork}
use Rattle.mg_expand.specs.declared.errand.Work.TheVariants.{Imports}
use Rattle.mg_expand.specs.declared.walker.Walker.{Walker}
use Rattle.mg_expand.specs.Walks.{a_call, a_choice, imported}
use Rattle.mg_expand.proofs.WayLemmas.{underway-first}
use Rattle.mg_expand.proofs.walker.Walker.new.Goals as goal

pub returns : goal.returns
returns c =
    let w : Walker = record { kept = c.new-2.result; forks = c.push.new.self; facts = c.in_ok-facts.facts; items = 1; names = c.new-3.result } in
    let f : Fork = record { errand = record { here = 0; work = Imports c.as_slice.result c.as_slice-2.result; behind = 0 }; kept = 0; said = 0; items = 1 } in
    underway-first c.args.resolved.now c.args.name c.class_named-class.result.now w f c.class_named-class.ensures.scoped c.class_named-class.ensures.class
    c.new-2.ensures.items c.in_ok-facts.ensures (c.in_ok-push.ensures.items ∙ ap (λ z. z ++ f ∷ []) c.new-forks.ensures.items) refl refl refl refl
    (ap₂ (λ a b. map (a_call imported) a ++ a_choice b ∷ []) c.as_slice.ensures c.as_slice-2.ensures) refl
