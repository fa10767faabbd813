use Rattle.std.proofs.Common.{◌≡◌, ◌++◌, ◌∷◌, [], ap, ◌∙◌, map}
use Rattle.std.proofs.lemmas.List.{nil_from_length}
use Rattle.mg_expand.specs.declared.errand.Next.TheVariants.{On}
use Rattle.mg_expand.specs.Walks.{a_call, a_choice, imported}
use Rattle.mg_expand.specs.Errands.{work_tasks}
use Rattle.mg_expand.proofs.WalkerLemmas.{stepped-same, stepped-choice, called-there}
use Rattle.mg_expand.proofs.walker.Walker.go_through_imports.Goals as goal

pub returns-in_default : goal.returns-in_default
returns-in_default c =
    let tasks : work_tasks c.args.errand.work ≡ a_choice c.args.body.now ∷ [] =
    ap work_tasks c.requires.work ∙ ap (λ z. map (a_call imported) z ++ a_choice c.args.body.now ∷ []) (nil_from_length c.args.names.now c.in_default.ensures.cases) in
    stepped-same c.args.resolved.now c.args.self.now c.choose.new.self c.args.errand.here (a_choice c.args.body.now ∷ []) (work_tasks c.args.errand.work) c.args.errand.behind
    (On c.in_ok-next.next) tasks
    (stepped-choice c.args.resolved.now c.args.self.now c.choose.new.self c.args.errand.here (a_choice c.args.body.now ∷ []) c.args.errand.behind c.in_ok-next.next (c.in_ok-next.ensures c.args.resolved.now))

pub class_named-requires : goal.class_named-requires
class_named-requires c =
    called-there c.args.resolved.now c.args.self.now c.args.errand imported c.in-Some.name.now (map (a_call imported) c.in-Some.rest.now ++ a_choice c.args.body.now ∷ [])
    (ap work_tasks c.requires.work ∙ ap (λ z. map (a_call imported) z ++ a_choice c.args.body.now ∷ []) c.in-Some.ensures.cases.0) c.requires.can
