use Rattle.std.proofs.Common.{◌≡◌, ◌-◌, ◌<◌, ◌≤◌, Some, ◌∷◌, [], suc, ap, sym, ◌∙◌, arith, map, length}
use Rattle.std.proofs.lemmas.Option.{slice_get-get_or}
use Rattle.std.proofs.lemmas.List.{nil_from_length}
use Rattle.mg_expand.specs.declared.errand.Errand.{Errand}
use Rattle.mg_expand.specs.declared.errand.Work.TheVariants.{Statements}
use Rattle.mg_expand.specs.declared.errand.Next.TheVariants.{On, Done}
use Rattle.mg_expand.specs.Walks.{task_of, a_choice, called, bound_to}
use Rattle.mg_expand.specs.Errands.{work_tasks}
use Rattle.mg_expand.proofs.WalkerLemmas.{group_task, call_task, bind_task, stepped-same, stepped-end, stepped-back, stepped-group, called-there, place-behind}
use Rattle.mg_expand.proofs.walker.Walker.go_through.Goals as goal

pub returns-then-errand-eq0 : goal.returns-then-errand-eq0
returns-then-errand-eq0 c =
    stepped-same c.args.resolved.now c.args.self.now c.args.self.now c.args.errand.here [] (work_tasks c.args.errand.work) c.args.errand.behind Done
    (ap work_tasks c.requires.work ∙ ap (map task_of) (nil_from_length c.args.list.now c.in_default.ensures.cases))
    (stepped-end c.args.resolved.now c.args.self.now c.args.errand.here c.args.errand.behind c.if-errand-eq0.true)

pub returns-in_default : goal.returns-in_default
returns-in_default c =
    let behind : c.args.errand.behind ≤ length c.args.self.now.kept.items = place-behind c.args.resolved.now c.args.self.now c.args.errand c.requires.can in
    let within : c.args.errand.behind - 1 < length c.args.self.now.kept.items = omega (arith, behind, c.if-errand-eq0.false) in
    let number : c.args.errand.behind ≡ suc (c.args.errand.behind - 1) = omega (arith, c.if-errand-eq0.false) in
    stepped-same c.args.resolved.now c.args.self.now c.args.self.now c.args.errand.here [] (work_tasks c.args.errand.work) c.args.errand.behind (On c.index.result.now)
    (ap work_tasks c.requires.work ∙ ap (map task_of) (nil_from_length c.args.list.now c.in_default.ensures.cases))
    (stepped-back c.args.resolved.now c.args.self.now c.args.errand.here c.args.errand.behind (c.args.errand.behind - 1) c.index.result.now number
    (slice_get-get_or c.args.self.now.kept.items (c.args.errand.behind - 1) c.index.result.now within ∙ ap (λ (z : Errand). Some z) (sym c.index.ensures)))

pub class_named-requires : goal.class_named-requires
class_named-requires c =
    called-there c.args.resolved.now c.args.self.now c.args.errand called c.in-Call.name (map task_of c.in-Some.rest.now)
    (ap work_tasks c.requires.work ∙ ap (map task_of) c.in-Some.ensures.cases.0 ∙ ap (λ t. t ∷ map task_of c.in-Some.rest.now) (ap task_of c.in-Call.is ∙ call_task c.in-Call.name)) c.requires.can

pub class_named-requires-in-Bind : goal.class_named-requires-in-Bind
class_named-requires-in-Bind c =
    called-there c.args.resolved.now c.args.self.now c.args.errand (bound_to c.in-Bind.variable) c.in-Bind.name (map task_of c.in-Some.rest.now)
    (ap work_tasks c.requires.work ∙ ap (map task_of) c.in-Some.ensures.cases.0 ∙ ap (λ t. t ∷ map task_of c.in-Some.rest.now) (ap task_of c.in-Bind.is ∙ bind_task c.in-Bind.variable c.in-Bind.name)) c.requires.can

pub returns-in_ok-next-in-Group : goal.returns-in_ok-next-in-Group
returns-in_ok-next-in-Group c =
    let then : Errand = record { here = c.args.errand.here; work = Statements c.in-Some.rest; behind = c.args.errand.behind } in
    stepped-same c.args.resolved.now c.args.self.now c.choose.new.self c.args.errand.here (a_choice c.as_slice.result.now ∷ map task_of c.in-Some.rest.now) (work_tasks c.args.errand.work) c.args.errand.behind
    (On c.in_ok-next-in-Group.next)
    (ap work_tasks c.requires.work ∙ ap (map task_of) c.in-Some.ensures.cases.0 ∙ ap (λ t. t ∷ map task_of c.in-Some.rest.now) (ap task_of c.in-Group.is ∙ group_task c.in-Group.body ∙ ap a_choice (sym c.as_slice.ensures)))
    (stepped-group c.args.resolved.now c.args.self.now c.keep.new.self c.choose.new.self then c.in_ok-next-in-Group.next c.as_slice.result.now c.in_ok-behind-in-Group.behind
    c.in_ok-behind-in-Group.ensures (c.in_ok-next-in-Group.ensures c.args.resolved.now))
