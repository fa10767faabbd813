use Rattle.std.proofs.Common.{◌≡◌, length, refl, ap, sym, ◌∙◌, arith, map}
use Rattle.std.proofs.lemmas.Bool.{eqb-true, eqb-false}
use Rattle.mg_expand.specs.declared.errand.Errand.{Errand}
use Rattle.mg_expand.specs.declared.errand.Fork.{Fork}
use Rattle.mg_expand.specs.declared.errand.Work.TheVariants.{Statements, Choice}
use Rattle.mg_expand.specs.Walks.{task_of}
use Rattle.mg_expand.proofs.WalkerLemmas.{chose-last, chose-first}
use Rattle.mg_expand.proofs.walker.Walker.choose.Goals as goal

pub returns-then-is_empty : goal.returns-then-is_empty
returns-then-is_empty c =
    let e : Errand = record { here = c.args.here; work = Statements c.as_slice.result; behind = c.args.behind } in
    let none : length c.in-Some.rest.now ≡ 0 = eqb-true _ 0 (sym c.is_empty.ensures ∙ c.if-is_empty.true) in
    λ m. chose-last m c.args.self.now c.args.here c.args.body.now c.in-Some.first.now c.in-Some.rest.now c.args.behind e
    c.in-Some.ensures.cases.0 none refl (ap (map task_of) c.as_slice.ensures) refl

pub returns : goal.returns
returns c =
    let e : Errand = record { here = c.args.here; work = Statements c.as_slice.result; behind = c.args.behind } in
    let f : Fork = record {
      errand = record { here = c.args.here; work = Choice c.in-Some.rest; behind = c.args.behind };
      kept = c.len.result;
      said = c.count.result;
      items = c.args.self.now.items;
    } in
    λ m. chose-first m c.args.self.now (record c.args.self.now { forks = c.push.new.self }) c.args.here c.args.body.now c.in-Some.first.now c.in-Some.rest.now c.args.behind f e
    c.in-Some.ensures.cases.0
    (eqb-false (length c.in-Some.rest.now) 0 (sym c.is_empty.ensures ∙ c.if-is_empty.false))
    (record {
      here = refl;
      tasks = refl;
      behind = refl;
      as_kept = omega (arith, c.len.ensures, c.args.self.now.kept.ok.0);
      as_said = c.count.ensures;
      as_counted = refl;
    })
    (record { as_kept = refl; as_said = refl; as_forks = c.in_ok-push.ensures.items; as_items = refl })
    refl (ap (map task_of) c.as_slice.ensures) refl
