use Rattle.std.proofs.Common.{◌≡◌, ◌+◌, ◌∙◌, sym, subst, refl, Bool, true, false}
use Rattle.gr_base.specs.Lists.{Each}
use Rattle.td_forest.specs.Steps.{forest_of}
use Rattle.td_forest.specs.Without.{without}
use Rattle.td_solver.specs.Ties.{HoldsOf, IsBelow}
use Rattle.td_solver.proofs.TieLemmas.{ties_low, tight_low, tight_held, all_from, new_from, old_from}
use Rattle.td_solver.proofs.holds.all_hold.Goals as goal

pub each_holds-requires-clause-below : goal.each_holds-requires-clause-below
each_holds-requires-clause-below c = subst (Each (IsBelow (c.args.node + 1))) (sym c.ties.ensures) (ties_low c.args.task.now.d.now.relations c.args.node)

pub each_still_holds-requires-clause-below : goal.each_still_holds-requires-clause-below
each_still_holds-requires-clause-below c = subst (Each (IsBelow c.args.node)) (sym c.tight_before.ensures) (tight_low c.args.task.now.d.now.relations c.args.node)

pub each_still_holds-requires-clause-before : goal.each_still_holds-requires-clause-before
each_still_holds-requires-clause-before c =
    let G = forest_of c.args.forest.now in
    subst (Each (HoldsOf (without c.args.node G))) (sym c.tight_before.ensures) (tight_held c.args.task.now.d.now.relations c.args.node G c.requires.forest c.requires.before)

pub returns-then-each_holds : goal.returns-then-each_holds
returns-then-each_holds c =
    let G = forest_of c.args.forest.now in
    let rs = c.args.task.now.d.now.relations in (
      (λ t. all_from rs c.args.node G c.requires.forest c.requires.before (subst (Each (HoldsOf G)) c.ties.ensures (c.if-each_holds.ensures.0 refl))
          (subst (Each (HoldsOf G)) c.tight_before.ensures (c.each_still_holds.ensures.0 t))),
      (λ all. c.each_still_holds.ensures.1 (subst (Each (HoldsOf G)) (sym c.tight_before.ensures) (old_from rs c.args.node G c.requires.forest c.requires.before all))),
    )

pub returns-else-each_holds : goal.returns-else-each_holds
returns-else-each_holds c =
    let G = forest_of c.args.forest.now in
    let rs = c.args.task.now.d.now.relations in (
      (λ t. let e : ◌≡◌ {A = Bool} false true = sym c.if-each_holds.false ∙ t in cc),
      (λ all. c.each_holds.ensures.1 (subst (Each (HoldsOf G)) (sym c.ties.ensures) (new_from rs c.args.node G c.requires.forest c.requires.before all))),
    )
