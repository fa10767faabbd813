use Rattle.std.proofs.Common.{subst}
use Rattle.mg_expand.specs.declared.errand.Next.{Next}
use Rattle.mg_expand.specs.Errands.{work_tasks}
use Rattle.mg_expand.specs.Walkers.{Stepped}
use Rattle.mg_expand.proofs.walker.Walker.walk.Goals as goal

pub steps-preserved : goal.steps-preserved
steps-preserved c =
    let known = c.steps.invariant in
    let step = subst (λ (z : Next). Stepped c.args.resolved.now c.steps.self c.steps.now.here (work_tasks c.steps.now.work) c.steps.now.behind c.step.new.self z) c.in-On.is c.in_ok-next.ensures in
    ((known.0.0, (step known.0.0 known.0.1).0), (λ outs h. (step outs (known.1 outs h)).0))

pub steps-smaller : goal.steps-smaller
steps-smaller c =
    let step = subst (λ (z : Next). Stepped c.args.resolved.now c.steps.self c.steps.now.here (work_tasks c.steps.now.work) c.steps.now.behind c.step.new.self z) c.in-On.is c.in_ok-next.ensures in
    (step c.steps.invariant.0.0 c.steps.invariant.0.1).1

pub returns-in-Done : goal.returns-in-Done
returns-in-Done c =
    let step = subst (λ (z : Next). Stepped c.args.resolved.now c.steps.self c.steps.now.here (work_tasks c.steps.now.work) c.steps.now.behind c.step.new.self z) c.in-Done.is c.in_ok-next.ensures in
    λ outs h. step outs (c.steps.invariant.1 outs h)

pub returns-in-TooLarge : goal.returns-in-TooLarge
returns-in-TooLarge c =
    let step = subst (λ (z : Next). Stepped c.args.resolved.now c.steps.self c.steps.now.here (work_tasks c.steps.now.work) c.steps.now.behind c.step.new.self z) c.in-TooLarge.is c.in_ok-next.ensures in
    λ outs h. step outs (c.steps.invariant.1 outs h)
