use Rattle.std.proofs.Common.{◌≡◌, ◌⊎◌, false, Err, IfErr, refl, sym, ap, ◌∙◌, subst}
use Rattle.std.proofs.lemmas.Result.{err_from_is_err_and}
use Rattle.mg_compile.specs.Compiled.{IsClassFault}
use Rattle.mg_compile.specs.declared.refusal.CompileRefusal.TheVariants as refusal
use Rattle.mg_compile.proofs.Ending.{starts, fits, goes_on, fails, done}
use Rattle.mg_compile.proofs.class.compile_class.Goals as goal

pub loop-found-init : goal.loop-found-init
loop-found-init c =
    starts c.args.symbols.now c.args.resolved.now c.args.class c.args.budget c.in_ok-expander.expander (record { trees = c.new-2.result; left = record { left = c.args.budget }; cut = false })
    c.in_ok-expander.ensures (c.new-2.ensures.whole c.args.symbols.now) c.new-2.ensures.empty refl refl

pub take-requires : goal.take-requires
take-requires c =
    let all = c.expansions_are_finite.ensures c.args.resolved.now c.args.class c.requires.there.0 c.valued.ensures.scoped c.requires.there.1 in
    record {
      fit = fits c.one_description.ensures c.args.symbols.now c.args.resolved.now c.args.class c.args.budget c.loop-found.expander c.next.new.self c.loop-found.looks.left c.next.new.budget.left c.loop-found.found c.loop-found.invariant
          c.requires.texts c.in_ok-step.step c.in_ok-step.ensures.ok all.0 all.1;
    }

pub loop-found-preserved : goal.loop-found-preserved
loop-found-preserved c =
    let all = c.expansions_are_finite.ensures c.args.resolved.now c.args.class c.requires.there.0 c.valued.ensures.scoped c.requires.there.1 in
    (goes_on c.one_description.ensures c.args.symbols.now c.args.resolved.now c.args.class c.args.budget c.loop-found.expander c.next.new.self c.loop-found.looks.left c.next.new.budget.left c.loop-found.found c.loop-found.invariant
    c.in_ok-step.step c.take.new.found c.in_ok-more.more c.in_ok-step.ensures.ok all.0 all.1 (c.in_ok-more.ensures.whole c.loop-found.invariant.whole) c.in_ok-more.ensures.took c.if-not-more.false).0

pub loop-found-smaller : goal.loop-found-smaller
loop-found-smaller c =
    let all = c.expansions_are_finite.ensures c.args.resolved.now c.args.class c.requires.there.0 c.valued.ensures.scoped c.requires.there.1 in
    (goes_on c.one_description.ensures c.args.symbols.now c.args.resolved.now c.args.class c.args.budget c.loop-found.expander c.next.new.self c.loop-found.looks.left c.next.new.budget.left c.loop-found.found c.loop-found.invariant
    c.in_ok-step.step c.take.new.found c.in_ok-more.more c.in_ok-step.ensures.ok all.0 all.1 (c.in_ok-more.ensures.whole c.loop-found.invariant.whole) c.in_ok-more.ensures.took c.if-not-more.false).1

pub loop-found-preserved-else-not-more : goal.loop-found-preserved-else-not-more
loop-found-preserved-else-not-more c =
    let all = c.expansions_are_finite.ensures c.args.resolved.now c.args.class c.requires.there.0 c.valued.ensures.scoped c.requires.there.1 in
    (goes_on c.one_description.ensures c.args.symbols.now c.args.resolved.now c.args.class c.args.budget c.loop-found.expander c.next.new.self c.loop-found.looks.left c.next.new.budget.left c.loop-found.found c.loop-found.invariant
    c.in_ok-step.step c.take.new.found c.in_ok-more.more c.in_ok-step.ensures.ok all.0 all.1 (c.in_ok-more.ensures.whole c.loop-found.invariant.whole) c.in_ok-more.ensures.took c.if-not-more.false).0

pub loop-found-smaller-else-not-more : goal.loop-found-smaller-else-not-more
loop-found-smaller-else-not-more c =
    let all = c.expansions_are_finite.ensures c.args.resolved.now c.args.class c.requires.there.0 c.valued.ensures.scoped c.requires.there.1 in
    (goes_on c.one_description.ensures c.args.symbols.now c.args.resolved.now c.args.class c.args.budget c.loop-found.expander c.next.new.self c.loop-found.looks.left c.next.new.budget.left c.loop-found.found c.loop-found.invariant
    c.in_ok-step.step c.take.new.found c.in_ok-more.more c.in_ok-step.ensures.ok all.0 all.1 (c.in_ok-more.ensures.whole c.loop-found.invariant.whole) c.in_ok-more.ensures.took c.if-not-more.false).1

pub returns-in_err-more-clause-err : goal.returns-in_err-more-clause-err
returns-in_err-more-clause-err c =
    let all = c.expansions_are_finite.ensures c.args.resolved.now c.args.class c.requires.there.0 c.valued.ensures.scoped c.requires.there.1 in
    let p = err_from_is_err_and c.from_residual-in_err-more.result c.from_residual-in_err-more.ensures.1 in
    let e : c.from_residual-in_err-more.result ≡ Err c.in_err-more.field-0.0 = p.1 ∙ ap Err p.2 in
    subst (λ r. IfErr r (λ e. (e ≡ refusal.Memory) ⊎ IsClassFault c.args.resolved.now c.args.class c.args.budget e)) (sym e)
    (fails c.one_description.ensures c.args.symbols.now c.args.resolved.now c.args.class c.args.budget c.loop-found.expander c.next.new.self c.loop-found.looks.left c.next.new.budget.left c.loop-found.found c.loop-found.invariant
    c.in_ok-step.step c.in_err-more.field-0.0 c.in_ok-step.ensures.ok all.0 all.1 c.in_err-more.ensures.err)

pub returns-then-not-more-clause-list : goal.returns-then-not-more-clause-list
returns-then-not-more-clause-list c =
    let all = c.expansions_are_finite.ensures c.args.resolved.now c.args.class c.requires.there.0 c.valued.ensures.scoped c.requires.there.1 in
    (done c.one_description.ensures c.args.symbols.now c.args.resolved.now c.args.class c.args.budget c.loop-found.expander c.next.new.self c.loop-found.looks.left c.next.new.budget.left c.loop-found.found c.loop-found.invariant
    c.in_ok-step.step c.take.new.found c.in_ok-more.more c.in_ok-step.ensures.ok all.0 all.1
    (c.each_class_has_an_expansion.ensures c.args.resolved.now c.args.class c.requires.there.0 all.0 c.valued.ensures.scoped c.requires.there.1 all.1) c.in_ok-more.ensures.took c.if-not-more.true).list

pub returns-then-not-more-clause-trees : goal.returns-then-not-more-clause-trees
returns-then-not-more-clause-trees c =
    let all = c.expansions_are_finite.ensures c.args.resolved.now c.args.class c.requires.there.0 c.valued.ensures.scoped c.requires.there.1 in
    (done c.one_description.ensures c.args.symbols.now c.args.resolved.now c.args.class c.args.budget c.loop-found.expander c.next.new.self c.loop-found.looks.left c.next.new.budget.left c.loop-found.found c.loop-found.invariant
    c.in_ok-step.step c.take.new.found c.in_ok-more.more c.in_ok-step.ensures.ok all.0 all.1
    (c.each_class_has_an_expansion.ensures c.args.resolved.now c.args.class c.requires.there.0 all.0 c.valued.ensures.scoped c.requires.there.1 all.1) c.in_ok-more.ensures.took c.if-not-more.true).trees

pub returns-then-not-more-clause-faultless : goal.returns-then-not-more-clause-faultless
returns-then-not-more-clause-faultless c =
    let all = c.expansions_are_finite.ensures c.args.resolved.now c.args.class c.requires.there.0 c.valued.ensures.scoped c.requires.there.1 in
    (done c.one_description.ensures c.args.symbols.now c.args.resolved.now c.args.class c.args.budget c.loop-found.expander c.next.new.self c.loop-found.looks.left c.next.new.budget.left c.loop-found.found c.loop-found.invariant
    c.in_ok-step.step c.take.new.found c.in_ok-more.more c.in_ok-step.ensures.ok all.0 all.1
    (c.each_class_has_an_expansion.ensures c.args.resolved.now c.args.class c.requires.there.0 all.0 c.valued.ensures.scoped c.requires.there.1 all.1) c.in_ok-more.ensures.took c.if-not-more.true).faultless
