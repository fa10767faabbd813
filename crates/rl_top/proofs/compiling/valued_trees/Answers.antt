use Rattle.std.proofs.Common.{◌≡◌, Err, ◌<◌, length, rules, refl}
use Rattle.gr_terms.specs.declared.Sym.{Sym}
use Rattle.mg_scope.specs.Faults.{IsThere}
use Rattle.rl_top.proofs.FaultNames.{valued_has}
use Rattle.rl_top.proofs.Stopping.{stops_for, valued_there, valued_at, one_more, first_class}
use Rattle.rl_top.proofs.compiling.valued_trees.Goals as goal

pub push_trees-requires-clause-there : goal.push_trees-requires-clause-there
push_trees-requires-clause-there c =
    let m = c.args.resolved.now in
    valued_at (IsThere m) m c.valued-class-items.result.now c.loop-class.class-index _ _ c.valued-class-items.ensures.valued c.loop-class-test.true refl (valued_there m c.valued-class-items.ensures.scoped)

pub push_trees-requires-clause-named : goal.push_trees-requires-clause-named
push_trees-requires-clause-named c =
    let m = c.args.resolved.now in
    let texts = c.args.symbols.now in
    valued_at (λ (z : Sym). z.0 < length texts) m c.valued-class-items.result.now c.loop-class.class-index _ _ c.valued-class-items.ensures.valued c.loop-class-test.true refl (valued_has texts m c.requires)

pub returns-in_err-push_trees-clause-refused : goal.returns-in_err-push_trees-clause-refused
returns-in_err-push_trees-clause-refused c =
    let m = c.args.resolved.now in
    let texts = c.args.symbols.now in
    let e : c.from_residual.result ≡ Err c.in_err-push_trees.field-0.0 = search rules in
    rw e (stops_for _ _ _ c.in_err-push_trees.field-0.0
    (first_class texts m c.args.models c.valued-class-items.result.now c.loop-class.class-index _ _ c.loop-class.classes.items c.requires c.valued-class-items.ensures.valued c.loop-class-test.true refl c.loop-class.invariant)
    c.in_err-push_trees.ensures.refused)

pub loop-class-preserved : goal.loop-class-preserved
loop-class-preserved c =
    one_more c.args.symbols.now c.args.resolved.now c.args.models c.valued-class-items.result.now c.loop-class.class-index _ _ c.loop-class.classes.items c.push_trees.new.classes.items
    c.loop-class-test.true refl c.loop-class.invariant c.in_ok-push_trees.ensures.pushed
