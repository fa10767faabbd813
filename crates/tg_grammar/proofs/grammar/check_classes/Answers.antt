use Rattle.std.proofs.Common.{◌≡◌, refl, length, Err, subst, sym, IfErr, rules}
use Rattle.std.proofs.lemmas.Option.{slice_get_read}
use Rattle.tg_grammar.specs.Grammars.{IsRefusalOf, IsWellFormedClass}
use Rattle.tg_grammar.proofs.GrammarLemmas.{Each-take_more, class_refused}
use Rattle.tg_grammar.proofs.grammar.check_classes.Goals as goal

pub returns-in_err-check_class-clause-err : goal.returns-in_err-check_class-clause-err
returns-in_err-check_class-clause-err c =
    let e : c.from_residual.result ≡ Err c.in_err-check_class.field-0.0 = search rules in
    let at = slice_get_read c.args.classes.now (length c.args.classes.now) c.loop-class.class-index c.class-item.result refl c.loop-class-test.true c.class-item.is in
    subst (λ r. IfErr r (IsRefusalOf c.args.classes.now)) (sym e) (class_refused c.args.classes.now c.loop-class.class-index c.class-item.result c.in_err-check_class.field-0.0 at c.loop-class.invariant c.in_err-check_class.ensures.err)

pub loop-class-preserved : goal.loop-class-preserved
loop-class-preserved c =
    Each-take_more IsWellFormedClass c.args.classes.now c.loop-class.class-index c.class-item.result
    (slice_get_read c.args.classes.now (length c.args.classes.now) c.loop-class.class-index c.class-item.result refl c.loop-class-test.true c.class-item.is) c.loop-class.invariant c.in_ok-check_class.ensures.ok
