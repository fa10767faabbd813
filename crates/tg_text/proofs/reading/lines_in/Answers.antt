use Rattle.std.specs.Prelude.{◌==◌}
use Rattle.std.proofs.Common.{◌∙◌, ℕ, List, length, refl, ap}
use Rattle.std.proofs.lemmas.Bool.{false≢true}
use Rattle.tg_text.proofs.TextRows.{behind_bad, classes_stop, end_bad, version_bad}
use Rattle.tg_text.proofs.TreeRows.{same_error}
use Rattle.tg_text.proofs.reading.lines_in.Goals as goal

pub returns-in_default-clause-stops : goal.returns-in_default-clause-stops
returns-in_default-clause-stops c = (c.args.text.now, version_bad c.args.text.now c.in_default.ensures, refl)

pub returns-in_err-classes-clause-stops : goal.returns-in_err-classes-clause-stops
returns-in_err-classes-clause-stops c =
    let e = same_error _ c.from_residual.result c.in_err-classes.field-0.0 (λ x g. g) c.from_residual.ensures in
    rw e (classes_stop c.args.text.now c.in-Some.rest.now c.in_err-classes.field-0.0 c.in-Some.ensures c.in_err-classes.ensures.stops)

pub returns-in_default-behind-clause-stops : goal.returns-in_default-behind-clause-stops
returns-in_default-behind-clause-stops c =
    let texts = c.classes_in.new.symbols in
    (c.in_ok-classes.last.now, end_bad texts c.is_table.ensures c.in_ok-classes.classes.items c.args.text.now c.in-Some.rest.now c.in_ok-classes.last.now c.in-Some.ensures c.in_ok-classes.ensures.classes c.in_ok-classes.ensures.last c.in_default-behind.ensures, refl)

pub returns-then-not-is_empty-clause-stops : goal.returns-then-not-is_empty-clause-stops
returns-then-not-is_empty-clause-stops c =
    let texts = c.classes_in.new.symbols in
    let end = c.in-Some-behind.end.now in
    (end, behind_bad texts c.is_table.ensures c.in_ok-classes.classes.items c.args.text.now c.in-Some.rest.now c.in_ok-classes.last.now c.in-Some.ensures c.in_ok-classes.ensures.classes end c.in-Some-behind.ensures (λ e. false≢true (c.if-not-is_empty.ensures ∙ ap (λ (z : List ℕ). length z == 0) e)), refl)
