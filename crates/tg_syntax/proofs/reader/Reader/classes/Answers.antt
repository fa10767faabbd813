use Rattle.std.proofs.Common.{rules, ◌≡◌, Err, refl, sym, ◌∙◌}
use Rattle.tg_syntax.proofs.Steps.{shorter}
use Rattle.tg_syntax.proofs.Noting.{row_start, row_more, row_ended, row_broken}
use Rattle.tg_syntax.proofs.reader.Reader.classes.Goals as goal

pub row-init : goal.row-init
row-init c = row_start

pub returns-in_err-_next : goal.returns-in_err-_next
returns-in_err-_next c = let e : c.from_residual.result ≡ Err c.in_err-_next.field-0.0 = search rules in rw e (row_broken c.row.invariant (sym c.sees.ensures ∙ c.row-test.true) c.in_err-_next.ensures)

pub row-smaller : goal.row-smaller
row-smaller c = shorter refl c.in_ok-_next.ensures.run

pub row-preserved : goal.row-preserved
row-preserved c = row_more c.row.invariant (sym c.sees.ensures ∙ c.row-test.true) c.in_ok-_next.ensures

pub returns : goal.returns
returns c = row_ended c.row.invariant (sym c.sees.ensures ∙ c.row-test.false)
