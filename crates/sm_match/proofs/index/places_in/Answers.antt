use Rattle.std.proofs.Common.{sym, ◌∙◌}
use Rattle.sm_match.proofs.IndexLemmas.{rows_none, rows_some}
use Rattle.sm_match.proofs.index.places_in.Goals as goal

pub returns-in-Some : goal.returns-in-Some
returns-in-Some c = λ any input are key.
    c.as_slice.ensures.value ∙ rows_some any input c.args.rows.now c.in-Some.row.now c.args.pred c.args.arity are c.in-Some.ensures.0 c.in-Some.ensures.1 c.in-Some.ensures.2

pub returns-in-None : goal.returns-in-None
returns-in-None c = λ any input are key. sym (rows_none any input c.args.rows.now c.args.pred c.args.arity are key c.in-None.ensures)
