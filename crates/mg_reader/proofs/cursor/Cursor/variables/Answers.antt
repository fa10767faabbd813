use Rattle.std.proofs.Common.{rules, ◌≡◌, [], ◌∷◌, ◌++◌, Err, refl, sym, ap, ◌∙◌, append-nil}
use Rattle.gr_reader.proofs.Steps.{pushed}
use Rattle.gr_grammar.specs.Grammars.{run_both, start, round}
use Rattle.gr_grammar.proofs.Loops.{ended}
use Rattle.mg_reader.specs.Values.{token_of}
use Rattle.mg_reader.proofs.Steps.{first_stops, then_stops, row_stops, memory_stops, shorter, row_value}
use Rattle.mg_reader.proofs.cursor.Cursor.variables.Goals as goal

pub returns-in_err-first : goal.returns-in_err-first
returns-in_err-first c = let e : c.from_residual.result ≡ Err c.in_err-first.field-0.0 = search rules in rw e (first_stops c.in_err-first.ensures)

pub returns-in_err-_first : goal.returns-in_err-_first
returns-in_err-_first c = let e : c.from_residual-in_err-_first.result ≡ Err c.in_err-_first.field-0.0 = search rules in rw e (memory_stops c.in_err-_first.ensures)

pub returns-in_err-more : goal.returns-in_err-more
returns-in_err-more c = let e : c.from_residual-in_err-more.result ≡ Err c.in_err-more.field-0.0 = search rules in rw e (then_stops c.in_ok-first.ensures.0 (row_stops c.rows.invariant.0 (sym c.sees.ensures ∙ c.rows-test.true) c.in_err-more.ensures))

pub returns-in_err-_more : goal.returns-in_err-_more
returns-in_err-_more c = let e : c.from_residual-in_err-_more.result ≡ Err c.in_err-_more.field-0.0 = search rules in rw e (memory_stops c.in_err-_more.ensures)

pub rows-init : goal.rows-init
rows-init c = (start, sym (append-nil _))

pub rows-smaller : goal.rows-smaller
rows-smaller c = shorter refl c.in_ok-more.ensures.0

pub rows-preserved : goal.rows-preserved
rows-preserved c = (round c.rows.invariant.0 (sym c.sees.ensures ∙ c.rows-test.true) c.in_ok-more.ensures.0, pushed _ _ c.in_ok-_more.ensures c.rows.invariant.1 ((λ i. (c.in_ok-more.ensures.1 i).name)))

pub returns : goal.returns
returns c = (run_both c.in_ok-first.ensures.0 (ended c.rows.invariant.0 (sym c.sees.ensures ∙ c.rows-test.false)), row_value (λ ts rest m. (token_of m).name) c.rows.invariant.0 (sym c.sees.ensures ∙ c.rows-test.false) (c.in_ok-_first.ensures ∙ ap (λ z. z ++ (c.in_ok-first.first.name) ∷ []) c.new-row.ensures) ((λ i. (c.in_ok-first.ensures.1 i).name)) c.rows.invariant.1)
