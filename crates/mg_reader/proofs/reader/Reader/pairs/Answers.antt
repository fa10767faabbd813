use Rattle.std.proofs.Common.{rules, ◌≡◌, [], ◌∷◌, ◌++◌, Err, refl, sym, ap, ◌∙◌, append-nil}
use Rattle.gr_grammar.specs.Grammars.{run_both, start, round, round_items}
use Rattle.gr_grammar.proofs.Loops.{ended}
use Rattle.mg_reader.specs.Values.{more_pair_of, pair_of}
use Rattle.mg_reader.proofs.Steps.{first_stops, then_stops, row_stops, memory_stops, shorter}
use Rattle.mg_reader.proofs.Keys.{keys_start, pair_keys_more, pairs_pushed, pairs_value, pairs_complaints}
use Rattle.mg_reader.proofs.reader.Reader.pairs.Goals as goal

pub returns-in_err-first : goal.returns-in_err-first
returns-in_err-first c = let e : c.from_residual.result ≡ Err c.in_err-first.field-0.0 = search rules in rw e (first_stops c.in_err-first.ensures)

pub returns-in_err-_noted : goal.returns-in_err-_noted
returns-in_err-_noted c = let e : c.from_residual-in_err-_noted.result ≡ Err c.in_err-_noted.field-0.0 = search rules in rw e (memory_stops c.in_err-_noted.ensures)

pub returns-in_err-_first : goal.returns-in_err-_first
returns-in_err-_first c = let e : c.from_residual-in_err-_first.result ≡ Err c.in_err-_first.field-0.0 = search rules in rw e (memory_stops c.in_err-_first.ensures)

pub returns-in_err-more : goal.returns-in_err-more
returns-in_err-more c = let e : c.from_residual-in_err-more.result ≡ Err c.in_err-more.field-0.0 = search rules in rw e (then_stops c.in_ok-first.ensures.0 (row_stops c.rows.invariant.0 (sym c.sees.ensures ∙ c.rows-test.true) c.in_err-more.ensures))

pub returns-in_err-_again : goal.returns-in_err-_again
returns-in_err-_again c = let e : c.from_residual-in_err-_again.result ≡ Err c.in_err-_again.field-0.0 = search rules in rw e (memory_stops c.in_err-_again.ensures)

pub returns-in_err-_more : goal.returns-in_err-_more
returns-in_err-_more c = let e : c.from_residual-in_err-_more.result ≡ Err c.in_err-_more.field-0.0 = search rules in rw e (memory_stops c.in_err-_more.ensures)

pub rows-smaller : goal.rows-smaller
rows-smaller c = shorter refl c.in_ok-more.ensures.0

pub rows-init : goal.rows-init
rows-init c = (start, sym (append-nil _), keys_start _ _)

pub rows-preserved : goal.rows-preserved
rows-preserved c = (round c.rows.invariant.0 (sym c.sees.ensures ∙ c.rows-test.true) c.in_ok-more.ensures.0, pairs_pushed _ (round_items (λ ts rest m. more_pair_of m) c.rows.invariant.0) c.in_ok-_more.ensures c.rows.invariant.1 c.in_ok-more.ensures.1, pair_keys_more (round_items (λ ts rest m. more_pair_of m) c.rows.invariant.0) c.rows.invariant.2 c.in_ok-_again.ensures c.in_ok-more.ensures.1)

pub returns : goal.returns
returns c = (run_both c.in_ok-first.ensures.0 (ended c.rows.invariant.0 (sym c.sees.ensures ∙ c.rows-test.false)), pairs_value c.rows.invariant.0 (sym c.sees.ensures ∙ c.rows-test.false) (c.in_ok-_first.ensures ∙ ap (λ z. z ++ pair_of c.in_ok-first.first ∷ []) c.new-bag.ensures) c.in_ok-first.ensures.1 c.rows.invariant.1, pairs_complaints c.rows.invariant.0 (sym c.sees.ensures ∙ c.rows-test.false) c.clear.ensures c.in_ok-_noted.ensures c.in_ok-first.ensures.1 c.rows.invariant.2)
