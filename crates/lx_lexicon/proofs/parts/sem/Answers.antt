use Rattle.std.proofs.Common.{◌≡◌, Err, rules, refl}
use Rattle.gr_grammar.specs.Grammars.{run_both}
use Rattle.gr_reader.proofs.Steps.{first_stops, then_stops, token_run, token_stops}
use Rattle.gr_feats.proofs.TableLemmas.{puts_both, puts_closed}
use Rattle.lx_lexicon.proofs.parts.sem.Goals as goal

pub returns-in_err-_word-clause-reads : goal.returns-in_err-_word-clause-reads
returns-in_err-_word-clause-reads c =
    let e : c.from_residual.result ≡ Err c.in_err-_word.field-0.0 = search rules in
    rw e (first_stops (token_stops c.in_err-_word.ensures.0 c.in_err-_word.ensures.1))

pub returns-in_err-_open-clause-reads : goal.returns-in_err-_open-clause-reads
returns-in_err-_open-clause-reads c =
    let e : c.from_residual-in_err-_open.result ≡ Err c.in_err-_open.field-0.0 = search rules in
    rw e (then_stops (token_run c.in_ok-_word.ensures.took) (first_stops (token_stops c.in_err-_open.ensures.0 c.in_err-_open.ensures.1)))

pub returns-in_err-inner-clause-reads : goal.returns-in_err-inner-clause-reads
returns-in_err-inner-clause-reads c =
    let e : c.from_residual-in_err-inner.result ≡ Err c.in_err-inner.field-0.0 = search rules in
    rw e (then_stops (token_run c.in_ok-_word.ensures.took) (then_stops (token_run c.in_ok-_open.ensures.took) c.in_err-inner.ensures.reads))

pub returns-clause-reads : goal.returns-clause-reads
returns-clause-reads c = (run_both (token_run c.in_ok-_word.ensures.took) (run_both (token_run c.in_ok-_open.ensures.took) c.in_ok-inner.ensures.reads.0), c.in_ok-inner.ensures.reads.1)

pub returns-clause-table : goal.returns-clause-table
returns-clause-table c = puts_both (puts_closed refl c.in_ok-_word.ensures.took) (puts_both (puts_closed refl c.in_ok-_open.ensures.took) c.in_ok-inner.ensures.table)
