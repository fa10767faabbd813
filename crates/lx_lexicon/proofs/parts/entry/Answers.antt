use Rattle.std.proofs.Common.{◌≡◌, Err, rules, refl}
use Rattle.gr_symbols.proofs.NumberLemmas.{Grows-trans}
use Rattle.gr_grammar.specs.Grammars.{run_both}
use Rattle.gr_reader.proofs.Steps.{first_stops, then_stops, token_run, token_stops}
use Rattle.gr_feats.proofs.TableLemmas.{puts_both, puts_closed}
use Rattle.lx_lexicon.proofs.parts.entry.Goals as goal

pub returns-in_err-head-clause-reads : goal.returns-in_err-head-clause-reads
returns-in_err-head-clause-reads c =
    let e : c.from_residual.result ≡ Err c.in_err-head.field-0.0 = search rules in
    rw e (first_stops c.in_err-head.ensures.reads)

pub returns-in_err-_open-clause-reads : goal.returns-in_err-_open-clause-reads
returns-in_err-_open-clause-reads c =
    let e : c.from_residual-in_err-_open.result ≡ Err c.in_err-_open.field-0.0 = search rules in
    rw e (then_stops c.in_ok-head.ensures.reads.0 (first_stops (token_stops c.in_err-_open.ensures.0 c.in_err-_open.ensures.1)))

pub returns-in_err-body-clause-reads : goal.returns-in_err-body-clause-reads
returns-in_err-body-clause-reads c =
    let e : c.from_residual-in_err-body.result ≡ Err c.in_err-body.field-0.0 = search rules in
    rw e (then_stops c.in_ok-head.ensures.reads.0 (then_stops (token_run c.in_ok-_open.ensures.took) (first_stops c.in_err-body.ensures.reads)))

pub returns-in_err-_close-clause-reads : goal.returns-in_err-_close-clause-reads
returns-in_err-_close-clause-reads c =
    let e : c.from_residual-in_err-_close.result ≡ Err c.in_err-_close.field-0.0 = search rules in
    rw e (then_stops c.in_ok-head.ensures.reads.0 (then_stops (token_run c.in_ok-_open.ensures.took) (then_stops c.in_ok-body.ensures.reads.0 (token_stops c.in_err-_close.ensures.0 c.in_err-_close.ensures.1))))

pub returns-clause-reads : goal.returns-clause-reads
returns-clause-reads c = (
  run_both c.in_ok-head.ensures.reads.0 (run_both (token_run c.in_ok-_open.ensures.took) (run_both c.in_ok-body.ensures.reads.0 (token_run c.in_ok-_close.ensures.took))),
  λ later g. record {
    head = c.in_ok-head.ensures.reads.1 later (Grows-trans _ _ later c.in_ok-body.ensures.passes.grows g);
    body = c.in_ok-body.ensures.reads.1 later g;
  },
)

pub returns-clause-table : goal.returns-clause-table
returns-clause-table c = puts_both c.in_ok-head.ensures.table (puts_both (puts_closed refl c.in_ok-_open.ensures.took) (puts_both c.in_ok-body.ensures.table (puts_closed refl c.in_ok-_close.ensures.took)))
