use Rattle.std.proofs.Common.{◌≡◌, Err, rules, ap, length, arith, refl}
use Rattle.gr_grammar.specs.Grammars.{run_both}
use Rattle.gr_reader.proofs.Steps.{first_stops, then_stops, token_run, token_stops}
use Rattle.gr_feats.proofs.TableLemmas.{puts_both, puts_closed}
use Rattle.sm_input.proofs.literals.closed_literals.Goals as goal

pub returns-in_err-inner-clause-reads : goal.returns-in_err-inner-clause-reads
returns-in_err-inner-clause-reads c =
    let e : c.from_residual.result ≡ Err c.in_err-inner.field-0.0 = search rules in
    rw e (first_stops c.in_err-inner.ensures.reads)

pub returns-in_err-_close-clause-reads : goal.returns-in_err-_close-clause-reads
returns-in_err-_close-clause-reads c =
    let e : c.from_residual-in_err-_close.result ≡ Err c.in_err-_close.field-0.0 = search rules in
    rw e (then_stops c.in_ok-inner.ensures.reads.0 (token_stops c.in_err-_close.ensures.0 c.in_err-_close.ensures.1))

pub returns-clause-reads : goal.returns-clause-reads
returns-clause-reads c = (run_both c.in_ok-inner.ensures.reads.0 (token_run c.in_ok-_close.ensures.took), c.in_ok-inner.ensures.reads.1)

pub returns-clause-spare : goal.returns-clause-spare
returns-clause-spare c = let a = c.in_ok-inner.ensures.spare in let e = ap length c.in_ok-_close.ensures.took.split in omega (arith, a, e)

pub returns-clause-table : goal.returns-clause-table
returns-clause-table c = puts_both c.in_ok-inner.ensures.table (puts_closed refl c.in_ok-_close.ensures.took)
