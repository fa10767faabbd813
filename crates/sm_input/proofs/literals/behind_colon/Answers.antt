use Rattle.std.proofs.Common.{◌≡◌, Err, rules, refl}
use Rattle.gr_grammar.specs.Grammars.{run_both}
use Rattle.gr_reader.proofs.Steps.{first_stops, then_stops, token_run, token_stops}
use Rattle.gr_feats.proofs.TableLemmas.{puts_both, puts_closed}
use Rattle.sm_input.proofs.literals.behind_colon.Goals as goal

pub returns-in_err-_colon-clause-reads : goal.returns-in_err-_colon-clause-reads
returns-in_err-_colon-clause-reads c =
    let e : c.from_residual.result ≡ Err c.in_err-_colon.field-0.0 = search rules in
    rw e (first_stops (token_stops c.in_err-_colon.ensures.0 c.in_err-_colon.ensures.1))

pub returns-in_err-pred-clause-reads : goal.returns-in_err-pred-clause-reads
returns-in_err-pred-clause-reads c =
    let e : c.from_residual-in_err-pred.result ≡ Err c.in_err-pred.field-0.0 = search rules in
    rw e (then_stops (token_run c.in_ok-_colon.ensures.took) c.in_err-pred.ensures.reads)

pub returns-clause-reads : goal.returns-clause-reads
returns-clause-reads c = (run_both (token_run c.in_ok-_colon.ensures.took) c.in_ok-pred.ensures.reads.0, c.in_ok-pred.ensures.reads.1)

pub returns-clause-table : goal.returns-clause-table
returns-clause-table c = puts_both (puts_closed refl c.in_ok-_colon.ensures.took) c.in_ok-pred.ensures.table
