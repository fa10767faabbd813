use Rattle.std.proofs.Common.{◌≡◌, Err, rules, refl}
use Rattle.gr_grammar.specs.Grammars.{run_both}
use Rattle.gr_reader.proofs.Steps.{then_stops, skip_run}
use Rattle.gr_feats.proofs.TableLemmas.{puts_both, puts_skip}
use Rattle.sm_input.proofs.literals.next_arg.Goals as goal

pub returns-in_err-next-clause-reads : goal.returns-in_err-next-clause-reads
returns-in_err-next-clause-reads c =
    let e : c.from_residual.result ≡ Err c.in_err-next.field-0.0 = search rules in
    rw e (then_stops (skip_run _ c.skip-comma.ensures) c.in_err-next.ensures.reads)

pub returns-clause-reads : goal.returns-clause-reads
returns-clause-reads c = (run_both (skip_run _ c.skip-comma.ensures) c.in_ok-next.ensures.reads.0, c.in_ok-next.ensures.reads.1)

pub returns-clause-table : goal.returns-clause-table
returns-clause-table c = puts_both (puts_skip _ refl c.skip-comma.ensures) c.in_ok-next.ensures.table
