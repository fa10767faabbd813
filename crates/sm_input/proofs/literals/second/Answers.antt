use Rattle.std.proofs.Common.{◌≡◌, Err, rules}
use Rattle.std.specs.Prelude.{codes}
use Rattle.gr_grammar.specs.Grammars.{run_left, run_right, take_nothing}
use Rattle.gr_reader.specs.Classes.{sign}
use Rattle.gr_reader.proofs.Steps.{left_stops}
use Rattle.gr_feats.proofs.ReadingLemmas.{begins_token}
use Rattle.gr_feats.proofs.TableLemmas.{puts_left, puts_nothing}
use Rattle.sm_input.proofs.literals.second.Goals as goal

pub returns-in_err-pred-clause-reads : goal.returns-in_err-pred-clause-reads
returns-in_err-pred-clause-reads c =
    let e : c.from_residual.result ≡ Err c.in_err-pred.field-0.0 = search rules in
    rw e (left_stops (begins_token (sign (codes ":")) c.args.reader.now c.sees.ensures c.if-sees.true) c.in_err-pred.ensures.reads)

pub returns-in_ok-pred-clause-reads : goal.returns-in_ok-pred-clause-reads
returns-in_ok-pred-clause-reads c = (run_left (begins_token (sign (codes ":")) c.args.reader.now c.sees.ensures c.if-sees.true) c.in_ok-pred.ensures.reads.0, c.in_ok-pred.ensures.reads.1)

pub returns-else-sees-clause-reads : goal.returns-else-sees-clause-reads
returns-else-sees-clause-reads c = (run_right (begins_token (sign (codes ":")) c.args.reader.now c.sees.ensures c.if-sees.false) take_nothing, λ later g. tt)

pub returns-in_ok-pred-clause-table : goal.returns-in_ok-pred-clause-table
returns-in_ok-pred-clause-table c = puts_left c.in_ok-pred.ensures.table

pub returns-else-sees-clause-table : goal.returns-else-sees-clause-table
returns-else-sees-clause-table c = puts_nothing
