use Rattle.std.proofs.Common.{◌≡◌, Err, rules, refl}
use Rattle.gr_grammar.specs.Grammars.{run_left, run_right}
use Rattle.gr_reader.specs.Classes.{any_name}
use Rattle.gr_reader.proofs.Steps.{left_stops, right_stops}
use Rattle.gr_feats.proofs.ReadingLemmas.{begins_token}
use Rattle.gr_feats.proofs.TableLemmas.{puts_left, puts_right}
use Rattle.gr_feats.proofs.terms.read_side.Goals as goal

pub returns-in_err-name-clause-reads : goal.returns-in_err-name-clause-reads
returns-in_err-name-clause-reads c =
    let e : c.from_residual.result ≡ Err c.in_err-name.field-0.0 = search rules in
    rw e (left_stops (begins_token any_name c.args.reader.now c.sees.ensures c.if-sees.true) c.in_err-name.ensures.reads)

pub returns-in_err-name-2-clause-reads : goal.returns-in_err-name-2-clause-reads
returns-in_err-name-2-clause-reads c =
    let e : c.from_residual-in_err-name-2.result ≡ Err c.in_err-name-2.field-0.0 = search rules in
    rw e (right_stops (begins_token any_name c.args.reader.now c.sees.ensures c.if-sees.false) c.in_err-name-2.ensures.reads)

pub returns-in_ok-name-clause-reads : goal.returns-in_ok-name-clause-reads
returns-in_ok-name-clause-reads c = (run_left (begins_token any_name c.args.reader.now c.sees.ensures c.if-sees.true) c.in_ok-name.ensures.reads.0, c.in_ok-name.ensures.reads.1)

pub returns-in_ok-name-2-clause-reads : goal.returns-in_ok-name-2-clause-reads
returns-in_ok-name-2-clause-reads c = (run_right (begins_token any_name c.args.reader.now c.sees.ensures c.if-sees.false) c.in_ok-name-2.ensures.reads.0, c.in_ok-name-2.ensures.reads.1)

pub returns-in_ok-name-clause-table : goal.returns-in_ok-name-clause-table
returns-in_ok-name-clause-table c = puts_left (c.in_ok-name.ensures.table refl)

pub returns-in_ok-name-2-clause-table : goal.returns-in_ok-name-2-clause-table
returns-in_ok-name-2-clause-table c = puts_right (c.in_ok-name-2.ensures.table refl)
