use Rattle.std.proofs.Common.{◌≡◌, Err, true, false, rules}
use Rattle.gr_base.proofs.Zips.{AllZip-none}
use Rattle.gr_grammar.specs.Grammars.{begins, run_left, run_right, take_nothing}
use Rattle.gr_reader.specs.Classes.{flat}
use Rattle.gr_reader.proofs.Steps.{left_stops}
use Rattle.gr_feats.specs.Grammars.{args_text}
use Rattle.sm_input.specs.Reading.{IsRawTerm}
use Rattle.gr_feats.proofs.ReadingLemmas.{begins_term}
use Rattle.gr_feats.proofs.TableLemmas.{puts_left, puts_nothing}
use Rattle.sm_input.proofs.literals.perhaps_args.Goals as goal

pub returns-in_err-inner-clause-reads : goal.returns-in_err-inner-clause-reads
returns-in_err-inner-clause-reads c =
    let e : c.from_residual.result ≡ Err c.in_err-inner.field-0.0 = search rules in
    let b : begins flat args_text c.args.reader.now ≡ true = begins_term c.args.reader.now c.sees_term.ensures c.if-sees_term.true in
    rw e (left_stops b c.in_err-inner.ensures.reads)

pub returns-in_ok-inner-clause-reads : goal.returns-in_ok-inner-clause-reads
returns-in_ok-inner-clause-reads c =
    let b : begins flat args_text c.args.reader.now ≡ true = begins_term c.args.reader.now c.sees_term.ensures c.if-sees_term.true in
    (run_left b c.in_ok-inner.ensures.reads.0, c.in_ok-inner.ensures.reads.1)

pub returns-else-sees_term-clause-reads : goal.returns-else-sees_term-clause-reads
returns-else-sees_term-clause-reads c =
    let b : begins flat args_text c.args.reader.now ≡ false = begins_term c.args.reader.now c.sees_term.ensures c.if-sees_term.false in
    (run_right b take_nothing, λ later grows. AllZip-none (IsRawTerm later) _ c.new.ensures)

pub returns-in_ok-inner-clause-table : goal.returns-in_ok-inner-clause-table
returns-in_ok-inner-clause-table c = puts_left c.in_ok-inner.ensures.table

pub returns-else-sees_term-clause-table : goal.returns-else-sees_term-clause-table
returns-else-sees_term-clause-table c = puts_nothing
