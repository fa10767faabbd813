use Rattle.std.proofs.Common.{◌≡◌, Err, true, false, rules}
use Rattle.std.specs.Prelude.{codes}
use Rattle.gr_grammar.specs.Grammars.{begins, run_left, run_right, take_nothing}
use Rattle.gr_reader.specs.Classes.{sign, flat}
use Rattle.gr_reader.proofs.Steps.{left_stops}
use Rattle.gr_feats.specs.Grammars.{bag_text}
use Rattle.gr_feats.specs.Numberings.{none_met}
use Rattle.gr_feats.proofs.ReadingLemmas.{begins_token, IsBag-none}
use Rattle.gr_feats.proofs.TableLemmas.{puts_left, puts_nothing}
use Rattle.sm_input.proofs.inputs.perhaps_bag.Goals as goal

pub returns-in_err-inner-clause-reads : goal.returns-in_err-inner-clause-reads
returns-in_err-inner-clause-reads c =
    let e : c.from_residual.result ≡ Err c.in_err-inner.field-0.0 = search rules in
    let b : begins flat bag_text c.args.reader.now ≡ true = begins_token (sign (codes "[")) c.args.reader.now c.sees.ensures c.if-sees.true in
    rw e (left_stops b c.in_err-inner.ensures.reads)

pub returns-in_ok-inner-clause-reads : goal.returns-in_ok-inner-clause-reads
returns-in_ok-inner-clause-reads c =
    let b : begins flat bag_text c.args.reader.now ≡ true = begins_token (sign (codes "[")) c.args.reader.now c.sees.ensures c.if-sees.true in
    (run_left b c.in_ok-inner.ensures.reads.0, c.in_ok-inner.ensures.reads.1)

pub returns-else-sees-clause-reads : goal.returns-else-sees-clause-reads
returns-else-sees-clause-reads c =
    let b : begins flat bag_text c.args.reader.now ≡ false = begins_token (sign (codes "[")) c.args.reader.now c.sees.ensures c.if-sees.false in
    (run_right b take_nothing, λ later grows. (none_met, IsBag-none later none_met _ c.new.ensures))

pub returns-in_ok-inner-clause-table : goal.returns-in_ok-inner-clause-table
returns-in_ok-inner-clause-table c = puts_left c.in_ok-inner.ensures.table

pub returns-else-sees-clause-table : goal.returns-else-sees-clause-table
returns-else-sees-clause-table c = puts_nothing
