use Rattle.std.proofs.Common.{◌≡◌, false, true, Err, refl, rules, ap, length}
use Rattle.std.specs.Prelude.{codes}
use Rattle.gr_grammar.specs.Grammars.{begins}
use Rattle.gr_grammar.proofs.Loops.{ended}
use Rattle.gr_reader.specs.Classes.{keyword, flat}
use Rattle.gr_reader.specs.declared.reader.Stop.TheVariants.{Memory as NoMemory}
use Rattle.gr_reader.proofs.Steps.{row_stops, memory_stops}
use Rattle.gr_feats.proofs.PassingLemmas.{texts_then}
use Rattle.gr_feats.proofs.ReadingLemmas.{begins_token, shorter}
use Rattle.sm_input.specs.Grammars.{input_text}
use Rattle.sm_input.proofs.Rows.{none_read, read_more, all_read}
use Rattle.sm_input.proofs.inputs.inputs.Goals as goal

pub row-init : goal.row-init
row-init c = none_read _ _ _ _ c.new-row.ensures.items

pub returns-in_err-next-clause-reads : goal.returns-in_err-next-clause-reads
returns-in_err-next-clause-reads c =
    let e : c.from_residual.result ≡ Err c.in_err-next.field-0.0 = search rules in
    let b : begins flat input_text c.row.reader ≡ true = begins_token (keyword (codes "input")) c.row.reader c.sees.ensures c.row-test.true in
    rw e (row_stops c.row.invariant.rounds b c.in_err-next.ensures.reads)

pub returns-in_err-_next-clause-reads : goal.returns-in_err-_next-clause-reads
returns-in_err-_next-clause-reads c =
    let e : c.from_residual-in_err-_next.result ≡ Err NoMemory = search rules in
    rw e (memory_stops refl)

pub returns-in_err-next-clause-passes : goal.returns-in_err-next-clause-passes
returns-in_err-next-clause-passes c = texts_then c.row.invariant.passes c.in_err-next.ensures.passes

pub returns-in_err-_next-clause-passes : goal.returns-in_err-_next-clause-passes
returns-in_err-_next-clause-passes c = texts_then c.row.invariant.passes c.in_ok-next.ensures.passes

pub row-smaller : goal.row-smaller
row-smaller c = shorter refl c.in_ok-next.ensures.reads.0

pub row-preserved : goal.row-preserved
row-preserved c =
    let b : begins flat input_text c.row.reader ≡ true = begins_token (keyword (codes "input")) c.row.reader c.sees.ensures c.row-test.true in
    read_more _ _ _ _ _ _ _ _ _ _ _ _ _ c.row.invariant b c.in_ok-next.ensures.reads.0 c.in_ok-next.ensures.passes (ap length c.as_slice.ensures.value) c.in_ok-next.ensures.reads.1 c.in_ok-next.ensures.table c.in_ok-_next.ensures

pub returns-clause-reads : goal.returns-clause-reads
returns-clause-reads c =
    let b : begins flat input_text c.row.reader ≡ false = begins_token (keyword (codes "input")) c.row.reader c.sees.ensures c.row-test.false in
    (ended c.row.invariant.rounds b, all_read _ _ _ _ _ _ _ c.row.invariant b)

pub returns-clause-passes : goal.returns-clause-passes
returns-clause-passes c = c.row.invariant.passes

pub returns-clause-table : goal.returns-clause-table
returns-clause-table c = c.row.invariant.table
