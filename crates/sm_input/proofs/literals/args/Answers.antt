use Rattle.std.proofs.Common.{◌≡◌, false, true, Err, refl, rules}
use Rattle.std.specs.Prelude.{codes}
use Rattle.gr_symbols.proofs.NumberLemmas.{Grows-trans}
use Rattle.gr_grammar.specs.Grammars.{begins, run_both, tree_of}
use Rattle.gr_grammar.proofs.Loops.{ended}
use Rattle.gr_reader.specs.Classes.{sign, flat}
use Rattle.gr_reader.specs.declared.reader.Stop.TheVariants.{Memory as NoMemory}
use Rattle.gr_reader.proofs.Steps.{first_stops, then_stops, row_stops, memory_stops}
use Rattle.gr_feats.specs.Grammars.{next_arg_text, next_arg_of, term_of}
use Rattle.std.specs.List.{AllZip}
use Rattle.gr_base.proofs.Zips.{AllZip-pushed}
use Rattle.gr_feats.proofs.PassingLemmas.{pass_texts, texts_then}
use Rattle.sm_input.specs.Reading.{IsRawTerm}
use Rattle.sm_input.proofs.RawLemmas.{zip_first}
use Rattle.gr_feats.proofs.ReadingLemmas.{begins_next, shorter, ReadsOn-start, ReadsOn-more, ReadsOn-end}
use Rattle.gr_feats.proofs.TableLemmas.{puts_both}
use Rattle.sm_input.proofs.literals.args.Goals as goal

pub returns-in_err-first-clause-reads : goal.returns-in_err-first-clause-reads
returns-in_err-first-clause-reads c =
    let e : c.from_residual.result ≡ Err c.in_err-first.field-0.0 = search rules in
    rw e (first_stops c.in_err-first.ensures.reads)

pub returns-in_err-_first-clause-reads : goal.returns-in_err-_first-clause-reads
returns-in_err-_first-clause-reads c =
    let e : c.from_residual-in_err-_first.result ≡ Err NoMemory = search rules in
    rw e (memory_stops refl)

pub row-init : goal.row-init
row-init c = ReadsOn-start next_arg_text (λ ts rest m. next_arg_of m) (λ texts ws x. AllZip (IsRawTerm texts) ws x.0) _ _ _

pub returns-in_err-next-clause-reads : goal.returns-in_err-next-clause-reads
returns-in_err-next-clause-reads c =
    let e : c.from_residual-in_err-next.result ≡ Err c.in_err-next.field-0.0 = search rules in
    let b : begins flat next_arg_text c.row.reader ≡ true = begins_next (sign (codes ",")) c.row.reader c.sees_or_term.ensures c.row-test.true in
    rw e (then_stops c.in_ok-first.ensures.reads.0 (row_stops c.row.invariant.rounds b c.in_err-next.ensures.reads))

pub returns-in_err-_next-clause-reads : goal.returns-in_err-_next-clause-reads
returns-in_err-_next-clause-reads c =
    let e : c.from_residual-in_err-_next.result ≡ Err NoMemory = search rules in
    rw e (memory_stops refl)

pub row-smaller : goal.row-smaller
row-smaller c = shorter refl c.in_ok-next.ensures.reads.0

pub row-preserved : goal.row-preserved
row-preserved c =
    let b : begins flat next_arg_text c.row.reader ≡ true = begins_next (sign (codes ",")) c.row.reader c.sees_or_term.ensures c.row-test.true in
    ReadsOn-more next_arg_text (λ ts rest m. next_arg_of m) (λ texts ws x. AllZip (IsRawTerm texts) ws x.0) _ _ _ _ _ _ _ _ _
    c.row.invariant b c.in_ok-next.ensures.reads.0 (pass_texts c.in_ok-next.ensures.passes) c.in_ok-next.ensures.table
    (λ ws later grows h. AllZip-pushed (IsRawTerm later) ws _ _ _ _ h (c.in_ok-next.ensures.reads.1 later grows) c.in_ok-_next.ensures.ok)

pub returns-clause-reads : goal.returns-clause-reads
returns-clause-reads c =
    let b : begins flat next_arg_text c.row.reader ≡ false = begins_next (sign (codes ",")) c.row.reader c.sees_or_term.ensures c.row-test.false in
    let w = term_of (tree_of c.in_ok-first.ensures.reads.0) in (
      run_both c.in_ok-first.ensures.reads.0 (ended c.row.invariant.rounds b),
      λ later grows. ReadsOn-end next_arg_text (λ ts rest m. next_arg_of m) (λ texts ws x. AllZip (IsRawTerm texts) ws x.0) _ _ _ _ _ _ c.row.invariant b w later grows
          (zip_first (IsRawTerm later) _ _ w _ c.new-row.ensures (c.in_ok-first.ensures.reads.1 later (Grows-trans _ _ later c.row.invariant.passes.texts.grows grows)) c.in_ok-_first.ensures.ok),
    )

pub returns-clause-passes : goal.returns-clause-passes
returns-clause-passes c = texts_then c.in_ok-first.ensures.passes c.row.invariant.passes.texts

pub returns-in_err-next-clause-passes : goal.returns-in_err-next-clause-passes
returns-in_err-next-clause-passes c = texts_then c.in_ok-first.ensures.passes (texts_then c.row.invariant.passes.texts c.in_err-next.ensures.passes)

pub returns-in_err-_next-clause-passes : goal.returns-in_err-_next-clause-passes
returns-in_err-_next-clause-passes c = texts_then c.in_ok-first.ensures.passes (texts_then c.row.invariant.passes.texts c.in_ok-next.ensures.passes)

pub returns-clause-table : goal.returns-clause-table
returns-clause-table c = puts_both c.in_ok-first.ensures.table c.row.invariant.puts
