use Rattle.std.proofs.Common.{◌≡◌, false, true, Err, refl, rules, length, ap, arith}
use Rattle.std.specs.Prelude.{codes}
use Rattle.gr_base.specs.Lists.{NoneTwice}
use Rattle.gr_symbols.proofs.NumberLemmas.{Grows-trans}
use Rattle.gr_grammar.specs.Grammars.{begins, run_both, tree_of}
use Rattle.gr_grammar.proofs.Loops.{ended}
use Rattle.gr_reader.specs.Classes.{sign, flat}
use Rattle.gr_reader.specs.declared.reader.Stop.TheVariants.{Memory as NoMemory}
use Rattle.gr_reader.proofs.Steps.{first_stops, then_stops, row_stops, memory_stops}
use Rattle.gr_feats.specs.Grammars.{next_literal_text, next_literal_of, literal_of}
use Rattle.gr_feats.proofs.PassingLemmas.{pass_texts, texts_then}
use Rattle.gr_feats.proofs.ReadingLemmas.{begins_next, shorter, ReadsOn-start, ReadsOn-more, ReadsOn-end}
use Rattle.sm_input.specs.Reading.{AreKept}
use Rattle.sm_input.proofs.KeptLemmas.{keeps_first, keeps_more, no_more_kept}
use Rattle.gr_feats.proofs.TableLemmas.{puts_both}
use Rattle.sm_input.proofs.literals.row.Goals as goal

pub returns-in_err-first-clause-reads : goal.returns-in_err-first-clause-reads
returns-in_err-first-clause-reads c =
    let e : c.from_residual.result ≡ Err c.in_err-first.field-0.0 = search rules in
    rw e (first_stops c.in_err-first.ensures.reads)

pub returns-in_err-_first-clause-reads : goal.returns-in_err-_first-clause-reads
returns-in_err-_first-clause-reads c =
    let e : c.from_residual-in_err-_first.result ≡ Err NoMemory = search rules in
    rw e (memory_stops refl)

pub row-init : goal.row-init
row-init c =
    let a = c.in_ok-first.ensures.spare in
    let k = no_more_kept _ _ _ c.in_ok-_first.ensures in
    let n = ap length c.new-row.ensures.items in
    (ReadsOn-start next_literal_text (λ ts rest m. next_literal_of m) (λ texts ws x. NoneTwice texts → AreKept texts ws x.0) _ _ _, omega (arith, a, k, n))

pub returns-in_err-next-clause-reads : goal.returns-in_err-next-clause-reads
returns-in_err-next-clause-reads c =
    let e : c.from_residual-in_err-next.result ≡ Err c.in_err-next.field-0.0 = search rules in
    let b : begins flat next_literal_text c.row.reader ≡ true = begins_next (sign (codes ";")) c.row.reader c.sees_or_term.ensures c.row-test.true in
    rw e (then_stops c.in_ok-first.ensures.reads.0 (row_stops c.row.invariant.0.rounds b c.in_err-next.ensures.reads))

pub returns-in_err-_next-clause-reads : goal.returns-in_err-_next-clause-reads
returns-in_err-_next-clause-reads c =
    let e : c.from_residual-in_err-_next.result ≡ Err NoMemory = search rules in
    rw e (memory_stops refl)

pub row-smaller : goal.row-smaller
row-smaller c = shorter refl c.in_ok-next.ensures.reads.0

pub row-preserved : goal.row-preserved
row-preserved c =
    let b : begins flat next_literal_text c.row.reader ≡ true = begins_next (sign (codes ";")) c.row.reader c.sees_or_term.ensures c.row-test.true in
    let a = c.in_ok-next.ensures.spare in
    let k = no_more_kept _ _ _ c.in_ok-_next.ensures in
    let n = c.row.invariant.1 in (
      ReadsOn-more next_literal_text (λ ts rest m. next_literal_of m) (λ texts ws x. NoneTwice texts → AreKept texts ws x.0) _ _ _ _ _ _ _ _ _
          c.row.invariant.0 b c.in_ok-next.ensures.reads.0 (pass_texts c.in_ok-next.ensures.passes) c.in_ok-next.ensures.table
          (λ ws later grows h apart. keeps_more later apart ws _ _ _ _ (h apart) (c.in_ok-next.ensures.reads.1 later grows) c.in_ok-_next.ensures),
      omega (arith, a, k, n),
    )

pub returns-clause-reads : goal.returns-clause-reads
returns-clause-reads c =
    let b : begins flat next_literal_text c.row.reader ≡ false = begins_next (sign (codes ";")) c.row.reader c.sees_or_term.ensures c.row-test.false in
    let w = literal_of (tree_of c.in_ok-first.ensures.reads.0) in (
      run_both c.in_ok-first.ensures.reads.0 (ended c.row.invariant.0.rounds b),
      λ later grows. ReadsOn-end next_literal_text (λ ts rest m. next_literal_of m) (λ texts ws x. NoneTwice texts → AreKept texts ws x.0) _ _ _ _ _ _ c.row.invariant.0 b w later grows
          (λ apart. keeps_first later apart w _ _ _ c.new-row.ensures.items (c.in_ok-first.ensures.reads.1 later (Grows-trans _ _ later c.row.invariant.0.passes.texts.grows grows)) c.in_ok-_first.ensures),
    )

pub returns-clause-spare : goal.returns-clause-spare
returns-clause-spare c = c.row.invariant.1

pub returns-clause-passes : goal.returns-clause-passes
returns-clause-passes c = texts_then c.in_ok-first.ensures.passes c.row.invariant.0.passes.texts

pub returns-in_err-next-clause-passes : goal.returns-in_err-next-clause-passes
returns-in_err-next-clause-passes c = texts_then c.in_ok-first.ensures.passes (texts_then c.row.invariant.0.passes.texts c.in_err-next.ensures.passes)

pub returns-in_err-_next-clause-passes : goal.returns-in_err-_next-clause-passes
returns-in_err-_next-clause-passes c = texts_then c.in_ok-first.ensures.passes (texts_then c.row.invariant.0.passes.texts c.in_ok-next.ensures.passes)

pub returns-clause-table : goal.returns-clause-table
returns-clause-table c = puts_both c.in_ok-first.ensures.table c.row.invariant.0.puts
