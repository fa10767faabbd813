use Rattle.std.proofs.Common.{◌≡◌, false, true, Err, refl, rules}
use Rattle.std.specs.Prelude.{codes}
use Rattle.gr_base.proofs.Zips.{AllZip-none, AllZip-pushed}
use Rattle.gr_grammar.specs.Grammars.{begins}
use Rattle.gr_reader.specs.Classes.{keyword, flat}
use Rattle.gr_reader.specs.declared.reader.Stop.TheVariants.{Memory as NoMemory}
use Rattle.gr_reader.proofs.Steps.{row_stops, memory_stops}
use Rattle.gr_feats.specs.Numberings.{none_met}
use Rattle.gr_feats.proofs.PassingLemmas.{pass_texts}
use Rattle.gr_feats.proofs.ReadingLemmas.{begins_token, shorter, ReadsOn-start, ReadsOn-more}
use Rattle.lx_lexicon.specs.Grammars.{coanchor_text, coanchor_of}
use Rattle.lx_lexicon.specs.Reading.{IsCoanchor, AreCoanchors}
use Rattle.lx_lexicon.proofs.Rows.{row_ended}
use Rattle.lx_lexicon.proofs.parts.coanchors.Goals as goal

pub row-init : goal.row-init
row-init c = ReadsOn-start coanchor_text (λ ts rest m. coanchor_of m) (λ texts ws x. AreCoanchors texts ws x.0) _ _ _

pub returns-in_err-next-clause-reads : goal.returns-in_err-next-clause-reads
returns-in_err-next-clause-reads c =
    let e : c.from_residual.result ≡ Err c.in_err-next.field-0.0 = search rules in
    let b : begins flat coanchor_text c.row.reader ≡ true = begins_token (keyword (codes "coanchor")) c.row.reader c.sees.ensures c.row-test.true in
    rw e (row_stops c.row.invariant.rounds b c.in_err-next.ensures.reads)

pub returns-in_err-_next-clause-reads : goal.returns-in_err-_next-clause-reads
returns-in_err-_next-clause-reads c =
    let e : c.from_residual-in_err-_next.result ≡ Err NoMemory = search rules in
    rw e (memory_stops refl)

pub row-smaller : goal.row-smaller
row-smaller c = shorter refl c.in_ok-next.ensures.reads.0

pub row-preserved : goal.row-preserved
row-preserved c =
    let b : begins flat coanchor_text c.row.reader ≡ true = begins_token (keyword (codes "coanchor")) c.row.reader c.sees.ensures c.row-test.true in
    ReadsOn-more coanchor_text (λ ts rest m. coanchor_of m) (λ texts ws x. AreCoanchors texts ws x.0) _ _ _ _ _ (_, none_met) _ _ (_, none_met)
    c.row.invariant b c.in_ok-next.ensures.reads.0 (pass_texts c.in_ok-next.ensures.passes) c.in_ok-next.ensures.table
    (λ ws later grows h. AllZip-pushed (IsCoanchor later) ws _ _ _ _ h (c.in_ok-next.ensures.reads.1 later grows) c.in_ok-_next.ensures.ok)

pub returns-clause-reads : goal.returns-clause-reads
returns-clause-reads c =
    let b : begins flat coanchor_text c.row.reader ≡ false = begins_token (keyword (codes "coanchor")) c.row.reader c.sees.ensures c.row-test.false in
    row_ended coanchor_text (λ ts rest m. coanchor_of m) (λ texts ws x. AreCoanchors texts ws x.0) _ _ _ _ _ _ c.row.invariant b (λ later. AllZip-none (IsCoanchor later) _ c.new-row.ensures)

pub returns-clause-table : goal.returns-clause-table
returns-clause-table c = c.row.invariant.puts
