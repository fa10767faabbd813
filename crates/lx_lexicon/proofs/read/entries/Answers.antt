use Rattle.std.proofs.Common.{◌≡◌, false, true, Err, refl, rules, ◌∙◌, ap, sym}
use Rattle.std.specs.Prelude.{codes}
use Rattle.gr_base.proofs.Zips.{AllZip-none, AllZip-pushed}
use Rattle.gr_symbols.proofs.NumberLemmas.{Grows-refl}
use Rattle.gr_grammar.specs.Grammars.{begins, tree_of}
use Rattle.gr_reader.specs.Classes.{keyword, flat}
use Rattle.gr_reader.specs.Complaints.{all_noted}
use Rattle.gr_reader.specs.declared.reader.Stop.TheVariants.{Memory as NoMemory}
use Rattle.gr_reader.proofs.Steps.{row_stops, memory_stops}
use Rattle.gr_feats.specs.Numberings.{none_met}
use Rattle.gr_feats.proofs.PassingLemmas.{pass_texts}
use Rattle.gr_feats.proofs.ReadingLemmas.{begins_token, shorter, ReadsOn-start, ReadsOn-more}
use Rattle.lx_lexicon.specs.Complaints.{lexicon_bad, entry_bad}
use Rattle.lx_lexicon.specs.Entries.{IsEntry}
use Rattle.lx_lexicon.specs.Grammars.{entry_text, entry_of}
use Rattle.lx_lexicon.proofs.Rows.{row_ended}
use Rattle.lx_lexicon.proofs.NoteLemmas.{AreNoted, noted_then, lexicon_more}
use Rattle.lx_lexicon.proofs.read.entries.Goals as goal

pub row-init : goal.row-init
row-init c = ReadsOn-start entry_text (λ ts rest m. entry_of m) (AreNoted c.args.complaints.now) _ _ _

pub returns-in_err-next-clause-reads : goal.returns-in_err-next-clause-reads
returns-in_err-next-clause-reads c =
    let e : c.from_residual.result ≡ Err c.in_err-next.field-0.0 = search rules in
    let b : begins flat entry_text c.row.reader ≡ true = begins_token (keyword (codes "entry")) c.row.reader c.sees.ensures c.row-test.true in
    rw e (row_stops c.row.invariant.rounds b c.in_err-next.ensures.reads)

pub returns-in_err-_next-clause-reads : goal.returns-in_err-_next-clause-reads
returns-in_err-_next-clause-reads c =
    let e : c.from_residual-in_err-_next.result ≡ Err NoMemory = search rules in
    rw e (memory_stops refl)

pub row-smaller : goal.row-smaller
row-smaller c = shorter refl c.in_ok-next.ensures.reads.0

pub row-preserved : goal.row-preserved
row-preserved c =
    let b : begins flat entry_text c.row.reader ≡ true = begins_token (keyword (codes "entry")) c.row.reader c.sees.ensures c.row-test.true in
    let w = entry_of (tree_of c.in_ok-next.ensures.reads.0) in
    ReadsOn-more entry_text (λ ts rest m. entry_of m) (AreNoted c.args.complaints.now) _ _ _ _ _ (_, none_met) _ _ (_, none_met)
    c.row.invariant b c.in_ok-next.ensures.reads.0 (pass_texts c.in_ok-next.ensures.passes) c.in_ok-next.ensures.table
    (λ ws later grows h. (
      AllZip-pushed (IsEntry later) ws _ _ w _ h.0 (c.in_ok-next.ensures.reads.1.0 later grows) c.in_ok-_next.ensures.ok,
      noted_then c.args.complaints.now _ _ (lexicon_bad ws) (entry_bad w) h.1 c.in_ok-next.ensures.reads.1.1 ∙ ap (all_noted c.args.complaints.now) (sym (lexicon_more ws w)),
    ))

pub returns-clause-reads : goal.returns-clause-reads
returns-clause-reads c =
    let b : begins flat entry_text c.row.reader ≡ false = begins_token (keyword (codes "entry")) c.row.reader c.sees.ensures c.row-test.false in
    let p = row_ended entry_text (λ ts rest m. entry_of m) (AreNoted c.args.complaints.now) _ _ _ _ _ _ c.row.invariant b (λ later. (AllZip-none (IsEntry later) _ c.new-lexicon.ensures, refl)) in
    (p.0, (λ later grows. (p.1 later grows).0, (p.1 c.row.symbols (Grows-refl c.row.symbols)).1))

pub returns-clause-table : goal.returns-clause-table
returns-clause-table c = c.row.invariant.puts
