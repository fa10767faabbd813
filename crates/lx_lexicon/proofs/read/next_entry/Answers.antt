use Rattle.std.proofs.Common.{◌≡◌, Err, refl, rules}
use Rattle.gr_symbols.proofs.NumberLemmas.{Grows-refl}
use Rattle.gr_grammar.specs.Grammars.{tree_of}
use Rattle.gr_reader.specs.declared.reader.Stop.TheVariants.{Memory as NoMemory}
use Rattle.gr_reader.proofs.Steps.{memory_stops}
use Rattle.lx_lexicon.specs.Grammars.{entry_of}
use Rattle.lx_lexicon.proofs.NoteLemmas.{lemma_within, coanchors_within}
use Rattle.lx_lexicon.proofs.read.next_entry.Goals as goal

pub returns-in_err-found-clause-reads : goal.returns-in_err-found-clause-reads
returns-in_err-found-clause-reads c =
    let e : c.from_residual.result ≡ Err c.in_err-found.field-0.0 = search rules in
    rw e c.in_err-found.ensures.reads

pub returns-in_err-next-clause-reads : goal.returns-in_err-next-clause-reads
returns-in_err-next-clause-reads c =
    let e : c.from_residual-in_err-next.result ≡ Err NoMemory = search rules in
    rw e (memory_stops refl)

pub accepted-requires-clause-lemma : goal.accepted-requires-clause-lemma
accepted-requires-clause-lemma c = lemma_within c.entry.new.symbols (entry_of (tree_of c.in_ok-found.ensures.reads.0)) _ (c.in_ok-found.ensures.reads.1 _ (Grows-refl _))

pub accepted-requires-clause-coanchors : goal.accepted-requires-clause-coanchors
accepted-requires-clause-coanchors c = coanchors_within c.entry.new.symbols (entry_of (tree_of c.in_ok-found.ensures.reads.0)) _ (c.in_ok-found.ensures.reads.1 _ (Grows-refl _))

pub returns-clause-reads : goal.returns-clause-reads
returns-clause-reads c =
    let w = entry_of (tree_of c.in_ok-found.ensures.reads.0) in (
      c.in_ok-found.ensures.reads.0,
      (λ later g. c.in_ok-next.ensures.entry later w (c.in_ok-found.ensures.reads.1 later g), c.in_ok-next.ensures.noted w (c.in_ok-found.ensures.reads.1 _ (Grows-refl _))),
    )

pub returns-clause-table : goal.returns-clause-table
returns-clause-table c = c.in_ok-found.ensures.table
