use Rattle.std.proofs.Common.{◌≡◌, Err, rules, refl}
use Rattle.gr_symbols.proofs.NumberLemmas.{Grows-trans}
use Rattle.gr_grammar.specs.Grammars.{run_both}
use Rattle.gr_reader.proofs.Steps.{first_stops, then_stops, token_run, token_stops}
use Rattle.gr_feats.proofs.TableLemmas.{puts_both, puts_closed}
use Rattle.lx_lexicon.proofs.parts.head.Goals as goal

pub returns-in_err-_word-clause-reads : goal.returns-in_err-_word-clause-reads
returns-in_err-_word-clause-reads c =
    let e : c.from_residual.result ≡ Err c.in_err-_word.field-0.0 = search rules in
    rw e (first_stops (token_stops c.in_err-_word.ensures.0 c.in_err-_word.ensures.1))

pub returns-in_err-lemma-clause-reads : goal.returns-in_err-lemma-clause-reads
returns-in_err-lemma-clause-reads c =
    let e : c.from_residual-in_err-lemma.result ≡ Err c.in_err-lemma.field-0.0 = search rules in
    rw e (then_stops (token_run c.in_ok-_word.ensures.took) (first_stops c.in_err-lemma.ensures.reads))

pub returns-in_err-family-clause-reads : goal.returns-in_err-family-clause-reads
returns-in_err-family-clause-reads c =
    let e : c.from_residual-in_err-family.result ≡ Err c.in_err-family.field-0.0 = search rules in
    rw e (then_stops (token_run c.in_ok-_word.ensures.took) (then_stops c.in_ok-lemma.ensures.reads.0 c.in_err-family.ensures.reads))

pub returns-clause-reads : goal.returns-clause-reads
returns-clause-reads c = (
  run_both (token_run c.in_ok-_word.ensures.took) (run_both c.in_ok-lemma.ensures.reads.0 c.in_ok-family.ensures.reads.0),
  λ later g. record {
    left = c.left-left.ensures;
    lemma = c.in_ok-lemma.ensures.reads.1 later (Grows-trans _ _ later c.in_ok-family.ensures.passes.grows g);
    family = c.in_ok-family.ensures.reads.1 later g;
  },
)

pub returns-clause-table : goal.returns-clause-table
returns-clause-table c = puts_both (puts_closed refl c.in_ok-_word.ensures.took) (puts_both c.in_ok-lemma.ensures.table (c.in_ok-family.ensures.table refl))
