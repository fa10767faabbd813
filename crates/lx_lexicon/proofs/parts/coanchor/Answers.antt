use Rattle.std.proofs.Common.{◌≡◌, Err, rules, refl}
use Rattle.gr_symbols.proofs.NumberLemmas.{Grows-trans}
use Rattle.gr_grammar.specs.Grammars.{run_both}
use Rattle.gr_reader.proofs.Steps.{first_stops, then_stops, token_run, token_stops}
use Rattle.gr_feats.proofs.TableLemmas.{puts_both, puts_closed}
use Rattle.lx_lexicon.proofs.parts.coanchor.Goals as goal

pub returns-in_err-_word-clause-reads : goal.returns-in_err-_word-clause-reads
returns-in_err-_word-clause-reads c =
    let e : c.from_residual.result ≡ Err c.in_err-_word.field-0.0 = search rules in
    rw e (first_stops (token_stops c.in_err-_word.ensures.0 c.in_err-_word.ensures.1))

pub returns-in_err-name-clause-reads : goal.returns-in_err-name-clause-reads
returns-in_err-name-clause-reads c =
    let e : c.from_residual-in_err-name.result ≡ Err c.in_err-name.field-0.0 = search rules in
    rw e (then_stops (token_run c.in_ok-_word.ensures.took) (first_stops c.in_err-name.ensures.reads))

pub returns-in_err-_equals-clause-reads : goal.returns-in_err-_equals-clause-reads
returns-in_err-_equals-clause-reads c =
    let e : c.from_residual-in_err-_equals.result ≡ Err c.in_err-_equals.field-0.0 = search rules in
    rw e (then_stops (token_run c.in_ok-_word.ensures.took) (then_stops c.in_ok-name.ensures.reads.0 (first_stops (token_stops c.in_err-_equals.ensures.0 c.in_err-_equals.ensures.1))))

pub returns-in_err-lemma-clause-reads : goal.returns-in_err-lemma-clause-reads
returns-in_err-lemma-clause-reads c =
    let e : c.from_residual-in_err-lemma.result ≡ Err c.in_err-lemma.field-0.0 = search rules in
    rw e (then_stops (token_run c.in_ok-_word.ensures.took) (then_stops c.in_ok-name.ensures.reads.0 (then_stops (token_run c.in_ok-_equals.ensures.took) c.in_err-lemma.ensures.reads)))

pub returns-clause-reads : goal.returns-clause-reads
returns-clause-reads c = (
  run_both (token_run c.in_ok-_word.ensures.took) (run_both c.in_ok-name.ensures.reads.0 (run_both (token_run c.in_ok-_equals.ensures.took) c.in_ok-lemma.ensures.reads.0)),
  λ later g. record {
    name = c.in_ok-name.ensures.reads.1 later (Grows-trans _ _ later c.in_ok-lemma.ensures.passes.grows g);
    lemma = c.in_ok-lemma.ensures.reads.1 later g;
  },
)

pub returns-clause-table : goal.returns-clause-table
returns-clause-table c = puts_both (puts_closed refl c.in_ok-_word.ensures.took) (puts_both c.in_ok-name.ensures.table (puts_both (puts_closed refl c.in_ok-_equals.ensures.took) c.in_ok-lemma.ensures.table))
