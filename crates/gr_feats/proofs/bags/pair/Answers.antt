use Rattle.std.proofs.Common.{◌≡◌, Err, rules, refl}
use Rattle.gr_symbols.proofs.NumberLemmas.{Grows-trans}
use Rattle.gr_grammar.specs.Grammars.{run_both}
use Rattle.gr_reader.proofs.Steps.{first_stops, then_stops, token_run, token_stops}
use Rattle.gr_feats.proofs.TableLemmas.{puts_both, puts_closed}
use Rattle.gr_feats.proofs.bags.pair.Goals as goal

pub returns-in_err-attr-clause-reads : goal.returns-in_err-attr-clause-reads
returns-in_err-attr-clause-reads c =
    let e : c.from_residual.result ≡ Err c.in_err-attr.field-0.0 = search rules in
    rw e (first_stops c.in_err-attr.ensures.reads)

pub returns-in_err-_equals-clause-reads : goal.returns-in_err-_equals-clause-reads
returns-in_err-_equals-clause-reads c =
    let e : c.from_residual-in_err-_equals.result ≡ Err c.in_err-_equals.field-0.0 = search rules in
    rw e (then_stops c.in_ok-attr.ensures.reads.0 (first_stops (token_stops c.in_err-_equals.ensures.0 c.in_err-_equals.ensures.1)))

pub returns-in_err-value-clause-reads : goal.returns-in_err-value-clause-reads
returns-in_err-value-clause-reads c =
    let e : c.from_residual-in_err-value.result ≡ Err c.in_err-value.field-0.0 = search rules in
    rw e (then_stops c.in_ok-attr.ensures.reads.0 (then_stops (token_run c.in_ok-_equals.ensures.took) c.in_err-value.ensures.reads))

pub returns-clause-reads : goal.returns-clause-reads
returns-clause-reads c = (
  run_both c.in_ok-attr.ensures.reads.0 (run_both (token_run c.in_ok-_equals.ensures.took) c.in_ok-value.ensures.reads.0),
  λ later g. record {
    attr = c.in_ok-attr.ensures.reads.1 later (Grows-trans _ _ later c.in_ok-value.ensures.passes.texts.grows g);
    value = c.in_ok-value.ensures.reads.1 later g;
    left = c.left-left.ensures;
  },
)

pub returns-clause-table : goal.returns-clause-table
returns-clause-table c = puts_both (c.in_ok-attr.ensures.table refl) (puts_both (puts_closed refl c.in_ok-_equals.ensures.took) c.in_ok-value.ensures.table)
