use Rattle.std.proofs.Common.{◌≡◌, Err, rules, ap, length, arith, refl}
use Rattle.gr_symbols.proofs.NumberLemmas.{Grows-trans}
use Rattle.gr_grammar.specs.Grammars.{run_both}
use Rattle.gr_reader.proofs.Steps.{first_stops, then_stops, token_run, token_stops}
use Rattle.gr_feats.proofs.TableLemmas.{puts_both, puts_closed}
use Rattle.sm_input.proofs.inputs.raw_input.Goals as goal

pub returns-in_err-_word-clause-reads : goal.returns-in_err-_word-clause-reads
returns-in_err-_word-clause-reads c =
    let e : c.from_residual.result ≡ Err c.in_err-_word.field-0.0 = search rules in
    rw e (first_stops (token_stops c.in_err-_word.ensures.0 c.in_err-_word.ensures.1))

pub returns-in_err-name-clause-reads : goal.returns-in_err-name-clause-reads
returns-in_err-name-clause-reads c =
    let e : c.from_residual-in_err-name.result ≡ Err c.in_err-name.field-0.0 = search rules in
    rw e (then_stops (token_run c.in_ok-_word.ensures.took) (first_stops c.in_err-name.ensures.reads))

pub returns-in_err-start-clause-reads : goal.returns-in_err-start-clause-reads
returns-in_err-start-clause-reads c =
    let e : c.from_residual-in_err-start.result ≡ Err c.in_err-start.field-0.0 = search rules in
    rw e (then_stops (token_run c.in_ok-_word.ensures.took) (then_stops c.in_ok-name.ensures.reads.0 (first_stops c.in_err-start.ensures.reads)))

pub returns-in_err-_open-clause-reads : goal.returns-in_err-_open-clause-reads
returns-in_err-_open-clause-reads c =
    let e : c.from_residual-in_err-_open.result ≡ Err c.in_err-_open.field-0.0 = search rules in
    rw e (then_stops (token_run c.in_ok-_word.ensures.took) (then_stops c.in_ok-name.ensures.reads.0 (then_stops c.in_ok-start.ensures.reads.0
    (first_stops (token_stops c.in_err-_open.ensures.0 c.in_err-_open.ensures.1)))))

pub returns-in_err-literals-clause-reads : goal.returns-in_err-literals-clause-reads
returns-in_err-literals-clause-reads c =
    let e : c.from_residual-in_err-literals.result ≡ Err c.in_err-literals.field-0.0 = search rules in
    rw e (then_stops (token_run c.in_ok-_word.ensures.took) (then_stops c.in_ok-name.ensures.reads.0 (then_stops c.in_ok-start.ensures.reads.0
    (then_stops (token_run c.in_ok-_open.ensures.took) c.in_err-literals.ensures.reads))))

pub returns-clause-reads : goal.returns-clause-reads
returns-clause-reads c = (
  run_both (token_run c.in_ok-_word.ensures.took) (run_both c.in_ok-name.ensures.reads.0 (run_both c.in_ok-start.ensures.reads.0 (run_both (token_run c.in_ok-_open.ensures.took) c.in_ok-literals.ensures.reads.0))),
  λ later grows apart.
      let behind_start = Grows-trans _ _ later c.in_ok-literals.ensures.passes.grows grows in
      let behind_name = Grows-trans _ _ later c.in_ok-start.ensures.passes.grows behind_start in
      record {
        left = c.left-left.ensures;
        name = c.in_ok-name.ensures.reads.1 later behind_name;
        start = c.in_ok-start.ensures.reads.1 later behind_start;
        literals = c.in_ok-literals.ensures.reads.1 later grows apart;
      },
)

pub returns-clause-spare : goal.returns-clause-spare
returns-clause-spare c =
    let a = ap length c.in_ok-_word.ensures.took.split in
    let b = c.in_ok-name.ensures.passes.few in
    let d = c.in_ok-start.ensures.passes.few in
    let o = ap length c.in_ok-_open.ensures.took.split in
    let l = c.in_ok-literals.ensures.spare in
    omega (arith, a, b, d, o, l)

pub returns-clause-table : goal.returns-clause-table
returns-clause-table c = puts_both (puts_closed refl c.in_ok-_word.ensures.took) (puts_both (c.in_ok-name.ensures.table refl) (puts_both c.in_ok-start.ensures.table (puts_both (puts_closed refl c.in_ok-_open.ensures.took) c.in_ok-literals.ensures.table)))
