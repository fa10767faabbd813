use Rattle.std.proofs.Common.{◌≡◌, Err, rules, sym, ap, subst, length, arith, refl}
use Rattle.gr_symbols.proofs.NumberLemmas.{Grows-trans}
use Rattle.gr_grammar.specs.Grammars.{run_both}
use Rattle.gr_reader.proofs.Steps.{first_stops, then_stops, token_run, token_stops}
use Rattle.sm_input.specs.Reading.{IsRawLiteral}
use Rattle.sm_input.proofs.RawLemmas.{literal_raw}
use Rattle.gr_feats.proofs.TableLemmas.{puts_both, puts_closed}
use Rattle.sm_input.proofs.literals.literal.Goals as goal

pub returns-in_err-first-clause-reads : goal.returns-in_err-first-clause-reads
returns-in_err-first-clause-reads c =
    let e : c.from_residual.result ≡ Err c.in_err-first.field-0.0 = search rules in
    rw e (first_stops c.in_err-first.ensures.reads)

pub returns-in_err-second-clause-reads : goal.returns-in_err-second-clause-reads
returns-in_err-second-clause-reads c =
    let e : c.from_residual-in_err-second.result ≡ Err c.in_err-second.field-0.0 = search rules in
    rw e (then_stops c.in_ok-first.ensures.reads.0 (first_stops c.in_err-second.ensures.reads))

pub returns-in_err-_open-clause-reads : goal.returns-in_err-_open-clause-reads
returns-in_err-_open-clause-reads c =
    let e : c.from_residual-in_err-_open.result ≡ Err c.in_err-_open.field-0.0 = search rules in
    rw e (then_stops c.in_ok-first.ensures.reads.0 (then_stops c.in_ok-second.ensures.reads.0 (first_stops (token_stops c.in_err-_open.ensures.0 c.in_err-_open.ensures.1))))

pub returns-in_err-args-clause-reads : goal.returns-in_err-args-clause-reads
returns-in_err-args-clause-reads c =
    let e : c.from_residual-in_err-args.result ≡ Err c.in_err-args.field-0.0 = search rules in
    rw e (then_stops c.in_ok-first.ensures.reads.0 (then_stops c.in_ok-second.ensures.reads.0 (then_stops (token_run c.in_ok-_open.ensures.took) (first_stops c.in_err-args.ensures.reads))))

pub returns-in_err-_close-clause-reads : goal.returns-in_err-_close-clause-reads
returns-in_err-_close-clause-reads c =
    let e : c.from_residual-in_err-_close.result ≡ Err c.in_err-_close.field-0.0 = search rules in
    rw e (then_stops c.in_ok-first.ensures.reads.0 (then_stops c.in_ok-second.ensures.reads.0 (then_stops (token_run c.in_ok-_open.ensures.took)
    (then_stops c.in_ok-args.ensures.reads.0 (token_stops c.in_err-_close.ensures.0 c.in_err-_close.ensures.1)))))

pub returns-clause-reads : goal.returns-clause-reads
returns-clause-reads c = (
  run_both c.in_ok-first.ensures.reads.0 (run_both c.in_ok-second.ensures.reads.0 (run_both (token_run c.in_ok-_open.ensures.took) (run_both c.in_ok-args.ensures.reads.0 (token_run c.in_ok-_close.ensures.took)))),
  λ later grows.
      let behind_second = Grows-trans _ _ later c.in_ok-args.ensures.passes.grows grows in
      let behind_first = Grows-trans _ _ later c.in_ok-second.ensures.passes.grows behind_second in
      subst (IsRawLiteral later _) (sym c.raw_literal.ensures)
      (literal_raw later _ _ _ _ _ _ (c.in_ok-first.ensures.reads.1 later behind_first) (c.in_ok-second.ensures.reads.1 later behind_second) (c.in_ok-args.ensures.reads.1 later grows)),
)

-- the two brackets have no number
pub returns-clause-spare : goal.returns-clause-spare
returns-clause-spare c =
    let a = c.in_ok-first.ensures.passes.few in
    let b = c.in_ok-second.ensures.passes.few in
    let o = ap length c.in_ok-_open.ensures.took.split in
    let d = c.in_ok-args.ensures.passes.few in
    let e = ap length c.in_ok-_close.ensures.took.split in
    omega (arith, a, b, o, d, e)

pub returns-clause-table : goal.returns-clause-table
returns-clause-table c = puts_both c.in_ok-first.ensures.table (puts_both c.in_ok-second.ensures.table (puts_both (puts_closed refl c.in_ok-_open.ensures.took) (puts_both c.in_ok-args.ensures.table (puts_closed refl c.in_ok-_close.ensures.took))))
