use Rattle.std.proofs.Common.{rules, ◌≡◌, Err, ◌∙◌}
use Rattle.gr_grammar.specs.Grammars.{run_both}
use Rattle.mg_reader.specs.Values.{literal_with}
use Rattle.mg_reader.proofs.Steps.{first_stops, then_stops}
use Rattle.mg_reader.proofs.cursor.Cursor.literal.Goals as goal

pub returns-in_err-first : goal.returns-in_err-first
returns-in_err-first c = let e : c.from_residual.result ≡ Err c.in_err-first.field-0.0 = search rules in rw e ((first_stops c.in_err-first.ensures))

pub returns-in_err-predicate : goal.returns-in_err-predicate
returns-in_err-predicate c = let e : c.from_residual-in_err-predicate.result ≡ Err c.in_err-predicate.field-0.0 = search rules in rw e ((then_stops c.in_ok-first.ensures.0 (first_stops c.in_err-predicate.ensures)))

pub returns-in_err-_open : goal.returns-in_err-_open
returns-in_err-_open c = let e : c.from_residual-in_err-_open.result ≡ Err c.in_err-_open.field-0.0 = search rules in rw e ((then_stops c.in_ok-first.ensures.0 (then_stops c.in_ok-predicate.ensures.0 (first_stops c.in_err-_open.ensures))))

pub returns-in_err-args : goal.returns-in_err-args
returns-in_err-args c = let e : c.from_residual-in_err-args.result ≡ Err c.in_err-args.field-0.0 = search rules in rw e ((then_stops c.in_ok-first.ensures.0 (then_stops c.in_ok-predicate.ensures.0 (then_stops c.in_ok-_open.ensures.0 (first_stops c.in_err-args.ensures)))))

pub returns-in_err-_close : goal.returns-in_err-_close
returns-in_err-_close c = let e : c.from_residual-in_err-_close.result ≡ Err c.in_err-_close.field-0.0 = search rules in rw e ((then_stops c.in_ok-first.ensures.0 (then_stops c.in_ok-predicate.ensures.0 (then_stops c.in_ok-_open.ensures.0 (then_stops c.in_ok-args.ensures.0 c.in_err-_close.ensures)))))

pub returns : goal.returns
returns c = ((run_both c.in_ok-first.ensures.0 (run_both c.in_ok-predicate.ensures.0 (run_both c.in_ok-_open.ensures.0 (run_both c.in_ok-args.ensures.0 c.in_ok-_close.ensures.0)))), c.literal_with.ensures ∙ (λ i. literal_with (c.in_ok-first.ensures.1 i) (c.in_ok-predicate.ensures.1 i) (c.in_ok-args.ensures.1 i)))
