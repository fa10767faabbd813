use Rattle.std.proofs.Common.{rules, ◌≡◌, Err, ◌∙◌}
use Rattle.gr_grammar.specs.Grammars.{run_both}
use Rattle.mg_reader.specs.Values.{ref_with}
use Rattle.mg_reader.proofs.Steps.{first_stops, then_stops}
use Rattle.mg_reader.proofs.cursor.Cursor.reference.Goals as goal

pub returns-in_err-first : goal.returns-in_err-first
returns-in_err-first c = let e : c.from_residual.result ≡ Err c.in_err-first.field-0.0 = search rules in rw e ((first_stops c.in_err-first.ensures))

pub returns-in_err-second : goal.returns-in_err-second
returns-in_err-second c = let e : c.from_residual-in_err-second.result ≡ Err c.in_err-second.field-0.0 = search rules in rw e ((then_stops c.in_ok-first.ensures.0 c.in_err-second.ensures))

pub returns : goal.returns
returns c = ((run_both c.in_ok-first.ensures.0 c.in_ok-second.ensures.0), c.ref_with.ensures ∙ (λ i. ref_with (c.in_ok-first.ensures.1 i).name (c.in_ok-second.ensures.1 i)))
