use Rattle.std.proofs.Common.{rules, ◌≡◌, Err, ◌∙◌}
use Rattle.gr_grammar.specs.Grammars.{run_both}
use Rattle.mg_reader.specs.Values.{statement_with}
use Rattle.mg_reader.proofs.Steps.{first_stops, then_stops}
use Rattle.mg_reader.proofs.cursor.Cursor.variable.Goals as goal

pub returns-in_err-first : goal.returns-in_err-first
returns-in_err-first c = let e : c.from_residual.result ≡ Err c.in_err-first.field-0.0 = search rules in rw e ((first_stops c.in_err-first.ensures))

pub returns-in_err-after : goal.returns-in_err-after
returns-in_err-after c = let e : c.from_residual-in_err-after.result ≡ Err c.in_err-after.field-0.0 = search rules in rw e ((then_stops c.in_ok-first.ensures.0 c.in_err-after.ensures))

pub returns : goal.returns
returns c = ((run_both c.in_ok-first.ensures.0 c.in_ok-after.ensures.0), c.statement_with.ensures ∙ (λ i. statement_with (c.in_ok-first.ensures.1 i).name (c.in_ok-after.ensures.1 i)))
