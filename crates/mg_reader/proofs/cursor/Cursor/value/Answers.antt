use Rattle.std.proofs.Common.{rules, ◌≡◌, Err}
use Rattle.gr_grammar.specs.Grammars.{run_both}
use Rattle.mg_reader.proofs.Steps.{first_stops, then_stops}
use Rattle.mg_reader.proofs.cursor.Cursor.value.Goals as goal

pub returns-in_err-_value : goal.returns-in_err-_value
returns-in_err-_value c = let e : c.from_residual.result ≡ Err c.in_err-_value.field-0.0 = search rules in rw e ((first_stops c.in_err-_value.ensures))

pub returns-in_err-name : goal.returns-in_err-name
returns-in_err-name c = let e : c.from_residual-in_err-name.result ≡ Err c.in_err-name.field-0.0 = search rules in rw e ((then_stops c.in_ok-_value.ensures.0 c.in_err-name.ensures))

pub returns : goal.returns
returns c = ((run_both c.in_ok-_value.ensures.0 c.in_ok-name.ensures.0), (λ i. (c.in_ok-name.ensures.1 i).name))
