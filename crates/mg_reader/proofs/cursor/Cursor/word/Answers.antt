use Rattle.std.proofs.Common.{rules, ◌≡◌, Err, ◌∙◌}
use Rattle.gr_grammar.specs.Grammars.{run_both}
use Rattle.mg_reader.specs.Values.{word_with}
use Rattle.mg_reader.proofs.Steps.{first_stops, then_stops}
use Rattle.mg_reader.proofs.cursor.Cursor.word.Goals as goal

pub returns-in_err-word : goal.returns-in_err-word
returns-in_err-word c = let e : c.from_residual.result ≡ Err c.in_err-word.field-0.0 = search rules in rw e ((first_stops c.in_err-word.ensures))

pub returns-in_err-call : goal.returns-in_err-call
returns-in_err-call c = let e : c.from_residual-in_err-call.result ≡ Err c.in_err-call.field-0.0 = search rules in rw e ((then_stops c.in_ok-word.ensures.0 c.in_err-call.ensures))

pub returns : goal.returns
returns c = ((run_both c.in_ok-word.ensures.0 c.in_ok-call.ensures.0), c.word_with.ensures ∙ (λ i. word_with (c.in_ok-word.ensures.1 i).name (c.in_ok-call.ensures.1 i)))
