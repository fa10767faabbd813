use Rattle.std.proofs.Common.{rules, ◌≡◌, Err}
use Rattle.gr_grammar.specs.Grammars.{run_both}
use Rattle.mg_reader.proofs.Steps.{first_stops, then_stops}
use Rattle.mg_reader.proofs.reader.Reader.more_syn_item.Goals as goal

pub returns-in_err-_semicolon : goal.returns-in_err-_semicolon
returns-in_err-_semicolon c = let e : c.from_residual.result ≡ Err c.in_err-_semicolon.field-0.0 = search rules in rw e ((first_stops c.in_err-_semicolon.ensures))

pub returns-in_err-item : goal.returns-in_err-item
returns-in_err-item c = let e : c.from_residual-in_err-item.result ≡ Err c.in_err-item.field-0.0 = search rules in rw e ((then_stops c.in_ok-_semicolon.ensures.0 c.in_err-item.ensures))

pub returns : goal.returns
returns c = ((run_both c.in_ok-_semicolon.ensures.0 c.in_ok-item.ensures.0), c.in_ok-item.ensures.1, c.in_ok-item.ensures.2)
