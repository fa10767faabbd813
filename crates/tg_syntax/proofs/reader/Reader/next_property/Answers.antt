use Rattle.std.proofs.Common.{rules, ◌≡◌, Err}
use Rattle.tg_syntax.proofs.Noting.{then_read, first_read, token_read}
use Rattle.tg_syntax.proofs.reader.Reader.next_property.Goals as goal

pub returns-in_err-_comma : goal.returns-in_err-_comma
returns-in_err-_comma c = let e : c.from_residual.result ≡ Err c.in_err-_comma.field-0.0 = search rules in rw e (first_read (token_read c.in_err-_comma.ensures _))

pub returns-in_err-_property : goal.returns-in_err-_property
returns-in_err-_property c = let e : c.from_residual-in_err-_property.result ≡ Err c.in_err-_property.field-0.0 = search rules in rw e (then_read (token_read c.in_ok-_comma.ensures _) c.in_err-_property.ensures)

pub returns : goal.returns
returns c = then_read (token_read c.in_ok-_comma.ensures _) c.in_ok-_property.ensures
