use Rattle.std.proofs.Common.{rules, ◌≡◌, Err}
use Rattle.tg_syntax.proofs.Noting.{then_read, first_read, items_read}
use Rattle.tg_syntax.proofs.reader.Reader.tree.Goals as goal

pub returns-in_err-_nodes : goal.returns-in_err-_nodes
returns-in_err-_nodes c = let e : c.from_residual.result ≡ Err c.in_err-_nodes.field-0.0 = search rules in rw e (first_read c.in_err-_nodes.ensures)

pub returns-in_err-_behind : goal.returns-in_err-_behind
returns-in_err-_behind c = let e : c.from_residual-in_err-_behind.result ≡ Err c.in_err-_behind.field-0.0 = search rules in rw e (then_read c.in_ok-_nodes.ensures (items_read c.in_err-_behind.ensures _))

pub returns : goal.returns
returns c = then_read c.in_ok-_nodes.ensures (items_read c.in_ok-_behind.ensures _)
