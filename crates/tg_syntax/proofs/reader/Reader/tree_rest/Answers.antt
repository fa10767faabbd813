use Rattle.std.proofs.Common.{rules, ◌≡◌, Err}
use Rattle.tg_syntax.proofs.Noting.{then_read, first_read, token_read, number_read}
use Rattle.tg_syntax.proofs.reader.Reader.tree_rest.Goals as goal

pub returns-in_err-_space : goal.returns-in_err-_space
returns-in_err-_space c = let e : c.from_residual.result ≡ Err c.in_err-_space.field-0.0 = search rules in rw e (first_read (token_read c.in_err-_space.ensures _))

pub returns-in_err-_number : goal.returns-in_err-_number
returns-in_err-_number c = let e : c.from_residual-in_err-_number.result ≡ Err c.in_err-_number.field-0.0 = search rules in rw e (then_read (token_read c.in_ok-_space.ensures _) (first_read (number_read c.in_err-_number.ensures _)))

pub returns-in_err-_space_2 : goal.returns-in_err-_space_2
returns-in_err-_space_2 c = let e : c.from_residual-in_err-_space_2.result ≡ Err c.in_err-_space_2.field-0.0 = search rules in rw e (then_read (token_read c.in_ok-_space.ensures _) (then_read (number_read c.in_ok-_number.ensures _) (first_read (token_read c.in_err-_space_2.ensures _))))

pub returns-in_err-_tree : goal.returns-in_err-_tree
returns-in_err-_tree c = let e : c.from_residual-in_err-_tree.result ≡ Err c.in_err-_tree.field-0.0 = search rules in rw e (then_read (token_read c.in_ok-_space.ensures _) (then_read (number_read c.in_ok-_number.ensures _) (then_read (token_read c.in_ok-_space_2.ensures _) (first_read c.in_err-_tree.ensures))))

pub returns-in_err-_end : goal.returns-in_err-_end
returns-in_err-_end c = let e : c.from_residual-in_err-_end.result ≡ Err c.in_err-_end.field-0.0 = search rules in rw e (then_read (token_read c.in_ok-_space.ensures _) (then_read (number_read c.in_ok-_number.ensures _) (then_read (token_read c.in_ok-_space_2.ensures _) (then_read c.in_ok-_tree.ensures (token_read c.in_err-_end.ensures _)))))

pub returns : goal.returns
returns c = then_read (token_read c.in_ok-_space.ensures _) (then_read (number_read c.in_ok-_number.ensures _) (then_read (token_read c.in_ok-_space_2.ensures _) (then_read c.in_ok-_tree.ensures (token_read c.in_ok-_end.ensures _))))
