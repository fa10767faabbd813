use Rattle.std.proofs.Common.{rules, ◌≡◌, Err}
use Rattle.std.specs.Prelude.{codes}
use Rattle.tg_syntax.proofs.Noting.{then_read, first_read, token_read, keyword_read, word_read}
use Rattle.tg_syntax.proofs.reader.Reader.class.Goals as goal

pub returns-in_err-_word : goal.returns-in_err-_word
returns-in_err-_word c = let e : c.from_residual.result ≡ Err c.in_err-_word.field-0.0 = search rules in rw e (first_read (keyword_read (codes "class ") c.in_err-_word.ensures _))

pub returns-in_err-_name : goal.returns-in_err-_name
returns-in_err-_name c = let e : c.from_residual-in_err-_name.result ≡ Err c.in_err-_name.field-0.0 = search rules in rw e (then_read (keyword_read (codes "class ") c.in_ok-_word.ensures _) (first_read (word_read c.in_err-_name.ensures _)))

pub returns-in_err-_end : goal.returns-in_err-_end
returns-in_err-_end c = let e : c.from_residual-in_err-_end.result ≡ Err c.in_err-_end.field-0.0 = search rules in rw e (then_read (keyword_read (codes "class ") c.in_ok-_word.ensures _) (then_read (word_read c.in_ok-_name.ensures _) (first_read (token_read c.in_err-_end.ensures _))))

pub returns-in_err-_lines : goal.returns-in_err-_lines
returns-in_err-_lines c = let e : c.from_residual-in_err-_lines.result ≡ Err c.in_err-_lines.field-0.0 = search rules in rw e (then_read (keyword_read (codes "class ") c.in_ok-_word.ensures _) (then_read (word_read c.in_ok-_name.ensures _) (then_read (token_read c.in_ok-_end.ensures _) c.in_err-_lines.ensures)))

pub returns : goal.returns
returns c = then_read (keyword_read (codes "class ") c.in_ok-_word.ensures _) (then_read (word_read c.in_ok-_name.ensures _) (then_read (token_read c.in_ok-_end.ensures _) c.in_ok-_lines.ensures))
