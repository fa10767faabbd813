use Rattle.std.proofs.Common.{rules, ◌≡◌, ◌∷◌, [], Err}
use Rattle.std.specs.Prelude.{codes, ◌++◌}
use Rattle.tg_syntax.proofs.Noting.{then_read, first_read, keyword_read}
use Rattle.tg_syntax.proofs.reader.Reader.file.Goals as goal

pub returns-in_err-_version : goal.returns-in_err-_version
returns-in_err-_version c = let e : c.from_residual.result ≡ Err c.in_err-_version.field-0.0 = search rules in rw e (first_read (keyword_read (codes "grammar 1" ++ 10 ∷ []) c.in_err-_version.ensures _))

pub returns-in_err-_classes : goal.returns-in_err-_classes
returns-in_err-_classes c = let e : c.from_residual-in_err-_classes.result ≡ Err c.in_err-_classes.field-0.0 = search rules in rw e (then_read (keyword_read (codes "grammar 1" ++ 10 ∷ []) c.in_ok-_version.ensures _) (first_read c.in_err-_classes.ensures))

pub returns-in_err-_end : goal.returns-in_err-_end
returns-in_err-_end c = let e : c.from_residual-in_err-_end.result ≡ Err c.in_err-_end.field-0.0 = search rules in rw e (then_read (keyword_read (codes "grammar 1" ++ 10 ∷ []) c.in_ok-_version.ensures _) (then_read c.in_ok-_classes.ensures (keyword_read (codes "end" ++ 10 ∷ []) c.in_err-_end.ensures _)))

pub returns : goal.returns
returns c = then_read (keyword_read (codes "grammar 1" ++ 10 ∷ []) c.in_ok-_version.ensures _) (then_read c.in_ok-_classes.ensures (keyword_read (codes "end" ++ 10 ∷ []) c.in_ok-_end.ensures _))
