use Rattle.std.proofs.Common.{rules, ◌≡◌, Err, refl, sym, ◌∙◌, arith}
use Rattle.std.specs.Prelude.{codes}
use Rattle.tg_syntax.proofs.Steps.{shorter}
use Rattle.tg_syntax.proofs.Noting.{then_read, first_read, left_read, right_read, lines_read, keyword_read, trees_read, cut_read}
use Rattle.tg_syntax.proofs.reader.Reader.line.Goals as goal

pub returns-in_err-_cut : goal.returns-in_err-_cut
returns-in_err-_cut c = let e : c.from_residual.result ≡ Err c.in_err-_cut.field-0.0 = search rules in rw e (lines_read (right_read (sym c.sees.ensures ∙ c.if-not-sees.true) (cut_read c.in_err-_cut.ensures _)))

pub returns-then-not-sees : goal.returns-then-not-sees
returns-then-not-sees c = lines_read (right_read (sym c.sees.ensures ∙ c.if-not-sees.true) (cut_read c.in_ok-_cut.ensures _))

pub returns-in_err-_word : goal.returns-in_err-_word
returns-in_err-_word c = let e : c.from_residual-in_err-_word.result ≡ Err c.in_err-_word.field-0.0 = search rules in rw e (lines_read (left_read (sym c.sees.ensures ∙ c.if-not-sees.false) (first_read (keyword_read (codes "tree") c.in_err-_word.ensures _))))

pub returns-in_err-_tree : goal.returns-in_err-_tree
returns-in_err-_tree c = let e : c.from_residual-in_err-_tree.result ≡ Err c.in_err-_tree.field-0.0 = search rules in rw e (lines_read (left_read (sym c.sees.ensures ∙ c.if-not-sees.false) (then_read (keyword_read (codes "tree") c.in_ok-_word.ensures _) (left_read (sym c.sees-2.ensures ∙ c.if-sees.true) (first_read c.in_err-_tree.ensures)))))

pub returns-then-sees : goal.returns-then-sees
returns-then-sees c = (let a = shorter refl c.in_ok-_word.ensures in let b = shorter refl c.in_ok-_tree.ensures.run in omega arith, λ e last k. lines_read (left_read (sym c.sees.ensures ∙ c.if-not-sees.false) (then_read (keyword_read (codes "tree") c.in_ok-_word.ensures _) (left_read (sym c.sees-2.ensures ∙ c.if-sees.true) (then_read c.in_ok-_tree.ensures k)))))

pub returns-in_err-_trees : goal.returns-in_err-_trees
returns-in_err-_trees c = let e : c.from_residual-in_err-_trees.result ≡ Err c.in_err-_trees.field-0.0 = search rules in rw e (lines_read (left_read (sym c.sees.ensures ∙ c.if-not-sees.false) (then_read (keyword_read (codes "tree") c.in_ok-_word.ensures _) (right_read (sym c.sees-2.ensures ∙ c.if-sees.false) (trees_read c.in_err-_trees.ensures _)))))

pub returns : goal.returns
returns c = lines_read (left_read (sym c.sees.ensures ∙ c.if-not-sees.false) (then_read (keyword_read (codes "tree") c.in_ok-_word.ensures _) (right_read (sym c.sees-2.ensures ∙ c.if-sees.false) (trees_read c.in_ok-_trees.ensures _))))
