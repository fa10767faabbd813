use Rattle.tg_text.proofs.TreeBytes.{tree_text_fine, tree_text_line}
use Rattle.tg_text.proofs.laws.a_tree_is_one_line.Goals as goal

pub returns : goal.returns
returns c = record { line = tree_text_line; utf8 = λ text h. (tree_text_fine text h).utf8 }
