use Rattle.mg_lists.proofs.Classes.{read_marks}
use Rattle.mg_lists.proofs.laws.read_trees_have_words_as_marks.Goals as goal

pub returns : goal.returns
returns c = read_marks
