use Rattle.mg_lists.proofs.Classes.{all_read, read_marks}
use Rattle.mg_lists.proofs.laws.compiled_trees_have_words_as_marks.Goals as goal

pub returns : goal.returns
returns c bytes texts later m classes table grows g each = read_marks later classes (all_read bytes texts later m classes table grows g each)
