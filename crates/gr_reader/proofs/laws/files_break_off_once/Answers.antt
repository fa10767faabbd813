use Rattle.gr_grammar.proofs.OneTree.{one_tree}
use Rattle.gr_reader.proofs.Files.{one_break, no_break}
use Rattle.gr_reader.proofs.LexemeLemmas.{Lexeme-set}
use Rattle.gr_reader.proofs.laws.files_break_off_once.Goals as goal

pub returns : goal.returns
returns c = record {
  one = λ S g bytes tokens p q a b. one_break S g bytes tokens p q a b;
  none = λ S g bytes tokens p f b. no_break S g bytes tokens p f b;
  tree = λ S K g clear ts rest m n. one_tree S K Lexeme-set clear m n;
}
