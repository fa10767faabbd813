use Rattle.gr_grammar.proofs.OneTree.{one_tree}
use Rattle.gr_grammar.proofs.laws.one_tree.Goals as goal

pub returns : goal.returns
returns g c = λ set S K h clear ts rest m n. one_tree S K set clear m n
