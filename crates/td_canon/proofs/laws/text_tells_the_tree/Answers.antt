use Rattle.td_canon.proofs.TellingTrees.{telling}
use Rattle.td_canon.proofs.laws.text_tells_the_tree.Goals as goal

pub returns : goal.returns
returns c = λ texts t u x once a b i j. telling texts once t u x a b i j
