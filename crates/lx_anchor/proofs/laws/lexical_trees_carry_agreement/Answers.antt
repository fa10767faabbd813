use Rattle.lx_anchor.proofs.CarryingLemmas.{agreement-carried}
use Rattle.lx_anchor.proofs.laws.lexical_trees_carry_agreement.Goals as goal

pub returns : goal.returns
returns c = λ t e new nodes anchor one over more known. agreement-carried t e new nodes anchor one over more known
