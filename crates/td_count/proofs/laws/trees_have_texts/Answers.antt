use Rattle.td_count.proofs.Forming.{text_there}
use Rattle.td_count.proofs.laws.trees_have_texts.Goals as goal

pub returns : goal.returns
returns g c = λ variables slots text N t agrees apart. text_there variables slots text N t agrees apart
