use Rattle.td_count.proofs.Solving.{all_texts}
use Rattle.td_count.proofs.laws.texts_are_finite.Goals as goal

pub returns : goal.returns
returns g c = λ variables slots text d apart. all_texts variables slots text d apart
