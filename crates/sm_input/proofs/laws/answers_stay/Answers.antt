use Rattle.sm_input.proofs.LawLemmas.{reading_stays}
use Rattle.sm_input.proofs.laws.answers_stay.Goals as goal

pub returns : goal.returns
returns c = λ texts later grows bytes x h. reading_stays texts later grows bytes x h
