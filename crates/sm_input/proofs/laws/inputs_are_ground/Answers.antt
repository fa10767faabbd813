use Rattle.sm_input.proofs.LawLemmas.{inputs_ground}
use Rattle.sm_input.proofs.laws.inputs_are_ground.Goals as goal

pub returns : goal.returns
returns c = λ bytes texts is h. inputs_ground texts bytes is h
