use Rattle.td_check.proofs.Deciding.{onto_of}
use Rattle.td_check.proofs.laws.maps_are_onto.Goals as goal

pub returns : goal.returns
returns c = onto_of
