use Rattle.sm_match.proofs.LawLemmas.{instance_some, instance_within, instance_few}
use Rattle.sm_match.proofs.PlaceLemmas.{stands_at}
use Rattle.sm_match.proofs.laws.instances_cover_places.Goals as goal

pub returns-clause-some : goal.returns-clause-some
returns-clause-some c = instance_some

pub returns-clause-within : goal.returns-clause-within
returns-clause-within c = instance_within

pub returns-clause-few : goal.returns-clause-few
returns-clause-few c = let h = stands_at in instance_few
