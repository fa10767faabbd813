use Rattle.mg_deeds.proofs.PlaceLemmas.{deed_between}
use Rattle.mg_deeds.proofs.laws.places_rise.Goals as goal

pub returns : goal.returns
returns c n d = deed_between n d
