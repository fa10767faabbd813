use Rattle.gr_store.proofs.Growth.{IsEarlier-grown, first_part-grown}
use Rattle.gr_store.proofs.laws.undo_is_exact.Goals as goal

pub returns-clause-earlier : goal.returns-clause-earlier
returns-clause-earlier c = IsEarlier-grown

pub returns-clause-exact : goal.returns-clause-exact
returns-clause-exact c = first_part-grown
