use Rattle.gr_store.proofs.Values.{HasValue-first}
use Rattle.gr_store.proofs.laws.first_is_a_value.Goals as goal

pub returns : goal.returns
returns c = HasValue-first
