use Rattle.gr_store.proofs.Growth.{Grows-refl, Grows-trans, Grows-accepting}
use Rattle.gr_store.proofs.laws.growth_adds_up.Goals as goal

pub returns-clause-nothing : goal.returns-clause-nothing
returns-clause-nothing c = Grows-refl

pub returns-clause-after : goal.returns-clause-after
returns-clause-after c = Grows-trans

pub returns-clause-accepted : goal.returns-clause-accepted
returns-clause-accepted c = Grows-accepting
