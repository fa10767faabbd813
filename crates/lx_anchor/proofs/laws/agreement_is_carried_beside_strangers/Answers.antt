use Rattle.std.proofs.Common.{ℕ}
use Rattle.lx_anchor.proofs.CarryingLemmas.{agreement-carried_beside}
use Rattle.lx_anchor.proofs.laws.agreement_is_carried_beside_strangers.Goals as goal

pub returns : goal.returns
returns c = λ t e new nodes anchor one over more known. agreement-carried_beside t e new nodes anchor one over ℕ ℕ more known
