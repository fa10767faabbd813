use Rattle.std.proofs.Common.{ap}
use Rattle.mg_deeds.specs.Weights.{weight_if}
use Rattle.mg_deeds.specs.Sayings.{said_if}
use Rattle.mg_deeds.proofs.laws.deeds_say_their_facts.Goals as goal

pub returns-clause-weight : goal.returns-clause-weight
returns-clause-weight c s d e = ap weight_if e

pub returns-clause-facts : goal.returns-clause-facts
returns-clause-facts c here n s d e = ap (said_if here n) e

pub returns-clause-no_weight : goal.returns-clause-no_weight
returns-clause-no_weight c s e = ap weight_if e

pub returns-clause-no_facts : goal.returns-clause-no_facts
returns-clause-no_facts c here n s e = ap (said_if here n) e
