use Rattle.mg_facts.proofs.OneDescription as lemmas
use Rattle.mg_facts.proofs.laws.one_description.Goals as goal

pub returns : goal.returns
returns c all a b fits h k = lemmas.one_description all fits a b h k
