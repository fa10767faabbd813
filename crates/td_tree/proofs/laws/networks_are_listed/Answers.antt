use Rattle.td_tree.proofs.FlatTreeLemmas.{network-listed}
use Rattle.td_tree.proofs.laws.networks_are_listed.Goals as goal

pub returns : goal.returns
returns c = network-listed
