use Rattle.td_canon.proofs.TellingLemmas.{one_network_text, one_tree_text}
use Rattle.td_canon.proofs.laws.the_labelling_is_free.Goals as goal

pub returns : goal.returns
returns c = record { network = one_network_text; tree = one_tree_text }
