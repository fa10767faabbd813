use Rattle.std.proofs.Common.{sym}
use Rattle.tg_grammar.proofs.SightLemmas.{first_name-root, labels-nodes}
use Rattle.tg_grammar.proofs.laws.nodes_are_labels.Goals as goal

pub returns : goal.returns
returns c = record { labels = labels-nodes; root = λ nodes t. sym (first_name-root nodes t) }
