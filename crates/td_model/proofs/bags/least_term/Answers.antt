use Rattle.gr_terms.specs.Views.{network_of, term_of}
use Rattle.gr_feats.proofs.CanonicalLemmas.{least_stands}
use Rattle.td_model.proofs.bags.least_term.Goals as goal

pub returns : goal.returns
returns c = least_stands (network_of c.args.store.now.accepted) (term_of c.args.term) c.least.result c.least.ensures.is_linked c.least.ensures.least
