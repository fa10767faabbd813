use Rattle.std.proofs.Common.{subst}
use Rattle.gr_terms.specs.Views.{network_of, term_of}
use Rattle.gr_feats.specs.CanonicalBags.{StandsFor}
use Rattle.gr_feats.proofs.CanonicalLemmas.{least_stands}
use Rattle.lx_anchor.proofs.writing.written_term.Goals as goal

pub returns : goal.returns
returns c =
    let N = network_of c.args.store.now.accepted in
    subst (λ x. StandsFor N (term_of x) c.least.result) c.counted.ensures (least_stands N (term_of c.counted.result) c.least.result c.least.ensures.is_linked c.least.ensures.least)
