use Rattle.gr_terms.specs.Views.{network_of, term_of}
use Rattle.gr_feats.specs.CanonicalBags.{StandsFor}
use Rattle.td_model.proofs.ReadingLemmas.{zip_push}
use Rattle.td_model.proofs.bags.least_terms.Goals as goal

pub terms-preserved : goal.terms-preserved
terms-preserved c =
    zip_push (StandsFor (network_of c.args.store.now.accepted)) term_of c.args.terms.now c.terms.place c.get.result.now c.terms.least.items c.push.new.self.items c.least_term.result c.get.ensures c.terms.invariant c.least_term.ensures c.in_ok-push.ensures.items
