use Rattle.gr_terms.specs.LiteralViews.{literal_of}
use Rattle.gr_terms.specs.Views.{network_of}
use Rattle.td_model.specs.CanonicalTrees.{StandsForLiteral}
use Rattle.td_model.proofs.ReadingLemmas.{zip_push}
use Rattle.td_model.proofs.bags.least_literals.Goals as goal

pub literals-preserved : goal.literals-preserved
literals-preserved c =
    zip_push (StandsForLiteral (network_of c.args.store.now.accepted)) literal_of c.args.literals.now c.literals.place c.get.result.now c.literals.least.items c.push.new.self.items c.in_ok-least_literal.field-0 c.get.ensures c.literals.invariant
    c.in_ok-least_literal.ensures c.in_ok-push.ensures.items
