use Rattle.std.proofs.Common.{rules}
use Rattle.std.proofs.lemmas.List.Sorted.{answers_always}
use Rattle.gr_terms.proofs.BagLemmas.{searched}
use Rattle.gr_terms.proofs.bag.find.Goals as goal

pub returns : goal.returns
returns c =
    let facts = c.binary_search_by_key.ensures in
    searched c.args.pairs.now c.args.attr c.requires c.binary_search_by_key.result facts.bound
    (facts.position (λ pair. pair.0.0) (answers_always _ _ _ (λ f a r g called. search rules)))
