use Rattle.std.proofs.Common.{drop, rules}
use Rattle.td_canon.proofs.SortLemmas.{AreNamedPairs-moved, IsListed-drop, IsNamedBag-drop, left_within, sorted_by_attribute, sorted_pairs}
use Rattle.td_canon.proofs.pairs.ordered_pairs.Goals as goal

pub returns-clause-pairs : goal.returns-clause-pairs
returns-clause-pairs c =
    sorted_pairs c.args.symbols.now (drop c.args.from c.args.bag.now) c.in_ok-pairs.pairs.items c.sort_unstable_by.new.self.items
    (IsListed-drop c.args.bag.now c.args.from c.pairs_from.ensures.listed) (IsNamedBag-drop _ c.args.bag.now c.args.from c.requires.named) (λ some. c.in_ok-pairs.ensures.distinct (left_within c.args.bag.now c.args.from some)) c.in_ok-pairs.ensures.pairs
    c.sort_unstable_by.ensures.permutation (sorted_by_attribute _ c.sort_unstable_by.ensures.sorted (λ a r q k. search rules))

pub returns-clause-named : goal.returns-clause-named
returns-clause-named c = AreNamedPairs-moved _ c.in_ok-pairs.pairs.items c.sort_unstable_by.new.self.items c.sort_unstable_by.ensures.permutation c.in_ok-pairs.ensures.named
