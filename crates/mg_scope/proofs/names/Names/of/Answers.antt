use Rattle.mg_scope.proofs.NameLemmas.{sorted_numbers, sorted_rise}
use Rattle.mg_scope.proofs.names.Names.of.Goals as goal

pub invariant_of-result : goal.invariant_of-result
invariant_of-result c = sorted_rise c.sort_unstable.new.self.items c.sort_unstable.ensures.sorted

pub returns : goal.returns
returns c = sorted_numbers c.args.names.now c.in_ok-numbers.numbers.items c.sort_unstable.new.self.items c.in_ok-numbers.ensures c.sort_unstable.ensures.permutation
