use Rattle.std.proofs.Common.{◌≡◌, ◌++◌, take}
use Rattle.gr_base.specs.Lists.{gathered}
use Rattle.mg_scope.specs.Uses.{category_uses, bag_uses, categories_of}
use Rattle.mg_scope.proofs.UseLemmas.{categories}
use Rattle.mg_scope.proofs.uses.push_categories.Given as goal

abbrev pub invariant-loop-pair : goal.invariant-loop-pair
invariant-loop-pair l = l.uses.items ≡ l.initial.uses.items ++ gathered category_uses (take l.pair-index l.pair-items)
