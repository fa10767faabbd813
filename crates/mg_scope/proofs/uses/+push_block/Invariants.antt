use Rattle.std.proofs.Common.{◌≡◌, ◌++◌, take}
use Rattle.gr_base.specs.Lists.{gathered}
use Rattle.mg_scope.specs.Uses.{block_uses}
use Rattle.mg_scope.proofs.UseLemmas.{kid_uses}
use Rattle.mg_scope.proofs.uses.+push_block.Given as goal

abbrev pub invariant-loop-kid : goal.invariant-loop-kid
invariant-loop-kid l = l.uses.items ≡ l.initial.uses.items ++ gathered kid_uses (take l.kid-index l.kid-items)
