use Rattle.std.proofs.Common.{◌≡◌, ◌+◌, drop}
use Rattle.mg_deeds.specs.Weights.{kids_weight}
use Rattle.mg_deeds.specs.Blocks.{forest_of}
use Rattle.mg_deeds.proofs.WeightLemmas.{left_weight}
use Rattle.mg_deeds.proofs.weigh.+weighing.Given as goal

abbrev pub invariant-after_kids-loop-kid : goal.invariant-after_kids-loop-kid
invariant-after_kids-loop-kid l = l.left + kids_weight (forest_of l.kids) ≡ l.room + left_weight l.has_sister (drop l.kid-index l.kids)
