use Rattle.std.proofs.Common.{◌≡◌, ◌+◌, drop}
use Rattle.mg_deeds.specs.Weights.{total, literal_weight}
use Rattle.mg_deeds.proofs.weigh.after_literals.Given as goal

abbrev pub invariant-loop-literal : goal.invariant-loop-literal
invariant-loop-literal l = l.left + total literal_weight l.literals ≡ l.room + total literal_weight (drop l.literal-index l.literals)
