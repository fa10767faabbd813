use Rattle.std.proofs.Common.{◌≡◌, ◌+◌, drop}
use Rattle.mg_deeds.specs.Fronts.{HasLeft}
use Rattle.mg_deeds.specs.Weights.{total, literal_weight}
use Rattle.mg_deeds.specs.Sayings.{said_from, literal_said}
use Rattle.mg_deeds.proofs.statement.say_literals.Given as goal

abbrev pub invariant-loop-literal : goal.invariant-loop-literal
invariant-loop-literal l = record {
  place : l.at + total literal_weight (drop l.literal-index l.literals) ≡ l.first + total literal_weight l.literals;
  said : HasLeft l.initial.facts l.facts (said_from literal_weight (literal_said l.here) l.first l.literals) (said_from literal_weight (literal_said l.here) l.at (drop l.literal-index l.literals));
}
