use Rattle.std.proofs.Common.{◌≡◌, ◌+◌, drop}
use Rattle.mg_deeds.specs.Fronts.{HasLeft}
use Rattle.mg_deeds.specs.Weights.{total, syntax_weight}
use Rattle.mg_deeds.specs.Sayings.{said_from, syntax_said}
use Rattle.mg_deeds.proofs.blocks.say_items.Given as goal

abbrev pub invariant-loop-item : goal.invariant-loop-item
invariant-loop-item l = record {
  place : l.at + total syntax_weight (drop l.item-index l.items) ≡ l.first + total syntax_weight l.items;
  said : HasLeft l.initial.facts l.facts (said_from syntax_weight (syntax_said l.here) l.first l.items) (said_from syntax_weight (syntax_said l.here) l.at (drop l.item-index l.items));
}
