use Rattle.std.proofs.Common.{◌≡◌, ◌+◌, drop}
use Rattle.std.specs.Prelude.{is_some}
use Rattle.mg_deeds.specs.Blocks.{forest_of}
use Rattle.mg_deeds.specs.Fronts.{HasLeft}
use Rattle.mg_deeds.specs.Weights.{kids_weight}
use Rattle.mg_deeds.specs.Sayings.{kids_said}
use Rattle.mg_deeds.proofs.WeightLemmas.{left_weight}
use Rattle.mg_deeds.proofs.SayingLemmas.{left_said}
use Rattle.mg_deeds.proofs.blocks.+kids.Given as goal

abbrev pub invariant-say_kids-loop-kid : goal.invariant-say_kids-loop-kid
invariant-say_kids-loop-kid l = record {
  place : l.next + left_weight (is_some l.sister) (drop l.kid-index l.kids) ≡ l.at + kids_weight (forest_of l.kids);
  said : HasLeft l.initial.facts l.facts (kids_said l.here l.parent l.at (forest_of l.kids)) (left_said l.here l.parent l.sister l.next (forest_of (drop l.kid-index l.kids)));
}
