use Rattle.td_forest.proofs.Heading.{head_place, place_head, heads_once}
use Rattle.td_forest.proofs.laws.heads_have_places.Goals as goal

pub returns : goal.returns
returns c = record { there = head_place; only = place_head; one = heads_once }
