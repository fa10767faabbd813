use Rattle.mg_expand.specs.Walks.{choices}
use Rattle.mg_expand.proofs.OrderLemmas.{IsLeftOf-irreflexive, IsLeftOf-through}
use Rattle.mg_expand.proofs.WalkLemmas.{same_choices, one_is_earlier}
use Rattle.mg_expand.proofs.laws.choices_tell_expansions_apart.Goals as goal

pub returns : goal.returns
returns c = record {
  same = same_choices;
  order = one_is_earlier;
  once = λ w h. IsLeftOf-irreflexive (choices w) h;
  through = λ w v u h k. IsLeftOf-through (choices w) (choices v) (choices u) h k;
}
