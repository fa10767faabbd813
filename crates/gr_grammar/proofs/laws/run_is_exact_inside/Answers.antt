use Rattle.gr_grammar.proofs.Readings.{stop_place, took_whole, whole_took, place_stop}
use Rattle.gr_grammar.proofs.laws.run_is_exact_inside.Goals as goal

pub returns : goal.returns
returns g c = record {
  text = λ S K g clear turn limit ts part deep cut e r. (λ m. whole_took S K g clear turn limit e deep cut r m.0 m.1, λ k. took_whole S K g clear turn limit e cut r k.0 k.1);
  place = λ S K g clear turn limit ts part deep rest cut e r. (λ f. place_stop S K g clear turn limit e deep cut r f, λ s. stop_place S K g clear turn limit e cut r s);
}
