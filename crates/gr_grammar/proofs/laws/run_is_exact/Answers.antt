use Rattle.gr_grammar.proofs.Readings.{stop_fault, whole_end, took_text, fault_stop}
use Rattle.gr_grammar.proofs.laws.run_is_exact.Goals as goal

pub returns : goal.returns
returns g c = record {
  text = λ S K g clear ts e r. (λ m. whole_end S K g clear e r m, λ k. took_text S K g clear e r k);
  place = λ S K g clear ts rest e r. (λ f. fault_stop S K g clear e r f, λ s. stop_fault S K g clear e r s);
}
