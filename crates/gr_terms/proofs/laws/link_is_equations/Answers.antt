use Rattle.gr_terms.proofs.AdditionLemmas.{AreLinked-link_equations, Agrees-link_equations}
use Rattle.gr_terms.proofs.laws.link_is_equations.Goals as goal

pub returns : goal.returns
returns c = record {
  terms = λ N E s t equations values. AreLinked-link_equations N E s t equations values;
  agrees = λ N E s t equations values. Agrees-link_equations N E s t equations values;
}
