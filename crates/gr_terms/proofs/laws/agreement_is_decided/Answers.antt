use Rattle.gr_terms.proofs.Agreeing.{decided_slots, decided_linked, decided_name, decided_agrees}
use Rattle.gr_terms.proofs.laws.agreement_is_decided.Goals as goal

pub returns : goal.returns
returns g c = record {
  slots = λ slots N s t. decided_slots slots N s t;
  terms = λ variables slots N x y. decided_linked variables slots N x y;
  names = λ variables slots N x. decided_name variables slots N x;
  agrees = λ variables slots N. decided_agrees variables slots N;
}
