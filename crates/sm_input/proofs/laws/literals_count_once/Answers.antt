use Rattle.std.proofs.Common.{[]}
use Rattle.sm_input.proofs.Same.{literal_decides}
use Rattle.sm_input.proofs.FirstLemmas.{firsts_once}
use Rattle.sm_input.proofs.LawLemmas.{firsts_part, firsts_cover}
use Rattle.sm_input.proofs.laws.literals_count_once.Goals as goal

pub returns : goal.returns
returns c = record {
  same = λ w v. literal_decides w v;
  part = λ ws. firsts_part [] ws;
  once = λ ws. firsts_once [] ws;
  all = λ ws w i. firsts_cover ws w i;
}
