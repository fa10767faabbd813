use Rattle.std.proofs.Common.{[], refl, arith}
use Rattle.gr_grammar.proofs.Answers.{taken, stopped, left_over, at_deep}
use Rattle.gr_grammar.proofs.laws.run_reads.Goals as goal

pub returns : goal.returns
returns g c = record {
  taken = λ S K h clear turn limit value ts part cut r. taken S K h clear turn limit value [] cut (omega arith) (omega arith) r refl;
  stopped = λ S K h clear turn limit value ts part deep left cut r. stopped S K h clear turn limit value cut r;
  left_over = λ S K h clear turn limit value ts part deep left cut r l. left_over S K h clear turn limit value left cut r l;
  at_deep = λ S K h clear turn limit value ts part deep cut r d. at_deep S K h clear turn limit value [] cut r (omega arith) d;
}
