use Rattle.gr_grammar.proofs.Answers.{one_reading}
use Rattle.gr_grammar.proofs.Total.{some_reading}
use Rattle.gr_grammar.proofs.laws.one_reading.Goals as goal

pub returns : goal.returns
returns g c = record {
  one = λ set S K h clear turn limit value ts x y p q. one_reading S K h clear turn limit value set ts x y p q;
  some = λ S K h clear turn limit value ts. some_reading S K h clear turn limit value ts;
}
