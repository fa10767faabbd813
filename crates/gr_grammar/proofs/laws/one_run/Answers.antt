use Rattle.gr_grammar.proofs.Runs.{one_run, text_run}
use Rattle.gr_grammar.proofs.EveryRun.{every_run}
use Rattle.gr_grammar.proofs.laws.one_run.Goals as goal

pub returns : goal.returns
returns g c = record {
  one = λ S g ts e f r s. one_run S r s;
  some = λ S K g clear ts. every_run S K g clear ts;
  takes = λ S K g clear ts m. text_run S K clear m;
}
