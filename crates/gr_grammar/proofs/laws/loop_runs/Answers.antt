use Rattle.gr_grammar.proofs.Loops.{ended, ended-items, broken}
use Rattle.gr_grammar.proofs.laws.loop_runs.Goals as goal

pub returns : goal.returns
returns g c = record {
  ended = λ S h value ts mid r b. (ended r b, ended-items value r b);
  broken = λ S h ts mid rest r b f. broken r b f;
}
