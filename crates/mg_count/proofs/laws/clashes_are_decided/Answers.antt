use Rattle.mg_count.proofs.Identified.{decided_identified}
use Rattle.mg_count.proofs.Clashing.{decided_clash}
use Rattle.mg_count.proofs.laws.clashes_are_decided.Goals as goal

pub returns : goal.returns
returns c = record {
  identified = λ all x y. decided_identified all x y;
  clashes = λ all. decided_clash all;
}
