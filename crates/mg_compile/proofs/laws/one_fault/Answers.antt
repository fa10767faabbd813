use Rattle.mg_compile.proofs.Uniqueness.{same_fault}
use Rattle.mg_compile.proofs.laws.one_fault.Goals as goal

pub returns : goal.returns
returns c = same_fault
