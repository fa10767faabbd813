use Rattle.mg_compile.proofs.Uniqueness.{cut_below, none_for_none}
use Rattle.mg_compile.proofs.laws.cut_below_the_steps.Goals as goal

pub returns : goal.returns
returns c = record { cut = cut_below; none = none_for_none }
