use Rattle.mg_compile.proofs.Existing.{steps_of}
use Rattle.mg_compile.proofs.laws.each_class_has_steps.Goals as goal

pub returns : goal.returns
returns c m name class scoped there = let ws = c.expansions_are_finite.ensures m name class scoped there in steps_of m name ws.0 ws.1
