use Rattle.std.proofs.Common.{map, take, string_bytes}
use Rattle.rl_refusals.specs.Lines.{name_part}
use Rattle.rl_refusals.specs.Parts.{Says}
use Rattle.rl_refusals.proofs.line.push_names.Given as goal

abbrev pub invariant-loop-at : goal.invariant-loop-at
invariant-loop-at l = Says l.symbols (map name_part (take l.at l.names)) (string_bytes l.initial.out) (string_bytes l.out)
