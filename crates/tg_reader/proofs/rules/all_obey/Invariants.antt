use Rattle.std.proofs.Common.{take}
use Rattle.gr_base.specs.Lists.{Each}
use Rattle.tg_reader.specs.Reading.{Obeys}
use Rattle.tg_reader.proofs.rules.all_obey.Given as goal

abbrev pub invariant-loop-node : goal.invariant-loop-node
invariant-loop-node l = Each (Obeys l.symbols) (take l.node-index l.nodes)
