use Rattle.std.proofs.Common.{take}
use Rattle.gr_base.specs.Lists.{Each}
use Rattle.tg_reader.specs.Reading.{MayStand}
use Rattle.tg_reader.proofs.rules.obeys.Given as goal

abbrev pub invariant-loop-place : goal.invariant-loop-place
invariant-loop-place l = Each (MayStand l.symbols) (take l.place l.own)
