-- The set has the texts as far as the loop has come.
use Rattle.std.proofs.Common.{◌≡◌, take, map}
use Rattle.std.specs.String.{string_bytes}
use Rattle.gr_symbols.proofs.set_of.Given as goal

abbrev pub invariant-loop-text : goal.invariant-loop-text
invariant-loop-text l = map string_bytes l.set.keys ≡ map (λ t. t.now) (take l.text-index l.texts)
