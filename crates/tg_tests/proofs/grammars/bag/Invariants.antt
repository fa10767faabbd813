use Rattle.std.proofs.Common.{length}
use Rattle.td_canon.specs.CanonicalTexts.{IsNamedBag}
use Rattle.tg_tests.proofs.grammars.bag.Given as goal

abbrev pub invariant-loop-pair : goal.invariant-loop-pair
invariant-loop-pair l = IsNamedBag (length l.symbols) l.bag
