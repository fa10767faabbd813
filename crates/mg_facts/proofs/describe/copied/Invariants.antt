use Rattle.std.proofs.Common.{◌≡◌, take}
use Rattle.mg_facts.proofs.describe.copied.Given as goal

abbrev pub invariant-loop-assertion : goal.invariant-loop-assertion
invariant-loop-assertion l = l.network ≡ take l.assertion-index l.assertions
