-- Each byte so far fits a word.
use Rattle.std.proofs.Common.{ℕ, ◌<◌}
use Rattle.gr_text.specs.Words.{FitsWordAt}
use Rattle.gr_text.proofs.is_bare.Given as goal

abbrev pub invariant-loop-at : goal.invariant-loop-at
invariant-loop-at l = (k : ℕ) → k < l.at → FitsWordAt l.bytes k
