-- One byte that doesn't fit decides it, and else all do.
use Rattle.std.proofs.Common.{below_more, refl, sym, arith, rules}
use Rattle.gr_text.proofs.WordLemmas.{is_word, no_word}
use Rattle.gr_text.proofs.is_bare.Goals as goal

pub returns-then-not-fits_word : goal.returns-then-not-fits_word
returns-then-not-fits_word c = no_word _ _ c.as_bytes-bytes.ensures.value c.loop-at.at (omega arith) c.if-not-fits_word.ensures

pub loop-at-preserved : goal.loop-at-preserved
loop-at-preserved c = below_more _ _ c.loop-at.invariant (c.if-not-fits_word.ensures.0 refl)

pub returns : goal.returns
returns c = is_word _ _ c.as_bytes-bytes.ensures.value (search rules, sym c.if-not-is_word_byte.ensures) (λ k within. c.loop-at.invariant k (omega arith))
