use Rattle.std.proofs.Common.{◌-◌, ◌≤◌, length, take, IsTrue}
use Rattle.gr_text.specs.Words.{is_word_rest}
use Rattle.gr_tokens.proofs.fronts.word_len.Given as goal

abbrev pub invariant-loop-len : goal.invariant-loop-len
invariant-loop-len l = record { within : l.len ≤ length l.bytes; rest : IsTrue (is_word_rest (take l.len l.bytes)) }

abbrev pub decreases-loop-len : goal.decreases-loop-len
decreases-loop-len l = length l.bytes - l.len
