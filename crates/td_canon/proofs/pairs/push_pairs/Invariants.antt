use denote.Text.{Utf8}
use denote.Shadow.{shadow}
use Rattle.td_canon.proofs.PairLemmas.{WrittenPairs}
use Rattle.td_canon.proofs.pairs.push_pairs.Given as goal

abbrev pub invariant-loop-pair : goal.invariant-loop-pair
invariant-loop-pair l = record {
  utf8 : shadow (Utf8 l.separator);
  written : WrittenPairs l.symbols l.opening l.pairs l.pair-index l.initial.draft l.draft l.separator;
}
