use Rattle.lx_lexicon.proofs.LimitLemmas.{lexicon_keeps}
use Rattle.lx_lexicon.proofs.laws.entries_keep_limits.Goals as goal

pub returns : goal.returns
returns c = λ bytes texts es h. lexicon_keeps texts bytes es h
