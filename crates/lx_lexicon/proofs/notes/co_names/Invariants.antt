use Rattle.std.proofs.Common.{take}
use Rattle.lx_lexicon.proofs.NoteLemmas.{HasNoted}
use Rattle.lx_lexicon.proofs.notes.co_names.Given as goal

abbrev pub invariant-row : goal.invariant-row
invariant-row l = HasNoted l.symbols l.fn.complaints (take l.coanchor-index l.coanchors) l.names l.met l.complaints
