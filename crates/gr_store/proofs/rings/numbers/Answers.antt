use Rattle.std.proofs.Common.{ℕ, List, [], ◌∷◌, ◌++◌, sym, ◌∙◌, ap}
use Rattle.gr_store.proofs.RingLemmas.{range_more}
use Rattle.gr_store.proofs.rings.numbers.Goals as goal

pub loop-i-preserved : goal.loop-i-preserved
loop-i-preserved c = c.in_ok-push.ensures.items ∙ ap (λ (list : List ℕ). list ++ c.loop-i.i ∷ []) c.loop-i.invariant ∙ sym (range_more c.loop-i.i)
