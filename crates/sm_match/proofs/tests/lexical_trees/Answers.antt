use Rattle.std.proofs.Common.{[], ◌∷◌, sym, subst}
use Rattle.gr_base.specs.Lists.{Each}
use Rattle.gr_base.proofs.ListLemmas.{Each-append}
use Rattle.tg_model.specs.LexicalTrees.{IsLexical}
use Rattle.sm_match.proofs.tests.lexical_trees.Goals as goal

pub loop-text-preserved : goal.loop-text-preserved
loop-text-preserved c =
    subst (λ ls. Each IsLexical ls) (sym c.in_ok-_pushed.ensures.ok)
    (Each-append IsLexical c.loop-text.trees (c.in_ok-next.next ∷ []) c.loop-text.invariant (c.in_ok-next.ensures, tt))
