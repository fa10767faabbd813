use Rattle.std.proofs.Common.{[], ◌∙◌, ap, arith}
use Rattle.gr_store.proofs.States.{IsState-start}
use Rattle.gr_store.proofs.store.store_of.Goals as goal

pub invariant_of-result : goal.invariant_of-result
invariant_of-result c =
    IsState-start _ _ _ _ c.args.room c.in_ok-terms.ensures (c.in_ok-nodes.ensures ∙ ap (λ n. (n, [])) c.requires) (omega (arith, c.in_ok-kept.ensures)) (omega (arith, c.in_ok-attributes.ensures.len))
    (omega arith) (omega arith) (omega arith)
