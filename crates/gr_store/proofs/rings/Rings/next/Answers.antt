use Rattle.std.proofs.Common.{◌<◌, List, ℕ, length, get_or, ◌∙◌, ap, arith}
use Rattle.std.proofs.lemmas.List.{get_or_default}
use Rattle.gr_store.proofs.RingLemmas.{length-next_of}
use Rattle.gr_store.proofs.rings.Rings.next.Goals as goal

pub index-requires : goal.index-requires
index-requires c =
    let node_in = rw (← c.self.view_is) at c.requires in
    omega (arith, node_in, ap length c.self.invariant.is_next, length-next_of c.self.inside.roots)

pub returns : goal.returns
returns c =
    let node_in = rw (← c.self.view_is) at c.requires in
    let within : c.args.node < length c.self.inside.next.items = omega (arith, node_in, ap length c.self.invariant.is_next, length-next_of c.self.inside.roots) in
    rw (← c.self.view_is) (c.index.ensures ∙ get_or_default c.self.inside.next.items c.args.node _ 0 within
    ∙ ap (λ (list : List ℕ). get_or list c.args.node 0) c.self.invariant.is_next)
