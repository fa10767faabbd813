use Rattle.std.proofs.Common.{refl, length, ap, arith}
use Rattle.gr_store.proofs.RingLemmas.{AreRings-push, length-next_of}
use Rattle.gr_store.proofs.rings.Rings.bind.Goals as goal

pub swap-requires-clause-i_in_bounds : goal.swap-requires-clause-i_in_bounds
swap-requires-clause-i_in_bounds c =
    let node_in = rw (← c.self.view_is) at c.requires.in_range in
    omega (arith, node_in, ap length c.self.invariant.is_next, length-next_of c.self.inside.roots)

pub swap-requires-clause-j_in_bounds : goal.swap-requires-clause-j_in_bounds
swap-requires-clause-j_in_bounds c =
    let node_in = rw (← c.self.view_is) at c.requires.in_range in
    omega (arith, node_in, c.requires.lower, ap length c.self.invariant.is_next, length-next_of c.self.inside.roots)

pub invariant_of-self : goal.invariant_of-self
invariant_of-self c =
    let v = c.self.inside.roots in
    rw (c.bind.ensures, c.swap.ensures.items) (AreRings-push v.0 v.1 _ c.self.inside.next.items c.self.invariant
    (record { in_range = rw (← c.self.view_is) at c.requires.in_range; is_node = refl; lower = c.requires.lower })
    (rw (← c.self.view_is) at c.requires.free) (rw (← c.self.view_is) at c.requires.root))
