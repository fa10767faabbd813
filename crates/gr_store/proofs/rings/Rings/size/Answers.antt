use Rattle.std.proofs.Common.{length, ap, arith}
use Rattle.gr_store.proofs.RingLemmas.{length-next_of}
use Rattle.gr_store.proofs.rings.Rings.size.Goals as goal

pub returns : goal.returns
returns c = rw (← c.self.view_is) (omega (arith, c.len.ensures, ap length c.self.invariant.is_next, length-next_of c.self.inside.roots))
