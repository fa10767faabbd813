use Rattle.std.proofs.Common.{refl, arith}
use Rattle.std.proofs.lemmas.Bool.{false≢true}
use Rattle.gr_store.proofs.Walks.{walk_length, walk_goes_on, walk_short}
use Rattle.gr_store.proofs.rings.Rings.is_no_larger.Goals as goal

pub returns-then-at-one : goal.returns-then-at-one
returns-then-at-one c =
    let h = c.walk.invariant in
    let done = walk_length c.args.self.now c.args.one c.walk.at c.walk.counter c.next-at.result c.requires.one_ring h.first c.next-at.ensures c.if-at-one.true in
    (λ t. omega (arith, done, h.second.within), λ le. refl)

pub returns-then-beside-two : goal.returns-then-beside-two
returns-then-beside-two c =
    let h = c.walk.invariant in
    let step = walk_goes_on c.args.self.now c.args.one c.walk.at c.walk.counter c.next-at.result c.requires.one_ring h.first c.next-at.ensures c.if-at-one.false in
    let done = walk_length c.args.self.now c.args.two c.walk.beside c.walk.counter c.next-beside.result c.requires.two_ring h.second c.next-beside.ensures c.if-beside-two.true in
    (λ t. absurd (false≢true t), λ le. absurd (omega (arith, done, step.below, le)))

pub walk-preserved : goal.walk-preserved
walk-preserved c =
    let h = c.walk.invariant in
    let one = walk_goes_on c.args.self.now c.args.one c.walk.at c.walk.counter c.next-at.result c.requires.one_ring h.first c.next-at.ensures c.if-at-one.false in
    let two = walk_goes_on c.args.self.now c.args.two c.walk.beside c.walk.counter c.next-beside.result c.requires.two_ring h.second c.next-beside.ensures c.if-beside-two.false in
    record { first = one.walked; second = two.walked }

pub unreachable-requires : goal.unreachable-requires
unreachable-requires c =
    let short = walk_short c.args.self.now c.args.one c.walk.at c.walk.counter c.requires.one_ring c.requires.one_in c.walk.invariant.first in
    omega (arith, short, c.walk-test.false, c.size-end.ensures)
