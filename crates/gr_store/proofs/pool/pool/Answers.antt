use Rattle.std.proofs.Common.{ℕ, List, take, refl, sym, ◌∙◌, subst, arith}
use Rattle.gr_base.specs.Lists.{IsAmong}
use Rattle.gr_store.specs.Rings.{ring_of}
use Rattle.gr_store.specs.State.{assertions_of}
use Rattle.gr_store.proofs.Trails.{Extends-refl, Extends-trans}
use Rattle.gr_store.proofs.IndexLemmas.{node_in, length-assertions_of}
use Rattle.gr_store.proofs.Walks.{HasWalked-start, walk_ends, walk_goes_on, walk_short}
use Rattle.gr_store.proofs.Keeping.{shares_all, shares_more}
use Rattle.gr_store.proofs.pool.pool.Goals as goal

pub walk-init : goal.walk-init
walk-init c = record {
  walked = HasWalked-start c.args.nodes.now c.args.from c.requires.from_ring (omega (arith, c.requires.from_slot, c.requires.indexed.room));
  size = refl;
  extends = Extends-refl c.args.terms.now.1;
  is_linked = λ whole inside links l. l;
  shares = λ pools x i. absurd i;
}

pub returns-then-at-from-clause-shares : goal.returns-then-at-from-clause-shares
returns-then-at-from-clause-shares c = λ pools.
    let h = c.walk.invariant in
    let all = walk_ends c.args.nodes.now c.args.from c.walk.at c.walk.counter c.next-at.result c.requires.from_ring h.walked c.next-at.ensures c.if-at-from.true in
    shares_all c.args.base (assertions_of c.args.kept.now) c.args.nodes.now c.requires.indexed c.args.from c.requires.from_slot c.requires.from_ring c.walk.terms.1 c.args.into
    (λ x i. h.shares pools x (subst (λ (seen : List ℕ). IsAmong seen x) (sym all) i))

pub pool_one-requires-clause-values : goal.pool_one-requires-clause-values
pool_one-requires-clause-values c = rw c.walk.invariant.size c.requires.values

pub pool_one-requires-clause-node_in : goal.pool_one-requires-clause-node_in
pool_one-requires-clause-node_in c =
    let step = walk_goes_on c.args.nodes.now c.args.from c.walk.at c.walk.counter c.next-at.result c.requires.from_ring c.walk.invariant.walked c.next-at.ensures c.if-at-from.false in
    omega (
      arith,
      node_in c.args.base (assertions_of c.args.kept.now) c.args.nodes.now c.requires.indexed c.args.from c.requires.from_slot c.requires.from_ring c.next-at.result step.member,
      length-assertions_of c.args.kept.now,
    )

pub returns-then-not-pool_one-clause-extends : goal.returns-then-not-pool_one-clause-extends
returns-then-not-pool_one-clause-extends c = Extends-trans _ _ _ c.walk.invariant.extends c.if-not-pool_one.ensures.extends

pub returns-then-not-pool_one-clause-is_linked : goal.returns-then-not-pool_one-clause-is_linked
returns-then-not-pool_one-clause-is_linked c = λ whole inside links l.
    let step = walk_goes_on c.args.nodes.now c.args.from c.walk.at c.walk.counter c.next-at.result c.requires.from_ring c.walk.invariant.walked c.next-at.ensures c.if-at-from.false in
    c.if-not-pool_one.ensures.is_linked c.args.from (c.requires.from_ring.only c.next-at.result step.member).1 whole inside links (c.walk.invariant.is_linked whole inside links l)

pub returns-then-not-pool_one-clause-clash : goal.returns-then-not-pool_one-clause-clash
returns-then-not-pool_one-clause-clash c = λ whole inside links l.
    let step = walk_goes_on c.args.nodes.now c.args.from c.walk.at c.walk.counter c.next-at.result c.requires.from_ring c.walk.invariant.walked c.next-at.ensures c.if-at-from.false in
    c.if-not-pool_one.ensures.clash c.args.from (c.requires.from_ring.only c.next-at.result step.member).1 whole inside links (c.walk.invariant.is_linked whole inside links l)

pub walk-preserved : goal.walk-preserved
walk-preserved c =
    let h = c.walk.invariant in
    let one = c.if-not-pool_one.ensures in
    let ring = ring_of c.args.nodes.now.1 c.args.from in
    let step = walk_goes_on c.args.nodes.now c.args.from c.walk.at c.walk.counter c.next-at.result c.requires.from_ring h.walked c.next-at.ensures c.if-at-from.false in
    record {
      walked = step.walked;
      size = one.size ∙ h.size;
      extends = Extends-trans _ _ _ h.extends one.extends;
      is_linked = λ whole inside links l. one.is_linked c.args.from (c.requires.from_ring.only c.next-at.result step.member).1 whole inside links (h.is_linked whole inside links l);
      shares = λ pools. rw step.more (shares_more c.args.base (assertions_of c.args.kept.now) c.args.nodes.now.1 c.args.terms.now.1 c.walk.terms.1 c.pool_one.new.terms.1 c.args.into (take c.walk.counter ring) c.next-at.result
          h.extends one.extends (h.shares pools) (one.shares (λ s t attr a b same i j. h.extends.keeps a b (pools s t attr a b same i j))));
    }

pub unreachable-requires : goal.unreachable-requires
unreachable-requires c =
    let short = walk_short c.args.nodes.now c.args.from c.walk.at c.walk.counter c.requires.from_ring (omega (arith, c.requires.from_slot, c.requires.indexed.room)) c.walk.invariant.walked in
    omega (arith, short, c.walk-test.false, c.size-end.ensures)
