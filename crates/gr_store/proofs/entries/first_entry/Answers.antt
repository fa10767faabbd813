use Rattle.std.proofs.Common.{ℕ, List, take, subst, arith}
use Rattle.gr_store.specs.Rings.{ring_of}
use Rattle.gr_store.specs.Index.{IsLeastNode}
use Rattle.gr_store.specs.State.{assertions_of}
use Rattle.gr_store.proofs.IndexLemmas.{none_found, first_found, node_in, length-assertions_of}
use Rattle.gr_store.proofs.Walks.{walk_ends, walk_goes_on, walk_short}
use Rattle.gr_store.proofs.entries.first_entry.Goals as goal

pub earlier-found-requires : goal.earlier-found-requires
earlier-found-requires c =
    let step = walk_goes_on c.args.nodes.now c.args.root c.walk.at c.walk.counter c.next-at.result c.requires.ring c.walk.invariant.walked c.next-at.ensures c.if-at-root.false in
    omega (
      arith,
      node_in c.args.base (assertions_of c.args.kept.now) c.args.nodes.now c.requires.indexed c.args.root c.requires.slot c.requires.ring c.next-at.result step.member,
      length-assertions_of c.args.kept.now,
    )

pub walk-preserved : goal.walk-preserved
walk-preserved c =
    let ring = ring_of c.args.nodes.now.1 c.args.root in
    let step = walk_goes_on c.args.nodes.now c.args.root c.walk.at c.walk.counter c.next-at.result c.requires.ring c.walk.invariant.walked c.next-at.ensures c.if-at-root.false in
    record { walked = step.walked; least = rw step.more (c.earlier-found.ensures (take c.walk.counter ring) c.walk.invariant.least) }

pub unreachable-requires : goal.unreachable-requires
unreachable-requires c =
    let short = walk_short c.args.nodes.now c.args.root c.walk.at c.walk.counter c.requires.ring (omega (arith, c.requires.slot, c.requires.indexed.room)) c.walk.invariant.walked in
    omega (arith, short, c.walk-test.false, c.size-end.ensures)

pub returns-in_err-value : goal.returns-in_err-value
returns-in_err-value c =
    let net = assertions_of c.args.kept.now in
    let nodes = c.args.nodes.now in
    let all = walk_ends nodes c.args.root c.walk.at c.walk.counter c.next-at.result c.requires.ring c.walk.invariant.walked c.next-at.ensures c.if-at-root.true in
    let least = subst (λ (seen : List ℕ). IsLeastNode c.args.base net c.args.attr seen c.walk.found) all c.walk.invariant.least in
    rw c.from_residual.ensures (none_found c.args.base net nodes c.requires.indexed c.args.root c.requires.slot c.requires.ring c.args.attr (rw c.in_err-value.was at least))

pub returns-then-at-root : goal.returns-then-at-root
returns-then-at-root c =
    let net = assertions_of c.args.kept.now in
    let nodes = c.args.nodes.now in
    let all = walk_ends nodes c.args.root c.walk.at c.walk.counter c.next-at.result c.requires.ring c.walk.invariant.walked c.next-at.ensures c.if-at-root.true in
    let least = subst (λ (seen : List ℕ). IsLeastNode c.args.base net c.args.attr seen c.walk.found) all c.walk.invariant.least in
    first_found c.args.base net nodes c.requires.indexed c.args.root c.requires.slot c.requires.ring c.args.attr (c.in_ok-value.field-0-0, c.in_ok-value.value)
    (rw c.in_ok-value.was at least)
