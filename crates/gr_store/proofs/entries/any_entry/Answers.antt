use Rattle.std.proofs.Common.{take, subst, arith}
use Rattle.gr_store.specs.Rings.{ring_of}
use Rattle.gr_store.specs.Index.{HasNoEntryNode}
use Rattle.gr_store.specs.State.{assertions_of}
use Rattle.gr_store.proofs.IndexLemmas.{none_found, none_more, node_in, class_entry, length-assertions_of}
use Rattle.gr_store.proofs.Walks.{HasWalked-start, walk_ends, walk_goes_on, walk_short}
use Rattle.gr_store.proofs.entries.any_entry.Goals as goal

pub walk-init : goal.walk-init
walk-init c = record {
  walked = HasWalked-start c.args.nodes.now c.args.root c.requires.ring (omega (arith, c.requires.slot, c.requires.indexed.room));
  none = λ x w none e. none;
}

pub next-at-requires : goal.next-at-requires
next-at-requires c = c.walk.invariant.walked.in_range

pub returns-then-at-root : goal.returns-then-at-root
returns-then-at-root c =
    let net = assertions_of c.args.kept.now in
    let nodes = c.args.nodes.now in
    let all = walk_ends nodes c.args.root c.walk.at c.walk.counter c.next-at.result c.requires.ring c.walk.invariant.walked c.next-at.ensures c.if-at-root.true in
    none_found c.args.base net nodes c.requires.indexed c.args.root c.requires.slot c.requires.ring c.args.attr
    (subst (HasNoEntryNode c.args.base net c.args.attr) all c.walk.invariant.none)

pub value_at-requires : goal.value_at-requires
value_at-requires c =
    let step = walk_goes_on c.args.nodes.now c.args.root c.walk.at c.walk.counter c.next-at.result c.requires.ring c.walk.invariant.walked c.next-at.ensures c.if-at-root.false in
    omega (
      arith,
      node_in c.args.base (assertions_of c.args.kept.now) c.args.nodes.now c.requires.indexed c.args.root c.requires.slot c.requires.ring c.next-at.result step.member,
      length-assertions_of c.args.kept.now,
    )

pub returns-in-Some : goal.returns-in-Some
returns-in-Some c =
    let step = walk_goes_on c.args.nodes.now c.args.root c.walk.at c.walk.counter c.next-at.result c.requires.ring c.walk.invariant.walked c.next-at.ensures c.if-at-root.false in
    class_entry c.args.base (assertions_of c.args.kept.now) c.args.nodes.now c.requires.indexed c.args.root c.next-at.result c.args.attr c.in-Some.value
    (c.requires.ring.only c.next-at.result step.member).1 c.in-Some.ensures

pub walk-preserved : goal.walk-preserved
walk-preserved c =
    let net = assertions_of c.args.kept.now in
    let ring = ring_of c.args.nodes.now.1 c.args.root in
    let step = walk_goes_on c.args.nodes.now c.args.root c.walk.at c.walk.counter c.next-at.result c.requires.ring c.walk.invariant.walked c.next-at.ensures c.if-at-root.false in
    record {
      walked = step.walked;
      none = rw step.more (none_more c.args.base net c.args.attr (take c.walk.counter ring) c.next-at.result c.walk.invariant.none c.in_default.ensures);
    }

pub unreachable-requires : goal.unreachable-requires
unreachable-requires c =
    let short = walk_short c.args.nodes.now c.args.root c.walk.at c.walk.counter c.requires.ring (omega (arith, c.requires.slot, c.requires.indexed.room)) c.walk.invariant.walked in
    omega (arith, short, c.walk-test.false, c.size-end.ensures)
