use Rattle.std.proofs.Common.{Less, Equal, Greater, arith, string_bytes, ◌+◌, ◌-◌, ◌/◌}
use Rattle.td_canon.specs.TreeOrders.{entry_of}
use Rattle.td_canon.proofs.SetLemmas.{Narrows-greater, Narrows-less, compared_as}
use Rattle.td_canon.proofs.tree_set.TreeSet.find.Goals as goal

pub loop-low-preserved-in-Less : goal.loop-low-preserved-in-Less
loop-low-preserved-in-Less c =
    Narrows-less c.args.self.now c.len-high.ensures.set c.loop-low.low c.loop-low.high (c.loop-low.low + (c.loop-low.high - c.loop-low.low) / 2) c.args.text.now c.loop-low.invariant c.at.result.now c.at.ensures.held
    (omega arith) (compared_as (string_bytes c.at.result.now.text) c.args.text.now c.as_str.result.now c.cmp.result Less c.as_str.ensures.value c.cmp.ensures c.in-Less.is)

pub loop-low-preserved : goal.loop-low-preserved
loop-low-preserved c =
    Narrows-greater c.args.self.now c.len-high.ensures.set c.loop-low.low c.loop-low.high (c.loop-low.low + (c.loop-low.high - c.loop-low.low) / 2) c.args.text.now c.loop-low.invariant c.at.result.now c.at.ensures.held
    (omega arith) (omega arith) (compared_as (string_bytes c.at.result.now.text) c.args.text.now c.as_str.result.now c.cmp.result Greater c.as_str.ensures.value c.cmp.ensures c.in-Greater.is)

pub returns-in-Equal : goal.returns-in-Equal
returns-in-Equal c = (
  entry_of c.at.result.now,
  c.at.ensures.held,
  compared_as (string_bytes c.at.result.now.text) c.args.text.now c.as_str.result.now c.cmp.result Equal c.as_str.ensures.value c.cmp.ensures c.in-Equal.is,
)
