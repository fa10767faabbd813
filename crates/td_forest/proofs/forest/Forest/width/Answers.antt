use Rattle.std.proofs.Common.{◌≡◌, ℕ, arith, subst}
use Rattle.td_forest.specs.Spans.{IsCounted}
use Rattle.td_forest.proofs.Kept.{read_end}
use Rattle.td_forest.proofs.Widths.{counted_none, counted_end, counted_more, counted_full}
use Rattle.td_forest.proofs.forest.Forest.width.Goals as goal

pub loop-trees-init : goal.loop-trees-init
loop-trees-init c = counted_none c.args.self.now c.args.under c.range-start.result.0 c.range-start.result.1 c.range-start.ensures

pub returns-then-at-end-clause-is : goal.returns-then-at-end-clause-is
returns-then-at-end-clause-is c = counted_end c.args.self.now c.args.under c.range-start.result.0 c.range-start.result.1 c.range-start.ensures c.loop-trees.trees c.loop-trees.at c.loop-trees.invariant c.if-at-end.true

pub loop-trees-preserved : goal.loop-trees-preserved
loop-trees-preserved c =
    counted_more c.args.self.now c.args.under c.range-start.result.0 c.range-start.result.1 c.range-start.ensures c.loop-trees.trees c.loop-trees.at c.end_of-at.result c.loop-trees.invariant c.if-at-end.false
    (read_end c.args.self.now c.tree_ends-ends.result c.loop-trees.at c.end_of-at.result c.tree_ends-ends.ensures c.end_of-at.ensures)

pub returns-clause-is : goal.returns-clause-is
returns-clause-is c =
    let e : c.loop-trees.trees ≡ 24 = omega arith in
    counted_full c.args.self.now c.args.under c.range-start.result.0 c.range-start.result.1 c.range-start.ensures c.loop-trees.at
    (subst (λ (k : ℕ). IsCounted c.args.self.now c.args.under c.range-start.result.0 k c.loop-trees.at) e c.loop-trees.invariant)
