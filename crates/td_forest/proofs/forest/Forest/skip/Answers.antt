use Rattle.std.proofs.Common.{◌≡◌, ℕ, arith, subst}
use Rattle.td_forest.specs.Spans.{AreSkipped}
use Rattle.td_forest.proofs.Places.{skip_more, skip_none}
use Rattle.td_forest.proofs.Kept.{read_end}
use Rattle.td_forest.proofs.forest.Forest.skip.Goals as goal

pub loop-tree-init : goal.loop-tree-init
loop-tree-init c = skip_none c.args.self.now c.args.place

pub loop-tree-preserved : goal.loop-tree-preserved
loop-tree-preserved c = skip_more c.args.self.now c.args.place c.loop-tree._tree c.loop-tree.at c.end_of-at.result c.loop-tree.invariant
    (read_end c.args.self.now c.args.ends.now c.loop-tree.at c.end_of-at.result c.requires c.end_of-at.ensures)

pub returns : goal.returns
returns c =
    let e : c.loop-tree._tree ≡ c.args.trees = omega arith in
    subst (λ (k : ℕ). AreSkipped c.args.self.now c.args.place k c.loop-tree.at) e c.loop-tree.invariant
