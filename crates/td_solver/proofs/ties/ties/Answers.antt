use Rattle.std.proofs.Common.{ap, sym, ◌∙◌}
use Rattle.std.specs.Prelude.{filter}
use Rattle.td_solver.specs.Ties.{is_of}
use Rattle.td_solver.proofs.TieLemmas.{filter_more, filter_skip, take_whole}
use Rattle.td_solver.proofs.ties.ties.Goals.{then-is_of+in_ok-push, else-is_of}
use Rattle.td_solver.proofs.ties.ties.Goals as goal

pub loop-related-preserved : goal.loop-related-preserved
loop-related-preserved c = elim c.if-is_of.branch [
  | then-is_of+in_ok-push w ↦
      rw (w.ties-is, w.in_ok-push.ensures.ok) (filter_more (is_of c.args.node) c.args.relations.now c.loop-related.ties c.loop-related.related-index c.loop-related-test.true c.loop-related.invariant (sym w.if-is_of.ensures))
  | else-is_of w ↦
      rw w.ties-is (filter_skip (is_of c.args.node) c.args.relations.now c.loop-related.ties c.loop-related.related-index c.loop-related-test.true c.loop-related.invariant (sym w.if-is_of.ensures))
]

pub returns : goal.returns
returns c = c.loop-related.invariant ∙ ap (filter (is_of c.args.node)) (take_whole c.args.relations.now c.loop-related.related-index c.loop-related-test.false)
