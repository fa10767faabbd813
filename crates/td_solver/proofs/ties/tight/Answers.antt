use Rattle.std.proofs.Common.{ap, sym, ◌∙◌}
use Rattle.std.specs.Prelude.{filter}
use Rattle.td_solver.specs.Ties.{is_tight_before}
use Rattle.td_solver.proofs.TieLemmas.{filter_more, filter_skip, take_whole}
use Rattle.td_solver.proofs.ties.tight.Goals.{then-is_tight_before+in_ok-push, else-is_tight_before}
use Rattle.td_solver.proofs.ties.tight.Goals as goal

pub loop-related-preserved : goal.loop-related-preserved
loop-related-preserved c = elim c.if-is_tight_before.branch [
  | then-is_tight_before+in_ok-push w ↦
      rw (w.tight-is, w.in_ok-push.ensures.ok) (filter_more (is_tight_before c.args.node) c.args.relations.now c.loop-related.tight c.loop-related.related-index c.loop-related-test.true c.loop-related.invariant (sym w.if-is_tight_before.ensures))
  | else-is_tight_before w ↦
      rw w.tight-is (filter_skip (is_tight_before c.args.node) c.args.relations.now c.loop-related.tight c.loop-related.related-index c.loop-related-test.true c.loop-related.invariant (sym w.if-is_tight_before.ensures))
]

pub returns : goal.returns
returns c = c.loop-related.invariant ∙ ap (filter (is_tight_before c.args.node)) (take_whole c.args.relations.now c.loop-related.related-index c.loop-related-test.false)
