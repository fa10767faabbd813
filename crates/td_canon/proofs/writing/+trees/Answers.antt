use Rattle.std.proofs.Common.{drop, arith, rules, refl, sym, ◌∙◌}
use Rattle.std.proofs.lemmas.Bool.{false≢true}
use Rattle.std.proofs.lemmas.Result.{IfOk-weaker}
use Rattle.td_canon.specs.CanonicalTexts.{text_in}
use Rattle.td_canon.proofs.ForestLemmas.{BeginsUnder, WritesTree-root, WritesSomeKids-next, WritesKids-end, begins_under, parent_there, none_past}
use Rattle.td_canon.proofs.writing.+trees.Goals as goal
use Rattle.td_canon.proofs.writing.+trees.Goals.{push_kids-then-kids-test+else-has_parent, push_kids-else-kids-test}

pub push_kids-kids-preserved : goal.push_kids-kids-preserved
push_kids-kids-preserved t c =
    let under = begins_under c.args.nodes.now c.kids.place c.args.at c.get.result.now c.get.ensures (c.has_parent.ensures.0 c.if-has_parent.true) in
    record {
      utf8 = search rules;
      written = WritesSomeKids-next (text_in c.args.symbols.now) c.args.nodes.now c.args.at c.args.draft.now c.kids.place c.in_ok-place.place c.kids.draft c.push.new.self c.push_tree.new.draft c.kids.separator.now
          under c.in_ok-push.ensures c.in_ok-place.ensures.writes c.in_ok-place.ensures.behind c.in_ok-place.ensures.within c.kids.invariant.written;
    }

pub push_kids-returns-in_ok-push-2-clause-writes : goal.push_kids-returns-in_ok-push-2-clause-writes
push_kids-returns-in_ok-push-2-clause-writes t c =
    let over : BeginsUnder c.args.at (drop c.kids.place c.args.nodes.now) → ⊥ =
    λ under. elim c.kids-test.branch [
      | push_kids-then-kids-test+else-has_parent w ↦ false≢true (sym w.if-has_parent.false ∙ w.has_parent.ensures.1 (parent_there c.args.nodes.now c.kids.place c.args.at w.get.result.now w.get.ensures under))
      | push_kids-else-kids-test w ↦ none_past c.args.nodes.now c.kids.place c.args.at (omega arith) under
    ]
    in
    WritesKids-end (text_in c.args.symbols.now) c.args.nodes.now c.args.at c.args.draft.now c.kids.place c.kids.draft c.push-then-place-at.new.self c.kids.separator.now over
    (λ first. absurd (omega arith)) (λ behind. c.in_ok-push-2.ensures) c.kids.invariant.written

pub push_kids-returns-else-place-at-clause-writes : goal.push_kids-returns-else-place-at-clause-writes
push_kids-returns-else-place-at-clause-writes t c =
    let over : BeginsUnder c.args.at (drop c.kids.place c.args.nodes.now) → ⊥ =
    λ under. elim c.kids-test.branch [
      | push_kids-then-kids-test+else-has_parent w ↦ false≢true (sym w.if-has_parent.false ∙ w.has_parent.ensures.1 (parent_there c.args.nodes.now c.kids.place c.args.at w.get.result.now w.get.ensures under))
      | push_kids-else-kids-test w ↦ none_past c.args.nodes.now c.kids.place c.args.at (omega arith) under
    ]
    in
    WritesKids-end (text_in c.args.symbols.now) c.args.nodes.now c.args.at c.args.draft.now c.kids.place c.kids.draft c.kids.draft c.kids.separator.now over
    (λ first. refl) (λ behind. absurd (omega arith)) c.kids.invariant.written

pub push_tree-returns-clause-writes : goal.push_tree-returns-clause-writes
push_tree-returns-clause-writes t c =
    IfOk-weaker c.push_kids.result _ _
    (λ next. WritesTree-root (text_in c.args.symbols.now) c.args.nodes.now c.args.at next c.get.result.now c.args.draft.now c.push_node.new.draft c.push_kids.new.draft c.get.ensures
    c.in_ok-push_node.ensures.writes c.in_ok-push_node.ensures.ordered)
    c.push_kids.ensures.writes
