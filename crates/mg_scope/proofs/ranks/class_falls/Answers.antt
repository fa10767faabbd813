use Rattle.std.proofs.Common.{inl, inr, sym, ◌∙◌, ◌≤◌, subst, true≢false}
use Rattle.gr_base.specs.Lists.{Each}
use Rattle.mg_scope.specs.Classes.{mentioned}
use Rattle.mg_scope.specs.Orders.{rank_of}
use Rattle.mg_scope.proofs.ranks.class_falls.Goals as goal

pub returns-then-not-is_first : goal.returns-then-not-is_first
returns-then-not-is_first c = λ _. inl (c.is_first.ensures.later c.requires.0 c.requires.1 c.requires.2 (λ yes. true≢false (sym yes ∙ c.if-not-is_first.true)))

pub returns : goal.returns
returns c = λ yes.
    let t = c.args.ranks.now in
    inr
    (subst (λ n. Each (λ x. rank_of t x ≤ n) (mentioned c.args.directory.now c.args.name)) c.rank.ensures
    (subst (Each (λ x. rank_of t x ≤ c.rank.result)) c.mentioned.ensures (c.are_within.ensures yes)))
