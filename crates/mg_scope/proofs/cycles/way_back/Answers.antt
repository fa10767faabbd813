-- Each name that is pushed is the nearest of those that the one before it mentions, so it is at fewer steps.
use Rattle.std.proofs.Common.{subst, sym, ap, ◌∙◌, ◌≡◌, List, None}
use Rattle.gr_base.specs.Lists.{Each}
use Rattle.gr_terms.specs.declared.Sym.{Sym}
use Rattle.mg_scope.specs.Classes.{mentioned}
use Rattle.mg_scope.specs.Tables.{value_at}
use Rattle.mg_scope.specs.Orders.{IsNearest}
use Rattle.mg_scope.proofs.StepLemmas.{way_begins, way_goes_on, nearest_is, no_way, nearest_closer, some_closer}
use Rattle.mg_scope.proofs.cycles.way_back.Goals as goal

pub returns-in_default : goal.returns-in_default
returns-in_default c =
    no_way (mentioned c.args.directory.now) c.args.goal c.args.steps.now c.requires
    (subst (λ (z : List Sym). Each (λ (x : Sym). value_at c.args.steps.now x ≡ None) z) c.mentioned.ensures c.in_default.ensures)

pub loop-at-smaller : goal.loop-at-smaller
loop-at-smaller c =
    nearest_closer (mentioned c.args.directory.now) c.args.goal c.args.steps.now c.requires c.loop-at.at c.loop-at.left c.in-Some-nearest.count c.in-Some-nearest.next c.loop-at.invariant.number
    (λ e. c.loop-at-test.true (ap (λ (s : Sym). s.0) e))
    (subst (λ (z : List Sym). IsNearest c.args.steps.now z c.in-Some-nearest.count c.in-Some-nearest.next) c.mentioned-in-loop-at.ensures c.in-Some-nearest.ensures)

pub loop-at-preserved : goal.loop-at-preserved
loop-at-preserved c =
    let near = subst (λ (z : List Sym). IsNearest c.args.steps.now z c.in-Some-nearest.count c.in-Some-nearest.next) c.mentioned-in-loop-at.ensures c.in-Some-nearest.ensures in
    record {
      way = way_goes_on (mentioned c.args.directory.now) c.args.goal c.loop-at.at c.in-Some-nearest.next c.loop-at.names c.push-in-loop-at.new.self c.loop-at.invariant.way
          (λ e. c.loop-at-test.true (ap (λ (s : Sym). s.0) e)) c.in_ok-push-2.ensures.ok
          (nearest_is (mentioned c.args.directory.now) c.args.goal c.args.steps.now c.requires (mentioned c.args.directory.now c.loop-at.at) c.in-Some-nearest.count c.in-Some-nearest.next near);
      number = near.3;
    }

pub unreachable-requires : goal.unreachable-requires
unreachable-requires c =
    some_closer (mentioned c.args.directory.now) c.args.goal c.args.steps.now c.requires c.loop-at.at c.loop-at.left c.loop-at.invariant.number
    (λ e. c.loop-at-test.true (ap (λ (s : Sym). s.0) e))
    (subst (λ (z : List Sym). Each (λ (x : Sym). value_at c.args.steps.now x ≡ None) z) c.mentioned-in-loop-at.ensures c.in-None.ensures)
