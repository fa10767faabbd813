use Rattle.std.proofs.Common.{◌≡◌, ◌<◌, zero, suc, ℕ, Bool, true, false, length, refl, ap, ap₂, sym, ◌∙◌, subst, arith, Some, slice_get}
use Rattle.std.proofs.lemmas.Bool.{eqb-false, false≢true}
use Rattle.mg_expand.specs.Progress.{Progress}
use Rattle.mg_expand.specs.Walks.{AreExpansions}
use Rattle.mg_expand.specs.Steps.{Tells, is_too_large}
use Rattle.mg_expand.specs.Ways.{Underway}
use Rattle.mg_expand.proofs.WayLemmas.{one-left, told-next, underway-next, answer-cut, answer-next}
use Rattle.mg_expand.proofs.expander.Expander.next.Goals as goal

nothing_left : (n : ℕ) → (0 < n → false ≡ true) → n ≡ 0
nothing_left zero f = refl
nothing_left (suc n) f = absurd (false≢true (f (omega arith)))

pub returns-then-not-spend-clause-ok : goal.returns-then-not-spend-clause-ok
returns-then-not-spend-clause-ok c = λ ws h.
    let u = c.self.invariant c.if-self-2.false c.if-self.false in
    let some : c.self.inside.walker.forks.len ≡ 0 → ⊥ = eqb-false c.self.inside.walker.forks.len 0 (sym c.is_empty.ensures ∙ c.if-is_empty.false) in
    let fork : 0 < length c.self.inside.walker.forks.items = omega (arith, some, c.self.inside.walker.forks.ok.0) in
    let left = one-left c.self.inside.resolved.now c.self.inside.class c.self.inside.given c.self.inside.walker ws u fork
    (subst (λ (q : Progress). AreExpansions q.metagrammar q.class ws) (sym c.self.view_is) h) in
    answer-cut ws c.args.self.now c.args.budget.now.left c.spend.new.self.left
    (ap (λ (q : Progress). q.failed) (sym c.self.view_is) ∙ c.if-self.false)
    (ap (λ (q : Progress). q.too_large) (sym c.self.view_is) ∙ c.if-self-2.false)
    (subst (λ (q : Progress). q.given < length ws) c.self.view_is left)
    (nothing_left c.args.budget.now.left c.if-not-spend.ensures.some.1)
    (ap (λ b. b.left) c.if-not-spend.ensures.none)

pub invariant_of-self-in-Ok : goal.invariant_of-self-in-Ok
invariant_of-self-in-Ok c = λ p q.
    let u = c.self.invariant c.if-self-2.false c.if-self.false in
    let more : c.in-Some.given ≡ suc c.self.inside.given = omega (arith, c.in-Some.ensures.1) in
    subst (λ k. Underway c.self.inside.resolved.now c.self.inside.class k c.give.new.self) (sym more)
    (underway-next c.self.inside.resolved.now c.self.inside.class c.self.inside.given c.self.inside.walker c.give.new.self c.in-Ok.step u (c.in-Ok.ensures u.outs u.stands) c.self.inside.failed
    (sym c.is_too_large-self-inside.ensures ∙ p) q)

pub returns-in-Ok-clause-ok : goal.returns-in-Ok-clause-ok
returns-in-Ok-clause-ok c = λ ws h.
    let u = c.self.invariant c.if-self-2.false c.if-self.false in
    let more : c.in-Some.given ≡ suc c.self.inside.given = omega (arith, c.in-Some.ensures.1) in
    let r = told-next c.self.inside.resolved.now c.self.inside.class c.self.inside.given c.self.inside.walker c.give.new.self ws c.in-Ok.step u (c.in-Ok.ensures u.outs u.stands)
    (subst (λ (q : Progress). AreExpansions q.metagrammar q.class ws) (sym c.self.view_is) h) in
    let new : Progress = record {
      metagrammar = c.self.inside.resolved.now;
      class = c.self.inside.class;
      given = c.in-Some.given;
      too_large = c.is_too_large-self-inside.result;
      failed = c.self.inside.failed;
    } in
    let old : Progress = record {
      metagrammar = c.self.inside.resolved.now;
      class = c.self.inside.class;
      given = c.self.inside.given;
      too_large = c.self.inside.too_large;
      failed = c.self.inside.failed;
    } in
    answer-next ws c.args.self.now new c.args.budget.now.left c.spend.new.self.left c.in-Ok.step
    (ap (λ (q : Progress). q.failed) (sym c.self.view_is) ∙ c.if-self.false)
    (ap (λ (q : Progress). q.too_large) (sym c.self.view_is) ∙ c.if-self-2.false)
    r.0
    (subst (λ (q : Progress). slice_get ws q.given ≡ Some r.0) c.self.view_is r.1)
    (subst (λ (q : Progress). Tells q.metagrammar r.0 c.in-Ok.step) c.self.view_is r.2)
    c.if-not-spend.ensures.spent
    (subst (λ (q : Progress). new ≡ record q { given = suc q.given; too_large = is_too_large c.in-Ok.step }) c.self.view_is
    (ap₂ (λ (a : ℕ) (b : Bool). record old { given = a; too_large = b }) more c.is_too_large-self-inside.ensures))
