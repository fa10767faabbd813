use Rattle.std.proofs.Common.{◌≢◌, ℕ, sym, ◌∙◌, ap, arith}
use Rattle.gr_terms.specs.declared.Term.TheVariants.{Var}
use Rattle.gr_store.proofs.Trails.{Joins-bind, Joins-sym, Extends-push}
use Rattle.gr_store.proofs.rings.Rings.join.Goals as goal

pub returns-then-one-two-clause-extends : goal.returns-then-one-two-clause-extends
returns-then-one-two-clause-extends c = rw c.bind.ensures (Extends-push c.args.self.now.1 _)

pub returns-then-one-two-clause-joined : goal.returns-then-one-two-clause-joined
returns-then-one-two-clause-joined c =
    rw c.bind.ensures (Joins-sym _ _ _ _ (Joins-bind c.args.self.now.1 (record { var = c.root-two.result; to = Var c.root-one.result }) (Var c.args.b) (Var c.args.a)
    (omega (arith, c.if-one-two.true)) c.root-two.ensures.value c.root-one.ensures.value))

pub returns-else-one-two-clause-extends : goal.returns-else-one-two-clause-extends
returns-else-one-two-clause-extends c = rw c.bind-else-one-two.ensures (Extends-push c.args.self.now.1 _)

pub returns-else-one-two-clause-joined : goal.returns-else-one-two-clause-joined
returns-else-one-two-clause-joined c =
    let differ : c.root-one.result ≢ c.root-two.result =
    λ same. c.requires.differ (c.root-one.ensures.value ∙ ap (λ (k : ℕ). Var k) same ∙ sym c.root-two.ensures.value) in
    rw c.bind-else-one-two.ensures (Joins-bind c.args.self.now.1 (record { var = c.root-one.result; to = Var c.root-two.result }) (Var c.args.a) (Var c.args.b)
    (omega (arith, c.if-one-two.false, differ)) c.root-one.ensures.value c.root-two.ensures.value)
