use Rattle.std.proofs.Common.{sym, ◌∙◌, ◌≤◌, ap, arith}
use Rattle.std.proofs.lemmas.Grind.{common_steps}
use Rattle.gr_store.specs.Contents.{rank}
use Rattle.gr_store.proofs.Trails.{Joins-bind, Joins-sym, Extends-refl, Extends-push}
use Rattle.gr_store.proofs.bindings.Bindings.unify.Goals as goal

pub returns-in-Const-Var-clause-joined : goal.returns-in-Const-Var-clause-joined
returns-in-Const-Var-clause-joined c =
    rw c.bind.ensures (Joins-sym _ _ _ _ (Joins-bind c.args.self.now.1 (record { var = c.in-Const-Var.j; to = c.root-a.result }) c.args.b c.args.a
    (omega (arith, ap rank c.in-Const-Var.is-0)) (sym c.root-b.ensures.value ∙ c.in-Const-Var.is-1) (sym c.root-a.ensures.value)))

pub returns-in-Var-Const-clause-joined : goal.returns-in-Var-Const-clause-joined
returns-in-Var-Const-clause-joined c =
    rw c.bind-in-Var-Const.ensures (Joins-bind c.args.self.now.1 (record { var = c.in-Var-Const.i; to = c.root-b.result }) c.args.a c.args.b
    (omega (arith, ap rank c.in-Var-Const.is-1)) (sym c.root-a.ensures.value ∙ c.in-Var-Const.is-0) (sym c.root-b.ensures.value))

pub returns-then-i-j-clause-joined : goal.returns-then-i-j-clause-joined
returns-then-i-j-clause-joined c =
    rw c.bind-then-i-j.ensures (Joins-sym _ _ _ _ (Joins-bind c.args.self.now.1 (record { var = c.in-Var-Var.j; to = c.root-a.result }) c.args.b c.args.a
    (omega (arith, ap rank c.in-Var-Var.is-0)) (sym c.root-b.ensures.value ∙ c.in-Var-Var.is-1) (sym c.root-a.ensures.value)))

pub returns-else-i-j-clause-joined : goal.returns-else-i-j-clause-joined
returns-else-i-j-clause-joined c =
    let low : rank c.root-b.result ≤ c.in-Var-Var.i = grind (arith, common_steps) in
    rw c.bind-else-i-j.ensures (Joins-bind c.args.self.now.1 (record { var = c.in-Var-Var.i; to = c.root-b.result }) c.args.a c.args.b
    low (sym c.root-a.ensures.value ∙ c.in-Var-Var.is-0) (sym c.root-b.ensures.value))

pub returns-then-eq-clause-extends : goal.returns-then-eq-clause-extends
returns-then-eq-clause-extends c = Extends-refl c.args.self.now.1

pub returns-in-Const-Const-clause-extends : goal.returns-in-Const-Const-clause-extends
returns-in-Const-Const-clause-extends c = Extends-refl c.args.self.now.1

pub returns-in-Const-Var-clause-extends : goal.returns-in-Const-Var-clause-extends
returns-in-Const-Var-clause-extends c = rw c.bind.ensures (Extends-push c.args.self.now.1 _)

pub returns-in-Var-Const-clause-extends : goal.returns-in-Var-Const-clause-extends
returns-in-Var-Const-clause-extends c = rw c.bind-in-Var-Const.ensures (Extends-push c.args.self.now.1 _)

pub returns-then-i-j-clause-extends : goal.returns-then-i-j-clause-extends
returns-then-i-j-clause-extends c = rw c.bind-then-i-j.ensures (Extends-push c.args.self.now.1 _)

pub returns-else-i-j-clause-extends : goal.returns-else-i-j-clause-extends
returns-else-i-j-clause-extends c = rw c.bind-else-i-j.ensures (Extends-push c.args.self.now.1 _)
