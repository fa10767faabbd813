use Rattle.std.proofs.Common.{◌≡◌, take, sym, ◌∙◌}
use Rattle.gr_terms.specs.declared.Sym.{Sym}
use Rattle.gr_terms.specs.declared.Term.TheVariants.{Const, Var}
use Rattle.gr_store.proofs.Trails.{root_by-name}
use Rattle.gr_store.proofs.Solutions.{agrees_solved, joined_terms}
use Rattle.gr_store.proofs.History.{solves_now}
use Rattle.gr_store.proofs.store.Store.constant_of.Goals as goal

pub returns-in-Var-clause-linked : goal.returns-in-Var-clause-linked
returns-in-Var-clause-linked c =
    let s = c.self.inside in
    let past = take s.used.assertions s.kept.items in
    let solved = solves_now s.base past s.terms.1 s.nodes.1 c.self.invariant.history in
    rw (← c.self.view_is) (λ p l.
    let q : Sym = record { 0 = p } in
    let root_is : Var c.in-Var.field-0 ≡ Const q = sym c.in-Var.is ∙ c.root.ensures.value ∙ joined_terms _ _ _ _ solved c.args.t (Const q) l ∙ root_by-name s.terms.1 q in
    cc)

pub returns-in-Const-clause-linked : goal.returns-in-Const-clause-linked
returns-in-Const-clause-linked c =
    let s = c.self.inside in
    let past = take s.used.assertions s.kept.items in
    let solved = solves_now s.base past s.terms.1 s.nodes.1 c.self.invariant.history in
    rw (← c.self.view_is) (solved.is_linked.terms c.args.t (Const c.in-Const.p)
    (sym c.root.ensures.value ∙ c.in-Const.is ∙ sym (root_by-name s.terms.1 c.in-Const.p)))

pub returns-in-Var-clause-one : goal.returns-in-Var-clause-one
returns-in-Var-clause-one c =
    let s = c.self.inside in
    rw (← c.self.view_is) (agrees_solved _ _ _ _ (solves_now s.base (take s.used.assertions s.kept.items) s.terms.1 s.nodes.1 c.self.invariant.history))

pub returns-in-Const-clause-one : goal.returns-in-Const-clause-one
returns-in-Const-clause-one c =
    let s = c.self.inside in
    rw (← c.self.view_is) (agrees_solved _ _ _ _ (solves_now s.base (take s.used.assertions s.kept.items) s.terms.1 s.nodes.1 c.self.invariant.history))
