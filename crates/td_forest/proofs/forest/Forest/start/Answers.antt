use Rattle.std.proofs.Common.{ℕ, ◌+◌, List, take, arith, get_or, subst, sym, Option, Some}
use Rattle.td_forest.specs.declared.Made.{Made}
use Rattle.td_forest.specs.Nodes.{IsIn}
use Rattle.td_forest.specs.Steps.{forest_of, IsHere}
use Rattle.td_forest.specs.Spans.{IsStart}
use Rattle.td_forest.proofs.Places.{start_none}
use Rattle.td_forest.proofs.Kept.{kept_bound, kept_start}
use Rattle.td_forest.proofs.forest.Forest.start.Goals as goal

pub overflow_add-result : goal.overflow_add-result
overflow_add-result c =
    let f = c.self.inside in
    let i : IsIn (forest_of (take f.count f.made)) c.in-Some.u = rw c.self.view_is (subst (λ (o : Option ℕ). IsHere (forest_of c.args.self.now) o) c.in-Some.is c.requires) in
    let b = kept_bound f.made f.count f.here f.first f.behind c.self.invariant c.in-Some.u i in
    let p = b.some in
    let q = b.high in
    omega arith

pub returns-in-None : goal.returns-in-None
returns-in-None c = subst (λ (o : Option ℕ). IsStart c.args.self.now o 0) (sym c.in-None.is) (start_none c.args.self.now)

pub returns-in-Some : goal.returns-in-Some
returns-in-Some c =
    let f = c.self.inside in
    let i : IsIn (forest_of (take f.count f.made)) c.in-Some.u = rw c.self.view_is (subst (λ (o : Option ℕ). IsHere (forest_of c.args.self.now) o) c.in-Some.is c.requires) in
    subst (λ (o : Option ℕ). IsStart c.args.self.now o (get_or f.first c.in-Some.u 0 + 1)) (sym c.in-Some.is)
    (subst (λ (ms : List Made). IsStart ms (Some c.in-Some.u) (get_or f.first c.in-Some.u 0 + 1)) c.self.view_is
    (kept_start f.made f.count f.here f.first f.behind c.self.invariant c.in-Some.u i))
