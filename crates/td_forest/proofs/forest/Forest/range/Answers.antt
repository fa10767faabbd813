use Rattle.std.proofs.Common.{ℕ, ◌+◌, List, take, arith, get_or, subst, sym, Option, Some}
use Rattle.td_forest.specs.declared.Made.{Made}
use Rattle.td_forest.specs.Nodes.{IsIn}
use Rattle.td_forest.specs.Steps.{forest_of, IsHere}
use Rattle.td_forest.specs.Spans.{IsRange}
use Rattle.td_forest.proofs.Widths.{range_none, range_some}
use Rattle.td_forest.proofs.Kept.{kept_bound, kept_once}
use Rattle.td_forest.proofs.forest.Forest.range.Goals as goal

pub overflow_add-result : goal.overflow_add-result
overflow_add-result c =
    let f = c.self.inside in
    let i : IsIn (forest_of (take f.count f.made)) c.in-Some.u = rw c.self.view_is (subst (λ (o : Option ℕ). IsHere (forest_of c.args.self.now) o) c.in-Some.is c.requires) in
    let b = kept_bound f.made f.count f.here f.first f.behind c.self.invariant c.in-Some.u i in
    let p = b.some in
    let q = b.high in
    omega arith

pub returns-in-None : goal.returns-in-None
returns-in-None c = subst (λ (o : Option ℕ). IsRange c.args.self.now o 0 c.size.result) (sym c.in-None.is) (range_none c.args.self.now c.size.result c.size.ensures.is c.size.ensures.few)

pub returns-in-Some : goal.returns-in-Some
returns-in-Some c =
    let f = c.self.inside in
    let i : IsIn (forest_of (take f.count f.made)) c.in-Some.u = rw c.self.view_is (subst (λ (o : Option ℕ). IsHere (forest_of c.args.self.now) o) c.in-Some.is c.requires) in
    let b = kept_bound f.made f.count f.here f.first f.behind c.self.invariant c.in-Some.u i in
    subst (λ (o : Option ℕ). IsRange c.args.self.now o (get_or f.first c.in-Some.u 0 + 1) (get_or f.behind c.in-Some.u 0)) (sym c.in-Some.is)
    (subst (λ (ms : List Made). IsRange ms (Some c.in-Some.u) (get_or f.first c.in-Some.u 0 + 1) (get_or f.behind c.in-Some.u 0)) c.self.view_is
    (range_some (take f.count f.made) f.here f.first f.behind c.in-Some.u (kept_once f.made f.count f.here f.first f.behind c.self.invariant) c.self.invariant.places i b.high))
