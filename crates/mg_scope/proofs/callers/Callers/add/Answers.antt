-- The caller goes last in the row of the name.
use Rattle.std.proofs.Common.{sym, ap, ◌∙◌, ◌≡◌, subst, List, [], ◌∷◌, ◌++◌, map, get_or}
use Rattle.std.proofs.lemmas.List.{map-set}
use Rattle.gr_terms.specs.declared.Sym.{Sym}
use Rattle.mg_scope.specs.Orders.{Rows, AddsCaller}
use Rattle.mg_scope.proofs.CallerLemmas.{map_read, adds_to_row}
use Rattle.mg_scope.proofs.callers.Callers.add.Goals as goal

pub returns-in_ok-push-in-Some : goal.returns-in_ok-push-in-Some
returns-in_ok-push-in-Some c =
    let inside = c.self.inside in
    let rows : List (List Sym) = map (λ row. row.items) inside.rows.items in
    let old : Rows = (inside.numbers, rows) in
    let at = sym c.in-Some.ensures in
    let row : c.push.new.self.items ≡ get_or rows c.in-Some.number [] ++ c.args.caller ∷ [] =
    c.in_ok-push-in-Some.ensures.items
    ∙ ap (λ (z : List Sym). z ++ c.args.caller ∷ [])
    (sym (map_read (λ row. row.items) inside.rows.items c.in-Some.number c.index_mut.result.now [] (c.self.invariant.0 c.args.name c.in-Some.number at) c.index_mut.ensures.value))
    in
    rw (← c.self.view_is)
    (subst (λ (z : List (List Sym)). AddsCaller old (inside.numbers, z) c.args.name c.args.caller)
    (sym (map-set (λ row. row.items) inside.rows.items c.in-Some.number c.push.new.self))
    (adds_to_row old c.in-Some.number c.args.name c.args.caller c.push.new.self.items c.self.invariant at row))
