-- The row of the name, or none.
use Rattle.std.proofs.Common.{sym, ap, ◌∙◌, [], List, map, length}
use Rattle.gr_terms.specs.declared.Sym.{Sym}
use Rattle.mg_scope.specs.Orders.{Rows, callers_of}
use Rattle.mg_scope.proofs.CallerLemmas.{map_read, row_here, row_none}
use Rattle.mg_scope.proofs.callers.Callers.of.Goals as goal

pub returns-in-Some : goal.returns-in-Some
returns-in-Some c =
    let inside = c.self.inside in
    let rows : List (List Sym) = map (λ row. row.items) inside.rows.items in
    let within = c.self.invariant.0 c.args.name c.in-Some.number (sym c.in-Some.ensures) in
    c.deref.ensures.value ∙ sym (map_read (λ row. row.items) inside.rows.items c.in-Some.number c.index.result.now [] within c.index.ensures)
    ∙ sym (row_here (inside.numbers, rows) c.args.name c.in-Some.number (sym c.in-Some.ensures)) ∙ ap (λ (r : Rows). callers_of r c.args.name) c.self.view_is

pub returns-in-None : goal.returns-in-None
returns-in-None c =
    let rows : List (List Sym) = map (λ row. row.items) c.self.inside.rows.items in
    sym (row_none (c.self.inside.numbers, rows) c.args.name (sym c.in-None.ensures)) ∙ ap (λ (r : Rows). callers_of r c.args.name) c.self.view_is
