-- The new row goes last, and its name gets its number.
use Rattle.std.proofs.Common.{sym, ap, ◌∙◌, ◌≡◌, subst, List, [], ◌∷◌, map, length, ℕ, arith}
use Rattle.std.proofs.lemmas.List.{length-map}
use Rattle.gr_terms.specs.declared.Sym.{Sym}
use Rattle.mg_scope.specs.Tables.{Puts}
use Rattle.mg_scope.specs.Orders.{Rows, AreRows, AddsCaller}
use Rattle.mg_scope.proofs.CallerLemmas.{rows_same, rows_more, adds_row, row_pushed}
use Rattle.mg_scope.proofs.callers.Callers.add_row.Goals as goal

pub invariant_of-self-in_err-set : goal.invariant_of-self-in_err-set
invariant_of-self-in_err-set c =
    let old : Rows = (c.self.inside.numbers, map (λ row. row.items) c.self.inside.rows.items) in
    subst (λ (z : List (List Sym)). AreRows (c.set.new.self, z))
    (sym (row_pushed (λ row. row.items) c.self.inside.rows.items c.push.new.self.items c.in_ok-row.row c.args.caller c.in_ok-push.ensures.items c.in_ok-row.ensures.items))
    (rows_same old c.set.new.self (c.args.caller ∷ []) c.self.invariant c.in_err-set.ensures.err)

pub returns : goal.returns
returns c =
    let old : Rows = (c.self.inside.numbers, map (λ row. row.items) c.self.inside.rows.items) in
    let count : c.len-number.result ≡ length old.1 =
    let l = length-map c.self.inside.rows.items (λ row. row.items) in omega (arith, l, c.len-number.ensures, c.self.inside.rows.ok.0)
    in
    let put = subst (λ (n : ℕ). Puts c.self.inside.numbers c.set.new.self c.args.name n) count c.in_ok-set.ensures.ok in
    rw (← c.self.view_is)
    (subst (λ (z : List (List Sym)). AddsCaller old (c.set.new.self, z) c.args.name c.args.caller)
    (sym (row_pushed (λ row. row.items) c.self.inside.rows.items c.push.new.self.items c.in_ok-row.row c.args.caller c.in_ok-push.ensures.items c.in_ok-row.ensures.items))
    (adds_row old c.set.new.self c.args.name c.args.caller c.self.invariant (rw (← c.self.view_is) at c.requires) put))
