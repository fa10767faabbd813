-- The cells are reached first; a written one is of this round.
use Rattle.std.proofs.Common.{sym, ap, ◌∙◌, refl, arith, ℕ, ◌≤◌, ◌≡◌, List, get_or, subst}
use Rattle.mg_scope.specs.declared.table.Cell.{Cell}
use Rattle.mg_scope.specs.Tables.{Cells, no_cell, Puts}
use Rattle.mg_scope.proofs.TableLemmas.{puts, past_same, past_set, same_values}
use Rattle.mg_scope.proofs.LoopLemmas.{err_only}
use Rattle.mg_scope.proofs.table.Table.set.Goals as goal

pub invariant_of-self : goal.invariant_of-self
invariant_of-self c = (c.self.invariant.0, past_same c.self.inside.cells.items c.reach.new.cells.items c.self.inside.round c.reach.ensures.same c.self.invariant.1)

pub invariant_of-self-2 : goal.invariant_of-self-2
invariant_of-self-2 c = (c.self.invariant.0, past_set c.self.inside.cells.items c.reach.new.cells.items c.self.inside.round c.args.name.0 c.args.value c.in_ok-reach.ensures.same c.self.invariant.1)

pub returns-in_err-reach : goal.returns-in_err-reach
returns-in_err-reach c =
    err_only _ c.from_residual.result c.from_residual.ensures.0
    (rw (← c.self.view_is) (same_values c.self.inside.round c.self.inside.cells.items c.reach.new.cells.items c.reach.ensures.same))

pub returns : goal.returns
returns c =
    let cells = c.reach.new.cells.items in
    let now = puts (c.self.inside.round, c.self.inside.cells.items) c.self.inside.round cells c.args.name c.args.value refl c.in_ok-reach.ensures.same c.in_ok-reach.ensures.within in
    record { ok = rw (← c.self.view_is) now; err = tt }
