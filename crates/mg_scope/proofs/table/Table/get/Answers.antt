-- Beyond the cells nothing stands; a cell counts in its round.
use Rattle.std.proofs.Common.{sym, ap, ◌∙◌, arith}
use Rattle.mg_scope.specs.Tables.{Cells, value_at}
use Rattle.mg_scope.proofs.TableLemmas.{value_at-past, value_at-now, value_at-other}
use Rattle.mg_scope.proofs.table.Table.get.Goals as goal

pub returns-then-place-len : goal.returns-then-place-len
returns-then-place-len c =
    sym (ap (λ (t : Cells). value_at t c.args.name) (sym c.self.view_is)
    ∙ value_at-past (c.self.inside.round, c.self.inside.cells.items) c.args.name c.self.invariant.0 (omega arith))

pub returns-then-cell-self : goal.returns-then-cell-self
returns-then-cell-self c =
    sym (ap (λ (t : Cells). value_at t c.args.name) (sym c.self.view_is)
    ∙ value_at-now (c.self.inside.round, c.self.inside.cells.items) c.args.name c.index-cell.result.now (omega arith) c.index-cell.ensures c.if-cell-self.true)

pub returns-else-cell-self : goal.returns-else-cell-self
returns-else-cell-self c =
    sym (ap (λ (t : Cells). value_at t c.args.name) (sym c.self.view_is)
    ∙ value_at-other (c.self.inside.round, c.self.inside.cells.items) c.args.name c.index-cell.result.now (omega arith) c.index-cell.ensures c.if-cell-self.false)
