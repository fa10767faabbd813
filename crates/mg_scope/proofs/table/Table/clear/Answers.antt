use Rattle.std.proofs.Common.{arith, ◌+◌}
use Rattle.mg_scope.proofs.TableLemmas.{blank}
use Rattle.mg_scope.proofs.table.Table.clear.Goals as goal

pub returns-then-self : goal.returns-then-self
returns-then-self c = blank (1, c.clear.new.self.items) (λ k. rw c.clear.ensures.items (omega arith))

pub returns-else-self : goal.returns-else-self
returns-else-self c = blank (c.self.inside.round + 1, c.self.inside.cells.items) (λ k. let h = c.self.invariant.1 k in omega (arith, h))
