use Rattle.std.proofs.Common.{ap, arith}
use Rattle.mg_scope.proofs.TableLemmas.{blank}
use Rattle.mg_scope.proofs.table.Table.new.Goals as goal

pub returns : goal.returns
returns c = blank (1, c.new.result.items) (λ k. rw c.new.ensures.items (omega arith))
