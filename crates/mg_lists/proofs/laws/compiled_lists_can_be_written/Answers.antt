use Rattle.mg_scope.specs.Classes.{valuation}
use Rattle.gr_base.specs.Lists.{gathered}
use Rattle.mg_lists.proofs.Classes.{compiled_is_read, firsts_once}
use Rattle.mg_lists.proofs.laws.compiled_lists_can_be_written.Goals as goal

pub returns : goal.returns
returns c = record { class = compiled_is_read; once = λ m. firsts_once (gathered valuation m) }
