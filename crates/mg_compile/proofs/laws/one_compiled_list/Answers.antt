use Rattle.mg_compile.proofs.Uniqueness.{same_lists}
use Rattle.mg_compile.proofs.laws.one_compiled_list.Goals as goal

pub returns : goal.returns
returns c = same_lists c.one_order.ensures
