use Rattle.tg_text.proofs.Putting.{new_table, one_table}
use Rattle.tg_text.proofs.laws.one_table.Goals as goal

pub returns : goal.returns
returns c = record { same = one_table; table = new_table }
