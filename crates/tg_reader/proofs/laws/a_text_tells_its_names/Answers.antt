use Rattle.tg_reader.proofs.OneNaming.{one_naming, one_table}
use Rattle.tg_reader.proofs.laws.a_text_tells_its_names.Goals as goal

pub returns : goal.returns
returns c = record { names = one_naming; table = one_table }
