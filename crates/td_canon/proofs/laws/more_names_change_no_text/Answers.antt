use Rattle.td_canon.proofs.GrowthLemmas.{set_stays, text_stays}
use Rattle.td_canon.proofs.laws.more_names_change_no_text.Goals as goal

pub returns : goal.returns
returns c = record { text = text_stays; set = set_stays }
