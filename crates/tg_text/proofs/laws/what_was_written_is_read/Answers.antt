use Rattle.tg_text.proofs.OneAnswer.{written_is_canonical, written_is_read, written_once}
use Rattle.tg_text.proofs.laws.what_was_written_is_read.Goals as goal

pub returns : goal.returns
returns c = record { same = written_once; canonical = written_is_canonical; only = written_is_read }
