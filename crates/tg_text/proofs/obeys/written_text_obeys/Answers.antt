use Rattle.tg_text.proofs.WrittenTexts.{written_text_obeys}
use Rattle.tg_text.proofs.obeys.written_text_obeys.Goals as goal

pub returns : goal.returns
returns c = λ texts classes table each few. written_text_obeys texts table classes each few
