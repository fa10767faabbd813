use Rattle.gr_symbols.proofs.FirstTexts.{NoneTwice-first_texts}
use Rattle.gr_symbols.proofs.Symbols.new.Goals as goal

pub set_of-requires : goal.set_of-requires
set_of-requires c = NoneTwice-first_texts
