use Rattle.gr_symbols.proofs.NumberLemmas.{numbers_tell_texts_apart}
use Rattle.gr_symbols.proofs.laws.numbers_tell_texts_apart.Goals as goal

pub returns : goal.returns
returns c = numbers_tell_texts_apart
