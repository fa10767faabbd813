-- Each text has a spelling, since it is a word or isn't.
use Rattle.gr_text.proofs.WordLemmas.{Spells-some}
use Rattle.gr_text.proofs.laws.spelling_tells_texts_apart.Goals as goal

pub returns-clause-some : goal.returns-clause-some
returns-clause-some c = Spells-some
