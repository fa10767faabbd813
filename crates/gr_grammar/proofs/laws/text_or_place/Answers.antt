use Rattle.gr_grammar.proofs.Total.{text_or_place}
use Rattle.gr_grammar.proofs.laws.text_or_place.Goals as goal

pub returns : goal.returns
returns g c = λ S K h clear ts. text_or_place S K h clear ts
