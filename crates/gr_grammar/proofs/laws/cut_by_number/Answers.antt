use Rattle.gr_grammar.proofs.Cuts.{cut_at}
use Rattle.gr_grammar.proofs.laws.cut_by_number.Goals as goal

pub returns : goal.returns
returns g c = λ turn limit ts. cut_at turn limit ts
