use Rattle.td_colour.proofs.Likening.{same_spellings, same_texts}
use Rattle.td_colour.proofs.laws.texts_go_by_what_is_said.Goals as goal

pub returns : goal.returns
returns g c = record {
  text = λ text spell a b bytes h. same_spellings a b h text spell bytes;
  list = λ text spell a b texts h. same_texts a b h text spell texts;
}
