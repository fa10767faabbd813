use Rattle.gr_tokens.proofs.Spellings.{spelled_word, spelled_string}
use Rattle.gr_tokens.proofs.laws.spellings_are_read.Goals as goal

pub returns : goal.returns
returns c = record { word = λ s t u l w p. spelled_word s t u l w p; string = λ s t u l n each p. spelled_string s t u l n each p }
