use Rattle.gr_reader.proofs.Texts.{all_written}
use Rattle.gr_reader.proofs.LexemeLemmas.{Lexeme-set}
use Rattle.gr_reader.proofs.laws.lexemes_are_written.Goals as goal

pub returns : goal.returns
returns c = record { written = λ bytes tokens a. all_written bytes tokens a; set = Lexeme-set }
