use Rattle.gr_texts.proofs.Naming.{name_is_lexeme, name_spelling}
use Rattle.gr_texts.proofs.laws.names_are_lexemes.Goals as goal

pub returns : goal.returns
returns c = record { lexeme = name_is_lexeme; spelling = name_spelling }
