use Rattle.gr_texts.proofs.Printing.{printed-tokens}
use Rattle.gr_texts.proofs.laws.printed_texts_have_their_lexemes.Goals as goal

pub returns : goal.returns
returns c = printed-tokens
