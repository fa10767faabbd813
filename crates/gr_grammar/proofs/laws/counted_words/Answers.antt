use Rattle.std.proofs.Common.{refl}
use Rattle.gr_grammar.proofs.WordsSystem.{is_system}
use Rattle.gr_grammar.proofs.WordTexts.{short_word, word_text}
use Rattle.gr_grammar.proofs.laws.counted_words.Goals as goal

pub returns : goal.returns
returns c = record { system = is_system; clear = refl; texts = λ ts. (λ m. short_word m, λ h. word_text ts h) }
