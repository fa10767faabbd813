-- Which answers are right for a lexicon.
use Rattle.std.specs.Prelude.{◌≡◌, ℕ, List, [], ◌⊎◌, Result, Ok, Err}
use Rattle.gr_tokens.specs.Answers.{AreTokens, IsRefused}
use Rattle.gr_tokens.specs.declared.Token.{Token}
use Rattle.gr_tokens.specs.declared.ReadRefusal.{ReadRefusal}
use Rattle.gr_tokens.specs.declared.ReadRefusal.TheVariants.{Memory}
use Rattle.gr_reader.specs.Classes.{flat}
use Rattle.gr_reader.specs.Files.{IsFileAnswer}
use Rattle.gr_reader.specs.Lexemes.{lexemes}
use Rattle.gr_feats.specs.Tables.{PutsNames}
use Rattle.lx_lexicon.specs.declared.entry.Entry.{Entry}
use Rattle.lx_lexicon.specs.Grammars.{lexicon_text, lexicon_of}
use Rattle.lx_lexicon.specs.Complaints.{lexicon_bad}
use Rattle.lx_lexicon.specs.Entries.{AreEntries}

-- the answer for the tokens of some bytes: the entries of a lexicon without complaints, or the place where no lexicon goes on, or else the first complaint
abbrev pub IsTokensAnswer : List ℕ → List Token → List (List ℕ) → Result (List Entry) ReadRefusal → Type 0
IsTokensAnswer bytes tokens texts answer = IsFileAnswer flat lexicon_text (λ ts rest m. lexicon_bad (lexicon_of m)) (λ ts rest m es. AreEntries texts (lexicon_of m) es) bytes tokens answer

-- the bytes have tokens, and the answer is right for these
pub record IsRead (bytes : List ℕ) (texts : List (List ℕ)) (answer : Result (List Entry) ReadRefusal) : Type 0 where
  pub tokens : List Token
  pub are : AreTokens bytes tokens
  pub right : IsTokensAnswer bytes tokens texts answer

-- the right answer for bytes by one table of texts: it is right for their tokens, or they have none for this reason; a refusal may also be for want of memory
abbrev pub IsLexiconReading : List ℕ → List (List ℕ) → Result (List Entry) ReadRefusal → Type 0
IsLexiconReading bytes texts (Ok es) = IsRead bytes texts (Ok es)
IsLexiconReading bytes texts (Err refusal) = (refusal ≡ Memory) ⊎ (IsRefused bytes refusal ⊎ IsRead bytes texts (Err refusal))

-- the bytes have tokens that are a lexicon, and the new table is the old one with its names and variables
pub record HasTable (bytes : List ℕ) (old new : List (List ℕ)) : Type 0 where
  pub tokens : List Token
  pub are : AreTokens bytes tokens
  pub puts : PutsNames lexicon_text old new (lexemes bytes tokens) []

-- the right answer for bytes by the tables before and behind the reading: it is right by the new table, and that is the one behind the lexicon. A refusal says nothing of the tables
abbrev pub IsLexiconAnswer : List ℕ → List (List ℕ) → List (List ℕ) → Result (List Entry) ReadRefusal → Type 0
IsLexiconAnswer bytes old new (Ok es) = IsLexiconReading bytes new (Ok es) × HasTable bytes old new
IsLexiconAnswer bytes old new (Err refusal) = IsLexiconReading bytes new (Err refusal)
