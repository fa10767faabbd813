-- Which answers are right for the bag and the literals that begin at a token.
use Rattle.std.specs.Prelude.{◌≡◌, ℕ, ◌+◌, ◌-◌, List, length, drop, Option, Some, None, Result, Ok, Err, ⊤}
use Rattle.gr_text.specs.declared.Place.{Place}
use Rattle.gr_terms.specs.declared.Literal.{Literal}
use Rattle.gr_terms.specs.declared.bag.Bag.{Bag}
use Rattle.gr_tokens.specs.declared.Token.{Token}
use Rattle.gr_tokens.specs.declared.ReadRefusal.{ReadRefusal}
use Rattle.gr_tokens.specs.declared.ReadRefusal.TheVariants.{Syntax, Memory}
use Rattle.gr_grammar.specs.Grammars.{Grammar}
use Rattle.gr_reader.specs.Lexemes.{Lexeme, lexemes}
use Rattle.gr_reader.specs.Classes.{Class, flat}
use Rattle.gr_reader.specs.Fronts.{IsFront, IsNoFront}
use Rattle.gr_reader.specs.Places.{place_of_token}
use Rattle.gr_feats.specs.Grammars.{WrittenPair, WrittenLiteral, bag_text, bag_of, closed_literals_text, closed_literals_of}
use Rattle.gr_feats.specs.Numberings.{Numbering}
use Rattle.gr_feats.specs.Readings.{IsBag, AreLiterals}
use Rattle.gr_feats.specs.Tables.{PutsNames}

-- the place where so many lexemes are left
abbrev pub place_of_left : List ℕ → List Token → Option ℕ → Option Place
place_of_left bytes tokens None = None
place_of_left bytes tokens (Some left) = Some (place_of_token bytes tokens (length tokens - left))

-- A bag begins at the token, with these pairs. The answer is its first pairs, the number of the token behind it, and the place where an attribute first stands a second time.
pub record IsBagAt (bytes : List ℕ) (tokens : List Token) (at : ℕ) (texts : List (List ℕ)) (before after : Numbering) (answer : Bag × ℕ × Option Place) : Type 0 where
  pub pairs : List WrittenPair
  pub passed : ℕ
  pub again : Option ℕ
  pub front : IsFront flat bag_text (λ ts rest m. bag_of m) (lexemes bytes (drop at tokens)) pairs passed
  pub read : IsBag texts before pairs (record { bag = answer.0; again = again }) after
  pub next : answer.1 ≡ at + passed
  pub second : answer.2 ≡ place_of_left bytes tokens again

-- Literals and a closing brace begin at the token. The answer is the literals and the number of the brace's token.
pub record AreLiteralsAt (bytes : List ℕ) (tokens : List Token) (at : ℕ) (texts : List (List ℕ)) (before after : Numbering) (answer : List Literal × ℕ) : Type 0 where
  pub literals : List WrittenLiteral
  pub passed : ℕ
  pub front : IsFront flat closed_literals_text (λ ts rest m. closed_literals_of m) (lexemes bytes (drop at tokens)) literals passed
  pub read : AreLiterals texts before literals answer.0 after
  pub closing : answer.1 + 1 ≡ at + passed

-- no text of the grammar begins at the token, and the place is that of the first token after which none goes on, or that of the end of the bytes
abbrev pub IsNoTextAt : Grammar Class → List ℕ → List Token → ℕ → Place → Type 0
IsNoTextAt g bytes tokens at place = (passed : ℕ) × IsNoFront flat g (lexemes bytes (drop at tokens)) passed × (place ≡ place_of_token bytes tokens (at + passed))

-- a refusal is for syntax, at its place, or for want of memory
abbrev pub IsRefusedAt : Grammar Class → List ℕ → List Token → ℕ → ReadRefusal → Type 0
IsRefusedAt g bytes tokens at (Syntax place) = IsNoTextAt g bytes tokens at place
IsRefusedAt g bytes tokens at Memory = ⊤
IsRefusedAt g bytes tokens at _ = ⊥

-- the answers that are right by one table of texts, and by the numberings before and behind the reading
abbrev pub IsBagReading : List ℕ → List Token → ℕ → List (List ℕ) → Numbering → Numbering → Result (Bag × ℕ × Option Place) ReadRefusal → Type 0
IsBagReading bytes tokens at texts before after (Ok answer) = IsBagAt bytes tokens at texts before after answer
IsBagReading bytes tokens at texts before after (Err refusal) = IsRefusedAt bag_text bytes tokens at refusal

abbrev pub IsLiteralsReading : List ℕ → List Token → ℕ → List (List ℕ) → Numbering → Numbering → Result (List Literal × ℕ) ReadRefusal → Type 0
IsLiteralsReading bytes tokens at texts before after (Ok answer) = AreLiteralsAt bytes tokens at texts before after answer
IsLiteralsReading bytes tokens at texts before after (Err refusal) = IsRefusedAt closed_literals_text bytes tokens at refusal

-- the new table is the old one with the names and variables of the text of the grammar that begins at the token
abbrev pub IsTableAt : Grammar Class → List ℕ → List Token → ℕ → List (List ℕ) → List (List ℕ) → Type 0
IsTableAt g bytes tokens at old new = (rest : List Lexeme) × PutsNames g old new (lexemes bytes (drop at tokens)) rest

-- the answers that are right by the tables before and behind the reading: the answer is right by the new table, and that is the one behind the text. A refusal says nothing of the tables
abbrev pub IsBagAnswer : List ℕ → List Token → ℕ → List (List ℕ) → List (List ℕ) → Numbering → Numbering → Result (Bag × ℕ × Option Place) ReadRefusal → Type 0
IsBagAnswer bytes tokens at old new before after (Ok answer) = IsBagAt bytes tokens at new before after answer × IsTableAt bag_text bytes tokens at old new
IsBagAnswer bytes tokens at old new before after (Err refusal) = IsRefusedAt bag_text bytes tokens at refusal

abbrev pub IsLiteralsAnswer : List ℕ → List Token → ℕ → List (List ℕ) → List (List ℕ) → Numbering → Numbering → Result (List Literal × ℕ) ReadRefusal → Type 0
IsLiteralsAnswer bytes tokens at old new before after (Ok answer) = AreLiteralsAt bytes tokens at new before after answer × IsTableAt closed_literals_text bytes tokens at old new
IsLiteralsAnswer bytes tokens at old new before after (Err refusal) = IsRefusedAt closed_literals_text bytes tokens at refusal
