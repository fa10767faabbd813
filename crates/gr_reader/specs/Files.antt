-- What a reader of a whole text of tokens answers: the same for each grammar, each complaints and each value.
use Rattle.std.specs.Prelude.{◌≡◌, ℕ, ◌-◌, ◌≤◌, List, [], ◌∷◌, length, drop, ⊤, Option, None, Some, Result, Ok, Err}
use Rattle.gr_grammar.specs.Grammars.{Grammar, System, Matches, IsText}
use Rattle.gr_grammar.specs.Depths.{IsShallow, IsShallowFault}
use Rattle.gr_text.specs.declared.Place.{Place}
use Rattle.gr_tokens.specs.declared.Token.{Token}
use Rattle.gr_tokens.specs.declared.ReadRefusal.{ReadRefusal}
use Rattle.gr_tokens.specs.declared.ReadRefusal.TheVariants.{Syntax, Memory}
use Rattle.gr_reader.specs.declared.complaints.Complaint.{Complaint}
use Rattle.gr_reader.specs.Lexemes.{Lexeme, lexemes}
use Rattle.gr_reader.specs.declared.reader.Stop.{Stop}
use Rattle.gr_reader.specs.declared.reader.Stop.TheVariants as stop
use Rattle.gr_reader.specs.Classes.{Class}
use Rattle.gr_reader.specs.Brackets.{turn}
use Rattle.gr_reader.specs.Places.{place_of_token}
use Rattle.gr_reader.specs.Complaints.{all_noted, refusal_at}

-- the tokens are a text of the grammar, in which no bracket opens inside 200 open ones
pub record IsFile (S : System Class Lexeme) (g : Grammar Class) (bytes : List ℕ) (tokens : List Token) : Type 0 where
  pub tree : IsText S g (lexemes bytes tokens)
  pub shallow : IsShallow turn 200 0 (lexemes bytes tokens)

-- the place is that of the first token after which no text of the grammar goes on, or which opens a bracket too deep, or that of the end of the bytes, where the tokens end too early
pub record BreaksOff (S : System Class Lexeme) (g : Grammar Class) (bytes : List ℕ) (tokens : List Token) (place : Place) : Type 0 where
  pub number : ℕ
  pub within : number ≤ length tokens
  pub fault : IsShallowFault S turn 200 g (lexemes bytes tokens) (drop number (lexemes bytes tokens))
  pub here : place ≡ place_of_token bytes tokens number

-- the refusal is that of the first of the complaints, at the place of its token
pub record IsComplaint (cs : List Complaint) (bytes : List ℕ) (tokens : List Token) (r : ReadRefusal) : Type 0 where
  pub first : Complaint
  pub is : all_noted None cs ≡ Some first
  pub refusal : r ≡ refusal_at first.fault (place_of_token bytes tokens (length tokens - first.left))

-- the answer for the tokens of some bytes: a text without complaints and an answer that is right for its tree; or the text breaks off; or it is a text with a first complaint. For want of memory any is right
abbrev pub IsFileAnswer : {A : Type 0} (S : System Class Lexeme) (g : Grammar Class) → ((ts rest : List Lexeme) → Matches S g ts rest → List Complaint) → ((ts rest : List Lexeme) → Matches S g ts rest → A → Type 0) → List ℕ → List Token → Result A ReadRefusal → Type 0
IsFileAnswer S g bad right bytes tokens (Ok v) = (f : IsFile S g bytes tokens) × (bad (lexemes bytes tokens) [] f.tree ≡ []) × right (lexemes bytes tokens) [] f.tree v
IsFileAnswer S g bad right bytes tokens (Err (Syntax place)) = BreaksOff S g bytes tokens place
IsFileAnswer S g bad right bytes tokens (Err Memory) = ⊤
IsFileAnswer S g bad right bytes tokens (Err r) = (f : IsFile S g bytes tokens) × IsComplaint (bad (lexemes bytes tokens) [] f.tree) bytes tokens r

-- the place of the token from which on so many are left, or that of the end of the bytes
abbrev pub place_where_left : List ℕ → List Token → ℕ → Place
place_where_left bytes tokens left = place_of_token bytes tokens (length tokens - left)

-- The answer for a whole file of which a reader left these lexemes behind a part that it read, with this first complaint: the part where it is all of the file and nothing is complained of, else the refusal for the stop, for what is left or for the complaint.
abbrev pub IsEnd : {A : Type 0} → List ℕ → List Token → List Lexeme → Option Complaint → Result A Stop → Result A ReadRefusal → Type 0
IsEnd bytes tokens rest complaint (Err stop.Memory) answer = answer ≡ Err Memory
IsEnd bytes tokens rest complaint (Err stop.Syntax) answer = answer ≡ Err (Syntax (place_where_left bytes tokens (length rest)))
IsEnd bytes tokens (t ∷ rest) complaint (Ok v) answer = answer ≡ Err (Syntax (place_where_left bytes tokens (length (t ∷ rest))))
IsEnd bytes tokens [] (Some c) (Ok v) answer = answer ≡ Err (refusal_at c.fault (place_where_left bytes tokens c.left))
IsEnd bytes tokens [] None (Ok v) answer = answer ≡ Ok v
