-- Which answers are right for a file of inputs.
use Rattle.std.specs.Prelude.{◌≡◌, ℕ, List, ◌⊎◌, Option, Some, None, Result, Ok, Err, Vec}
use Rattle.std.specs.declared.alloc.Global.{Global}
use Rattle.gr_tokens.specs.Answers.{AreTokens, IsRefused}
use Rattle.gr_tokens.specs.declared.Token.{Token}
use Rattle.gr_tokens.specs.declared.ReadRefusal.{ReadRefusal}
use Rattle.gr_tokens.specs.declared.ReadRefusal.TheVariants.{Memory}
use Rattle.gr_reader.specs.Classes.{flat}
use Rattle.gr_reader.specs.Complaints.{noted}
use Rattle.gr_reader.specs.declared.complaints.Complaint.{Complaint}
use Rattle.gr_reader.specs.declared.complaints.Fault.TheVariants.{Variable}
use Rattle.gr_reader.specs.Files.{IsFileAnswer}
use Rattle.sm_input.specs.declared.input.Input.{Input}
use Rattle.sm_input.specs.Grammars.{inputs_text, inputs_of}
use Rattle.sm_input.specs.Complaints.{file_bad}
use Rattle.sm_input.specs.Inputs.{AreInputs}
use Rattle.sm_input.specs.Tables.{inputs_names}
use Rattle.gr_grammar.specs.Grammars.{IsText}
use Rattle.gr_symbols.specs.Numbers.{with_texts}
use Rattle.gr_reader.specs.Lexemes.{lexemes}

-- inputs as a file has them, in its order
abbrev pub Inputs : Type 0
Inputs = Vec Input Global

-- the answer for the tokens of some bytes: the inputs of a text without complaints, or the place where no inputs go on, or else the first complaint
abbrev pub IsTokensAnswer : List ℕ → List Token → List (List ℕ) → Result Inputs ReadRefusal → Type 0
IsTokensAnswer bytes tokens texts answer = IsFileAnswer flat inputs_text (λ ts rest m. file_bad m) (λ ts rest m is. AreInputs texts (inputs_of m) is.items) bytes tokens answer

-- the bytes have tokens, and the answer is right for these
pub record IsRead (bytes : List ℕ) (texts : List (List ℕ)) (answer : Result Inputs ReadRefusal) : Type 0 where
  pub tokens : List Token
  pub are : AreTokens bytes tokens
  pub right : IsTokensAnswer bytes tokens texts answer

-- the right answer for bytes by one table of texts: it is right for their tokens, or they have none for this reason; a refusal may also be for want of memory
abbrev pub IsInputsReading : List ℕ → List (List ℕ) → Result Inputs ReadRefusal → Type 0
IsInputsReading bytes texts (Ok is) = IsRead bytes texts (Ok is)
IsInputsReading bytes texts (Err refusal) = (refusal ≡ Memory) ⊎ (IsRefused bytes refusal ⊎ IsRead bytes texts (Err refusal))

-- the tokens are inputs, and the new table is the old one with their names
pub record PutsTokens (bytes : List ℕ) (tokens : List Token) (old new : List (List ℕ)) : Type 0 where
  pub tree : IsText flat inputs_text (lexemes bytes tokens)
  pub table : new ≡ with_texts old (inputs_names tree)

-- the bytes have tokens for which it is so
pub record HasTable (bytes : List ℕ) (old new : List (List ℕ)) : Type 0 where
  pub tokens : List Token
  pub are : AreTokens bytes tokens
  pub puts : PutsTokens bytes tokens old new

-- the right answer for bytes by the tables before and behind the reading: it is right by the new table, and that is the one behind the inputs. A refusal says nothing of the tables
abbrev pub IsInputsAnswer : List ℕ → List (List ℕ) → List (List ℕ) → Result Inputs ReadRefusal → Type 0
IsInputsAnswer bytes old new (Ok is) = IsInputsReading bytes new (Ok is) × HasTable bytes old new
IsInputsAnswer bytes old new (Err refusal) = IsInputsReading bytes new (Err refusal)

-- the first complaint, with one of the first variable
abbrev pub noted_at : Option Complaint → Option ℕ → Option Complaint
noted_at c None = c
noted_at c (Some left) = noted c (record { fault = Variable; left = left })

-- the answers are the same: the same inputs in the same order, or the same refusal
abbrev pub IsSame : Result Inputs ReadRefusal → Result Inputs ReadRefusal → Type 0
IsSame (Ok a) (Ok b) = a.items ≡ b.items
IsSame (Ok a) (Err s) = ⊥
IsSame (Err r) (Ok b) = ⊥
IsSame (Err r) (Err s) = r ≡ s
