-- Which answer is right for the bytes of a grammar text, before it is asked whether the text is the canonical one.
use Rattle.std.specs.Prelude.{◌≡◌, ℕ, ◌-◌, List, [], length, take, Result, Ok, Err}
use Rattle.gr_base.specs.Lists.{Each}
use Rattle.gr_text.specs.declared.Place.{Place}
use Rattle.gr_text.specs.Places.{place_after}
use Rattle.gr_grammar.specs.Grammars.{Runs, End, took, IsText, IsFault}
use Rattle.tg_syntax.specs.Trees.{PROPERTY}
use Rattle.tg_syntax.specs.Files.{system, file}
use Rattle.tg_syntax.specs.Visits.{begun}
use Rattle.tg_syntax.specs.Breaks.{Obeys, IsFirstBreak}

-- A reading from the front stops where these of the bytes are left: at the first byte of the first name or variable that breaks the rule, where one is met; else at the first byte after which no text goes on, or at the end of bytes that are too few
pub data BreaksAt (bytes : List ℕ) : List ℕ → Type 0 where
  at_name : (e : End ℕ) (r : Runs system file bytes e) (at : List ℕ) → IsFirstBreak (begun PROPERTY r) at → BreaksAt bytes at
  at_byte : (e : End ℕ) (r : Runs system file bytes e) (at : List ℕ) → Each Obeys (begun PROPERTY r) → IsFault system file bytes at → BreaksAt bytes at

-- the bytes are a text of the grammar, in which no property breaks the rule
pub record IsGrammarFile (bytes : List ℕ) : Type 0 where
  pub run : Runs system file bytes (took [])
  pub text : IsText system file bytes
  pub obey : Each Obeys (begun PROPERTY run)

-- the place where these of the bytes are left
abbrev pub place_with : List ℕ → List ℕ → Place
place_with bytes at = place_after (take (length bytes - length at) bytes)

-- the right answer: the bytes are a text, or a reading from the front stops at this place
abbrev pub IsSyntaxAnswer : {A : Type 0} → List ℕ → Result A Place → Type 0
IsSyntaxAnswer bytes (Ok u) = IsGrammarFile bytes
IsSyntaxAnswer bytes (Err place) = (at : List ℕ) × BreaksAt bytes at × (place ≡ place_with bytes at)
