-- Which answer is right for a text of bytes, under a table of names.
use Rattle.std.specs.Prelude.{◌≡◌, ℕ, suc, ◌≤◌, List, [], ◌∷◌, ◌⊎◌, Option, None, Result, Ok, Err}
use Rattle.gr_grammar.specs.Grammars.{Matches, IsText}
use Rattle.gr_grammar.specs.Depths.{IsShallow, IsShallowFault}
use Rattle.gr_text.specs.declared.Place.{Place}
use Rattle.gr_text.specs.Places.{place_after}
use Rattle.gr_tokens.specs.Answers.{IsRefused}
use Rattle.gr_tokens.specs.declared.ReadRefusal.{ReadRefusal}
use Rattle.gr_tokens.specs.declared.ReadRefusal.TheVariants.{Syntax, NotUtf8, Duplicate, TooManyClasses}
use Rattle.mg_syntax.specs.declared.item.Item.{Item}
use Rattle.mg_syntax.specs.declared.item.Item.TheVariants as item
use Rattle.mg_reader.specs.declared.lexeme.Lexeme.{Lexeme}
use Rattle.mg_reader.specs.declared.notes.Complaint.{Complaint}
use Rattle.mg_reader.specs.declared.notes.Complaint.TheVariants as complaint
use Rattle.mg_reader.specs.Kinds.{turn}
use Rattle.mg_reader.specs.Lexemes.{AreLexemes}
use Rattle.mg_reader.specs.Grammar.{system, metagrammar_text}
use Rattle.mg_reader.specs.Complaints.{or_first, metagrammar_bad}
use Rattle.mg_reader.specs.Values.{metagrammar_of}
use Rattle.mg_reader.specs.Spelling.{Spells}

-- how many classes a metagrammar has
abbrev pub class_count : List Item → ℕ
class_count [] = 0
class_count (item.Class c ∷ m) = suc (class_count m)
class_count (item.Value n ∷ m) = class_count m
class_count (item.Header h ∷ m) = class_count m

-- the text spells the metagrammar, within the limits
pub record IsMetagrammar (bytes : List ℕ) (texts : List (List ℕ)) (m : List Item) : Type 0 where
  pub lexemes : List Lexeme
  pub are : AreLexemes bytes texts lexemes
  pub spelled : Spells m lexemes
  pub shallow : IsShallow turn 200 0 lexemes
  pub few : class_count m ≤ 4096

-- the place of the next lexeme, or that of the end of the bytes
abbrev pub place_of : List ℕ → List Lexeme → Place
place_of bytes [] = place_after bytes
place_of bytes (t ∷ ts) = t.place

-- the metagrammar of a tree, and its first complaint
abbrev pub reading_of : {ts rest : List Lexeme} → Matches system metagrammar_text ts rest → List Item × Option Complaint
reading_of m = (metagrammar_of m, or_first None (metagrammar_bad m))

-- this is the place of the first lexeme after which no text of the grammar goes on, or which opens a bracket too deep, or that of the end
pub record IsSyntaxFault (bytes : List ℕ) (texts : List (List ℕ)) (place : Place) : Type 0 where
  pub lexemes : List Lexeme
  pub are : AreLexemes bytes texts lexemes
  pub rest : List Lexeme
  pub fault : IsShallowFault system turn 200 metagrammar_text lexemes rest
  pub here : place ≡ place_of bytes rest

-- the lexemes are a text of the grammar, and this is its first complaint
pub record IsFirstComplaint (bytes : List ℕ) (texts : List (List ℕ)) (first : Complaint) : Type 0 where
  pub lexemes : List Lexeme
  pub are : AreLexemes bytes texts lexemes
  pub shallow : IsShallow turn 200 0 lexemes
  pub tree : IsText system metagrammar_text lexemes
  pub others : List Complaint
  pub is : metagrammar_bad tree ≡ first ∷ others

-- the text is refused for this reason: it isn't UTF-8, it isn't cut into tokens, they are no text of the grammar, or they are one with complaints
abbrev pub IsRefusal : List ℕ → List (List ℕ) → ReadRefusal → Type 0
IsRefusal bytes texts (NotUtf8 n) = IsRefused bytes (NotUtf8 n)
IsRefusal bytes texts (Syntax p) = IsRefused bytes (Syntax p) ⊎ IsSyntaxFault bytes texts p
IsRefusal bytes texts (Duplicate p) = IsFirstComplaint bytes texts (complaint.Duplicate p)
IsRefusal bytes texts (TooManyClasses p) = IsFirstComplaint bytes texts (complaint.TooManyClasses p)
IsRefusal bytes texts _ = ⊥

-- the right answer
abbrev pub IsRight : List ℕ → List (List ℕ) → Result (List Item) ReadRefusal → Type 0
IsRight bytes texts (Ok m) = IsMetagrammar bytes texts m
IsRight bytes texts (Err refusal) = IsRefusal bytes texts refusal
