-- What a parse function does.
use Rattle.std.specs.Prelude.{◌≡◌, ℕ, suc, min, List, Option, Some, None, Result, Ok, Err, ◌||◌, ◌==◌}
use Rattle.gr_grammar.specs.Grammars.{Grammar, Matches, Runs, took, failed, tree_of}
use Rattle.gr_tokens.specs.declared.ReadRefusal.{ReadRefusal}
use Rattle.gr_tokens.specs.declared.ReadRefusal.TheVariants as refusal
use Rattle.mg_reader.specs.declared.notes.Complaint.{Complaint}
use Rattle.mg_reader.specs.declared.notes.Complaint.TheVariants.{Duplicate, TooManyClasses}
use Rattle.mg_reader.specs.declared.lexeme.Class.{Class}
use Rattle.mg_reader.specs.declared.lexeme.Lexeme.{Lexeme}
use Rattle.mg_reader.specs.declared.cursor.Stop.{Stop}
use Rattle.mg_reader.specs.declared.cursor.Stop.TheVariants.{Syntax, Memory}
use Rattle.mg_reader.specs.Grammar.{system}
use Rattle.mg_reader.specs.Complaints.{or_first, among, again}
use Rattle.mg_syntax.specs.declared.item.Item.{Item}
use Rattle.mg_syntax.specs.declared.item.Item.TheVariants as item

-- reading the grammar stops here: for syntax just where a run fails, or for want of memory
pub data StopsAt (g : Grammar Class) (ts rest : List Lexeme) : Stop → Type 0 where
  for_syntax : Runs system g ts (failed rest) → StopsAt g ts rest Syntax
  for_memory : StopsAt g ts rest Memory

-- the reader took a text of the grammar, with the text's value; or it stopped
abbrev pub Takes : {A : Type 0} (g : Grammar Class) → ((ts rest : List Lexeme) → Matches system g ts rest → A) → List Lexeme → List Lexeme → Result A Stop → Type 0
Takes g value ts rest (Ok v) = (r : Runs system g ts (took rest)) × (v ≡ value ts rest (tree_of r))
Takes g value ts rest (Err e) = StopsAt g ts rest e

-- the same, and the first complaint counts those of the text
abbrev pub Reads : {A : Type 0} (g : Grammar Class) → ((ts rest : List Lexeme) → Matches system g ts rest → A) → ((ts rest : List Lexeme) → Matches system g ts rest → List Complaint) →
    List Lexeme → List Lexeme → Option Complaint → Option Complaint → Result A Stop → Type 0
Reads g value bad ts rest before after (Ok v) = (r : Runs system g ts (took rest)) × (v ≡ value ts rest (tree_of r)) × (after ≡ or_first before (bad ts rest (tree_of r)))
Reads g value bad ts rest before after (Err e) = StopsAt g ts rest e

-- an attribute was added to those of a list, and complained of where it was there
pub record Notes (old new : List ℕ) (before after : Option Complaint) (key : Lexeme) : Type 0 where
  pub seen : (a : ℕ) → among new a ≡ (among old a || (a == key.name.0))
  pub complaint : after ≡ or_first before (again (among old key.name.0) key)

-- the number of classes with an item, counted up to 4,097
abbrev pub counted : ℕ → Item → ℕ
counted n (item.Class c) = min 4097 (suc n)
counted n (item.Value v) = n
counted n (item.Header h) = n

abbrev pub refusal_of : Complaint → ReadRefusal
refusal_of (Duplicate p) = refusal.Duplicate p
refusal_of (TooManyClasses p) = refusal.TooManyClasses p

-- the answer for a metagrammar with its first complaint
abbrev pub accepted : List Item → Option Complaint → Result (List Item) ReadRefusal
accepted m None = Ok m
accepted m (Some c) = Err (refusal_of c)
