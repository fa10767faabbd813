-- What the functions that take parts of a text do.
use Rattle.std.specs.Prelude.{List, ℕ, zero, suc, ◌-◌, ◌≤◌, ◌<◌, length, Bool, true, false, Option, Result, Ok, Err}
use Rattle.gr_grammar.specs.Grammars.{Grammar, part, Runs, End, took, failed}
use Rattle.tg_syntax.specs.Families.{word_part}
use Rattle.tg_syntax.specs.declared.class.Class.{Class}
use Rattle.tg_syntax.specs.Trees.{PROPERTY}
use Rattle.tg_syntax.specs.Files.{system, LINES}
use Rattle.tg_syntax.specs.Visits.{begun}
use Rattle.tg_syntax.specs.Breaks.{Notes}

-- a text of the grammar is taken from the front of the bytes, or reading stops where a run fails
abbrev pub Ends : {A E : Type 0} → Grammar Class → List ℕ → List ℕ → Result A E → Type 0
Ends g ts rest (Ok v) = Runs system g ts (took rest)
Ends g ts rest (Err e) = Runs system g ts (failed rest)

-- one step in a word with some bytes left: what follows makes a run of the whole with fewer left; or no byte goes on with the word
abbrev pub WordStep : {E : Type 0} → ℕ → List ℕ → List ℕ → Result ℕ E → Type 0
WordStep left ts rest (Ok zero) = Runs system (part (word_part left)) ts (took rest)
WordStep left ts rest (Ok (suc n)) = (suc n ≤ left) × ((e : End ℕ) → Runs system (part (word_part (left - suc n))) rest e → Runs system (part (word_part left)) ts e)
WordStep left ts rest (Err e) = Runs system (part (word_part left)) ts (failed rest)

-- a run, and what is known of a break before it and behind it
pub record Read (g : Grammar Class) (ts : List ℕ) (e : End ℕ) (before after : Option ℕ) : Type 0 where
  pub run : Runs system g ts e
  pub notes : Notes (begun PROPERTY run) before after

-- the same as for `Ends`, where properties are looked at
abbrev pub Reads : {A E : Type 0} → Grammar Class → List ℕ → List ℕ → Option ℕ → Option ℕ → Result A E → Type 0
Reads g ts rest before after (Ok v) = Read g ts (took rest) before after
Reads g ts rest before after (Err e) = Read g ts (failed rest) before after

-- one line of a class: behind a tree's, what follows makes a reading of the lines; or it was the last one
abbrev pub OnLine : List ℕ → List ℕ → Option ℕ → Option ℕ → Bool → Type 0
OnLine ts rest before after true = (length rest < length ts) × ((e : End ℕ) (last : Option ℕ) → Read (part LINES) rest e after last → Read (part LINES) ts e before last)
OnLine ts rest before after false = Read (part LINES) ts (took rest) before after

abbrev pub ReadsLine : {E : Type 0} → List ℕ → List ℕ → Option ℕ → Option ℕ → Result Bool E → Type 0
ReadsLine ts rest before after (Ok b) = OnLine ts rest before after b
ReadsLine ts rest before after (Err e) = Read (part LINES) ts (failed rest) before after
