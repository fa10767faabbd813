-- Names and variables that break the rule on properties: a property isn't named `cat` or `color`, and `mark` has one of the six marks as value.
use Rattle.std.specs.Prelude.{◌≡◌, ℕ, ◌<◌, List, [], ◌∷◌, ◌++◌, length, codes, map, Option, None, Some, Bool, false, ◌||◌, bytes_eq}
use Rattle.gr_base.specs.Lists.{Each, IsAmong}
use Rattle.gr_text.specs.Words.{quoted}
use Rattle.gr_grammar.specs.Grammars.{Runs, took, failed}
use Rattle.tg_syntax.specs.Names.{word, term}
use Rattle.tg_syntax.specs.Files.{system}

-- the bytes begin with this word and a dash behind which it doesn't go on
abbrev pub IsDashed : List ℕ → List ℕ → List ℕ → Type 0
IsDashed ts text rest = (ts ≡ text ++ 45 ∷ rest) × Runs system word ts (failed rest)

-- The bytes begin with this name or variable, as far as it goes, and what is left begins with the first byte that can't go on with it. Behind a dash, with which a word only goes on before a word byte, the name is what stands before the dash
pub data HasName (ts : List ℕ) : List ℕ → List ℕ → Type 0 where
  whole : (text rest : List ℕ) → ts ≡ text ++ rest → Runs system term ts (took rest) → HasName ts text rest
  before_dash : (text rest : List ℕ) → IsDashed ts text rest → HasName ts text rest

abbrev pub reserved : List (List ℕ)
reserved = codes "cat" ∷ codes "color" ∷ []

abbrev pub marks : List (List ℕ)
marks = codes "anchor" ∷ codes "coanchor" ∷ codes "subst" ∷ codes "foot" ∷ codes "lex" ∷ codes "nadj" ∷ []

-- how the marks may be written
abbrev pub written_marks : List (List ℕ)
written_marks = marks ++ map quoted marks

-- the bytes begin with a name that no property may have, and another byte follows it
abbrev pub HasReserved : List ℕ → Type 0
HasReserved ts = (text rest : List ℕ) × HasName ts text rest × (0 < length rest) × IsAmong reserved text

-- the bytes begin with a name or a variable that is no mark, and another byte follows it
abbrev pub HasNoMark : List ℕ → Type 0
HasNoMark ts = (text rest : List ℕ) × HasName ts text rest × (0 < length rest) × (IsAmong written_marks text → ⊥)

-- the property that begins the bytes breaks the rule, by its name or by its value, at whose first byte these bytes are left
pub data Breaks (ts : List ℕ) : List ℕ → Type 0 where
  by_name : HasReserved ts → Breaks ts ts
  by_value : (value : List ℕ) → ts ≡ codes "mark=" ++ value → HasNoMark value → Breaks ts value

abbrev pub Obeys : List ℕ → Type 0
Obeys ts = (at : List ℕ) → Breaks ts at → ⊥

-- the first of the properties that breaks the rule breaks it here
pub record IsFirstBreak (properties : List (List ℕ)) (at : List ℕ) : Type 0 where
  pub before : List (List ℕ)
  pub property : List ℕ
  pub behind : List (List ℕ)
  pub split : properties ≡ before ++ property ∷ behind
  pub obey : Each Obeys before
  pub breaks : Breaks property at

-- what is known of a break before some properties and behind them: how many bytes are left at the first one, if there is one
pub data Notes (properties : List (List ℕ)) : Option ℕ → Option ℕ → Type 0 where
  kept : (n : ℕ) → Notes properties (Some n) (Some n)
  none : Each Obeys properties → Notes properties None None
  noted : (at : List ℕ) → IsFirstBreak properties at → Notes properties None (Some (length at))

-- the text is one of these, tested
abbrev pub is_one_of : List (List ℕ) → List ℕ → Bool
is_one_of [] text = false
is_one_of (t ∷ ts) text = bytes_eq t text || is_one_of ts text
