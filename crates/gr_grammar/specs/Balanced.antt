-- An example of a grammar over bytes: lowercase letters and balanced round brackets.
use Rattle.std.specs.Prelude.{◌≡◌, ℕ, List, [], ◌∷◌, Bool, true, false, ◌==◌, ◌||◌, ◌&&◌, nat_lt, Result, Ok, Err}
use Rattle.gr_grammar.specs.declared.brackets.Turn.{Turn}
use Rattle.gr_grammar.specs.declared.brackets.Turn.TheVariants.{Opens, Closes, Neither}
use Rattle.gr_grammar.specs.declared.balanced.Class.{Class}
use Rattle.gr_grammar.specs.declared.balanced.Class.TheVariants.{Letter, Opening, Closing}
use Rattle.gr_grammar.specs.Grammars.{Grammar, tok, seq, alt, star, part, System, Matches, both, the_left, the_right, no_more, one_more, by_part, Runs, took, failed, tree_of}

-- the byte is of the class
abbrev pub test : Class → ℕ → Bool
test Letter b = nat_lt 96 b && nat_lt b 123
test Opening b = b == 40
test Closing b = b == 41

-- the classes share no byte
abbrev pub apart : Class → Class → Bool
apart Letter Letter = false
apart Letter Opening = true
apart Letter Closing = true
apart Opening Letter = true
apart Opening Opening = false
apart Opening Closing = true
apart Closing Letter = true
apart Closing Opening = true
apart Closing Closing = false

-- a letter, or a body in brackets; a body is any number of these
abbrev pub item : Grammar Class
item = alt (tok Letter) (seq (tok Opening) (seq (part 0) (tok Closing)))

abbrev pub body : Grammar Class
body = part 0

abbrev pub system : System Class ℕ
system = record { test = test; apart = apart; parts = λ n. star item; info = λ n. record { null = true; first = Letter ∷ Opening ∷ []; goes = Letter ∷ Opening ∷ [] } }

-- what a byte does to the brackets that are open
abbrev pub turn_by : Bool → Bool → Turn
turn_by true c = Opens
turn_by false true = Closes
turn_by false false = Neither

abbrev pub turn : ℕ → Turn
turn b = turn_by (b == 40) (b == 41)

-- the value of a text: whether it has a letter
abbrev mutual
  pub has_letter : {ts rest : List ℕ} → Matches system (part 0) ts rest → Bool
  has_letter (by_part m) = row_has m

  pub row_has : {ts rest : List ℕ} → Matches system (star item) ts rest → Bool
  row_has no_more = false
  row_has (one_more (both a b)) = item_has a || row_has b

  pub item_has : {ts rest : List ℕ} → Matches system item ts rest → Bool
  item_has (the_left m) = true
  item_has (the_right (both o (both b c))) = has_letter b

-- what a parse function does: it takes a text of the grammar and gives its value, or stops where a run fails
abbrev pub Takes : {A E : Type 0} (g : Grammar Class) → ((ts rest : List ℕ) → Matches system g ts rest → A) → List ℕ → List ℕ → Result A E → Type 0
Takes g value ts rest (Ok v) = (r : Runs system g ts (took rest)) × (v ≡ value ts rest (tree_of r))
Takes g value ts rest (Err e) = Runs system g ts (failed rest)

-- the same for a part without a value
abbrev pub Ends : {A E : Type 0} → Grammar Class → List ℕ → List ℕ → Result A E → Type 0
Ends g ts rest (Ok v) = Runs system g ts (took rest)
Ends g ts rest (Err e) = Runs system g ts (failed rest)
