-- What the functions that read parts of a grammar do.
use Rattle.std.specs.Prelude.{◌≡◌, ℕ, List, ◌∷◌, Bool, true, false, Result, Ok, Err}
use Rattle.gr_grammar.specs.Grammars.{Grammar, tok, System, Matches, a_token, Runs, took, failed, tree_of}
use Rattle.gr_symbols.specs.Numbers.{Names}
use Rattle.gr_reader.specs.Lexemes.{Lexeme}
use Rattle.gr_reader.specs.Classes.{Class, test, sees}
use Rattle.gr_reader.specs.declared.reader.Stop.{Stop}
use Rattle.gr_reader.specs.declared.reader.Stop.TheVariants.{Syntax, Memory}

-- the next lexeme is of the class, and it is taken
pub record Took (c : Class) (ts rest : List Lexeme) : Type 0 where
  pub lexeme : Lexeme
  pub split : ts ≡ lexeme ∷ rest
  pub is : test c lexeme ≡ true

-- the next lexeme is of the class and has this text
pub record Stands (c : Class) (ts : List Lexeme) (text : List ℕ) : Type 0 where
  pub lexeme : Lexeme
  pub rest : List Lexeme
  pub split : ts ≡ lexeme ∷ rest
  pub is : test c lexeme ≡ true
  pub text_is : text ≡ lexeme.text

-- it is taken
pub record TookText (c : Class) (ts rest : List Lexeme) (text : List ℕ) : Type 0 where
  pub took : Took c ts rest
  pub is : text ≡ took.lexeme.text

-- the next lexeme isn't of the class, and all of them are left
pub record Stays (c : Class) (ts rest : List Lexeme) : Type 0 where
  pub other : sees c ts ≡ false
  pub same : rest ≡ ts

-- it is taken, and this is the number of its text
pub record TookNumber (c : Class) (ts rest : List Lexeme) (texts : List (List ℕ)) (n : ℕ) : Type 0 where
  pub took : Took c ts rest
  pub names : Names texts n took.lexeme.text

-- all of them are left: the next lexeme isn't of the class, or memory is wanting
pub data StaysFor (c : Class) (ts rest : List Lexeme) : Stop → Type 0 where
  for_other : Stays c ts rest → StaysFor c ts rest Syntax
  for_want : rest ≡ ts → StaysFor c ts rest Memory

-- it is skipped if it is of the class
abbrev pub Skips : Class → List Lexeme → List Lexeme → Bool → Type 0
Skips c ts rest true = Took c ts rest
Skips c ts rest false = Stays c ts rest

-- the token of a tree of one token, and how many are left before it
abbrev pub token_of : {C T : Type 0} {S : System C T} {c : C} {ts rest : List T} → Matches S (tok c) ts rest → T
token_of (a_token {t} h) = t

-- reading the grammar stops here: for syntax just where a run fails, or for want of memory
pub data StopsAt {C T : Type 0} (S : System C T) (g : Grammar C) (ts rest : List T) : Stop → Type 0 where
  for_syntax : Runs S g ts (failed rest) → StopsAt S g ts rest Syntax
  for_memory : StopsAt S g ts rest Memory

-- a text of the grammar is taken, and the answer is right for its tree; or reading stops
abbrev pub Reads : {C T A : Type 0} (S : System C T) (g : Grammar C) → ((ts rest : List T) → Matches S g ts rest → A → Type 0) → List T → List T → Result A Stop → Type 0
Reads S g right ts rest (Ok v) = (r : Runs S g ts (took rest)) × right ts rest (tree_of r) v
Reads S g right ts rest (Err e) = StopsAt S g ts rest e

-- the same where the answer is a function of the tree
abbrev pub Takes : {C T A : Type 0} (S : System C T) (g : Grammar C) → ((ts rest : List T) → Matches S g ts rest → A) → List T → List T → Result A Stop → Type 0
Takes S g value ts rest (Ok v) = (r : Runs S g ts (took rest)) × (v ≡ value ts rest (tree_of r))
Takes S g value ts rest (Err e) = StopsAt S g ts rest e
