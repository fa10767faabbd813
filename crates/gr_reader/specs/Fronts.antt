-- Readings of a front of the tokens: a text of the grammar that begins them, whatever follows.
use Rattle.std.specs.Prelude.{◌≡◌, ℕ, ◌≤◌, List, [], ◌∷◌, ◌++◌, length, take, drop, ⊤, Result, Ok, Err}
use Rattle.gr_grammar.specs.Grammars.{Grammar, System, Matches, IsText, GoesOn, IsFault}

-- no text goes on with the next token behind the front
abbrev pub GoesNoFurther : {C T : Type 0} → System C T → Grammar C → List T → List T → Type 0
GoesNoFurther S g front [] = ⊤
GoesNoFurther S g front (t ∷ more) = GoesOn S g (front ++ t ∷ []) → ⊥

-- the first n tokens are a text with this value, and no text goes on with the token behind them
pub record IsFront {C T A : Type 0} (S : System C T) (g : Grammar C) (value : (ts rest : List T) → Matches S g ts rest → A) (ts : List T) (a : A) (n : ℕ) : Type 0 where
  pub within : n ≤ length ts
  pub tree : Matches S g ts (drop n ts)
  pub is : a ≡ value ts (drop n ts) tree
  pub stops : GoesNoFurther S g (take n ts) (drop n ts)

-- the first n tokens begin a text and are none, and no text goes on with the token behind them, if there is one
pub record IsNoFront {C T : Type 0} (S : System C T) (g : Grammar C) (ts : List T) (n : ℕ) : Type 0 where
  pub within : n ≤ length ts
  pub fault : IsFault S g ts (drop n ts)
  pub none : IsText S g (take n ts) → ⊥

-- the answer of a reader of a front: its value and the number of its tokens, or the number of tokens before the first one after which no text goes on
abbrev pub IsFrontReading : {C T A : Type 0} (S : System C T) (g : Grammar C) → ((ts rest : List T) → Matches S g ts rest → A) → List T → Result (A × ℕ) ℕ → Type 0
IsFrontReading S g value ts (Ok r) = IsFront S g value ts r.0 r.1
IsFrontReading S g value ts (Err n) = IsNoFront S g ts n
