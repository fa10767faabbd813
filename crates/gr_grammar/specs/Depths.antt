-- A limit on brackets inside each other.
use Rattle.std.specs.Prelude.{◌≡◌, ℕ, suc, ◌-◌, ◌<◌, List, [], ◌∷◌, ◌++◌, ⊤, Option, Some, None, Bool, true, false, nat_lt}
use Rattle.gr_grammar.specs.declared.brackets.Turn.{Turn}
use Rattle.gr_grammar.specs.declared.brackets.Turn.TheVariants.{Opens, Closes, Neither}
use Rattle.gr_grammar.specs.Grammars.{Grammar, System, GoesOn, IsText}

-- how many brackets are open behind a token where n are open before it; a closing one that closes nothing leaves none open
abbrev pub depth : ℕ → Turn → ℕ
depth n Opens = suc n
depth n Closes = n - 1
depth n Neither = n

-- the token doesn't open a bracket inside as many open ones as the limit
abbrev pub HasRoom : ℕ → ℕ → Turn → Type 0
HasRoom limit n Opens = n < limit
HasRoom limit n Closes = ⊤
HasRoom limit n Neither = ⊤

-- no bracket opens inside as many open ones as the limit, where n are open before
abbrev pub IsShallow : {T : Type 0} → (T → Turn) → ℕ → ℕ → List T → Type 0
IsShallow turn limit n [] = ⊤
IsShallow turn limit n (t ∷ ts) = HasRoom limit n (turn t) × IsShallow turn limit (depth n (turn t)) ts

-- no text goes on with the next token behind the front, or the token opens a bracket too deep; at the end, the front is no text
abbrev pub IsStuckShallow : {C T : Type 0} → System C T → (T → Turn) → ℕ → Grammar C → List T → List T → Type 0
IsStuckShallow S turn limit g front [] = IsText S g front → ⊥
IsStuckShallow S turn limit g front (t ∷ more) = GoesOn S g (front ++ t ∷ []) → IsShallow turn limit 0 (front ++ t ∷ []) → ⊥

-- the rest begins at the first place after which no text goes on or at which a bracket opens too deep: the tokens before it begin a text, with any brackets behind them, and are inside the limit, and no more are both
pub record IsShallowFault {C T : Type 0} (S : System C T) (turn : T → Turn) (limit : ℕ) (g : Grammar C) (ts rest : List T) : Type 0 where
  pub front : List T
  pub split : ts ≡ front ++ rest
  pub before : GoesOn S g front
  pub shallow : IsShallow turn limit 0 front
  pub here : IsStuckShallow S turn limit g front rest

-- the next token opens a bracket too deep
abbrev pub IsTooDeep : {T : Type 0} → (T → Turn) → ℕ → List T → List T → Type 0
IsTooDeep turn limit part [] = ⊤
IsTooDeep turn limit part (t ∷ more) = IsShallow turn limit 0 (part ++ t ∷ []) → ⊥

-- the tokens before the first bracket that opens too deep, and those from it on
pub record IsCut {T : Type 0} (turn : T → Turn) (limit : ℕ) (ts part deep : List T) : Type 0 where
  pub split : ts ≡ part ++ deep
  pub shallow : IsShallow turn limit 0 part
  pub here : IsTooDeep turn limit part deep

-- how many brackets are open behind a token, or none where it opens one too deep
abbrev pub has_room : ℕ → ℕ → Turn → Bool
has_room limit n Opens = nat_lt n limit
has_room limit n Closes = true
has_room limit n Neither = true

abbrev pub some_if : Bool → ℕ → Option ℕ
some_if true n = Some n
some_if false n = None

abbrev pub next_depth : ℕ → ℕ → Turn → Option ℕ
next_depth limit n x = some_if (has_room limit n x) (depth n x)

-- how many tokens stand before the first bracket that opens too deep
abbrev pub suc_if : Bool → ℕ → ℕ
suc_if true n = suc n
suc_if false n = 0

abbrev pub shallow_len : {T : Type 0} → (T → Turn) → ℕ → ℕ → List T → ℕ
shallow_len turn limit n [] = 0
shallow_len turn limit n (t ∷ ts) = suc_if (has_room limit n (turn t)) (shallow_len turn limit (depth n (turn t)) ts)
