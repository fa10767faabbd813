-- What a reader of a grammar answers, the same for every grammar, with a limit on brackets or without.
use Rattle.std.specs.Prelude.{◌≡◌, ℕ, ◌≤◌, ◌<◌, List, [], ◌++◌, length, drop, Result, Ok, Err}
use Rattle.gr_grammar.specs.declared.brackets.Turn.{Turn}
use Rattle.gr_grammar.specs.Grammars.{Grammar, System, Matches, IsText, End, took, failed}
use Rattle.gr_grammar.specs.Depths.{IsShallow, IsShallowFault}

-- the answer for the tokens: a value, and they are a text inside the limit whose tree has this value; or the number of tokens before the first place after which no text goes on or at which a bracket opens too deep
abbrev pub IsReading : {C T A : Type 0} (S : System C T) → (T → Turn) → ℕ → (g : Grammar C) → ((ts rest : List T) → Matches S g ts rest → A) → List T → Result A ℕ → Type 0
IsReading S turn limit g value ts (Ok a) = IsShallow turn limit 0 ts × ((tree : IsText S g ts) × (a ≡ value ts [] tree))
IsReading S turn limit g value ts (Err n) = IsShallowFault S turn limit g ts (drop n ts) × (n ≤ length ts)

-- a run over the tokens stopped where the rest is left, and not behind a whole text
abbrev pub IsStop : {T : Type 0} → End T → List T → Type 0
IsStop (took left) rest = (rest ≡ left) × (0 < length left)
IsStop (failed left) rest = rest ≡ left

-- a run over the tokens before a deep bracket stopped where the rest of all tokens is left, and not behind a whole text
abbrev pub IsStopBefore : {T : Type 0} → End T → List T → List T → Type 0
IsStopBefore (took left) deep rest = (rest ≡ left ++ deep) × (0 < length rest)
IsStopBefore (failed left) deep rest = rest ≡ left ++ deep
