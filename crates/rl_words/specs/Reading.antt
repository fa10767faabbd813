-- What is asked by the words that are left, behind those that were read.
use Rattle.std.specs.Prelude.{◌≡◌, ℕ, List, [], ◌∷◌, Option, Some, None}
use Rattle.rl_words.specs.Requests.{Splits, IsModelsBudget}

-- the file was found before, or it is the one that is left
abbrev pub IsTheFile : Option (List ℕ) → List (List ℕ) → List ℕ → Type 0
IsTheFile None files file = files ≡ file ∷ []
IsTheFile (Some f) files file = (files ≡ []) × (file ≡ f)

-- the budget was found before, or it is that of the options that are left
abbrev pub IsTheBudget : Option ℕ → List (List ℕ × List ℕ) → ℕ → Type 0
IsTheBudget None options models = IsModelsBudget options models
IsTheBudget (Some n) options models = (options ≡ []) × (models ≡ n)

pub record AsksBehind (found : Option (List ℕ)) (budget : Option ℕ) (words : List (List ℕ)) (file : List ℕ) (models : ℕ) : Type 0 where
  pub files : List (List ℕ)
  pub options : List (List ℕ × List ℕ)
  pub split : Splits words files options
  pub the_file : IsTheFile found files file
  pub the_budget : IsTheBudget budget options models
