-- What the words of a command line ask.
use Rattle.std.specs.Prelude.{◌≡◌, ◌≢◌, ℕ, ◌≤◌, List, [], ◌∷◌, codes, ◌⊎◌}
use Rattle.std.specs.Str.Parse.{digits_value}
use Rattle.gr_text.specs.Decimals.{IsDecimal}

-- nonempty, and not beginning with `-`
abbrev pub IsFileWord : List ℕ → Type 0
IsFileWord [] = ⊥
IsFileWord (b ∷ bytes) = b ≢ 45

-- the word before a budget of models
abbrev pub models_word : List ℕ
models_word = codes "--models"

-- the words behind a command are files, and options with the word behind each as its value
pub data Splits : List (List ℕ) → List (List ℕ) → List (List ℕ × List ℕ) → Type 0 where
  nothing : Splits [] [] []
  a_file : (w : List ℕ) {ws files : List (List ℕ)} {options : List (List ℕ × List ℕ)} → IsFileWord w → Splits ws files options → Splits (w ∷ ws) (w ∷ files) options
  an_option : (w v : List ℕ) {ws files : List (List ℕ)} {options : List (List ℕ × List ℕ)} → w ≡ models_word → Splits ws files options → Splits (w ∷ v ∷ ws) files ((w, v) ∷ options)

-- a budget is a decimal of at most 50,000
pub record IsBudget (word : List ℕ) (n : ℕ) : Type 0 where
  pub decimal : IsDecimal word
  pub value : n ≡ digits_value 10 word
  pub most : n ≤ 50000

-- an option comes at most once; without it the budget is 20,000
abbrev pub IsModelsBudget : List (List ℕ × List ℕ) → ℕ → Type 0
IsModelsBudget options n = ((options ≡ []) × (n ≡ 20000)) ⊎ ((v : List ℕ) × (options ≡ (models_word, v) ∷ []) × IsBudget v n)

-- the words ask to compile the file with the budget of models
pub record AsksCompile (words : List (List ℕ)) (file : List ℕ) (models : ℕ) : Type 0 where
  pub rest : List (List ℕ)
  pub options : List (List ℕ × List ℕ)
  pub command : words ≡ codes "compile" ∷ rest
  pub split : Splits rest (file ∷ []) options
  pub budget : IsModelsBudget options models
