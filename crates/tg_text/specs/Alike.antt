-- Answers that say the same.
use Rattle.std.specs.Prelude.{◌≡◌, ℕ, List, map, Result, Ok, Err}
use Rattle.gr_tokens.specs.declared.ReadRefusal.{ReadRefusal}
use Rattle.tg_text.specs.Answers.{Classes}
use Rattle.tg_text.specs.GrammarText.{class_text_of}

-- two answers, each by a table of its own: the same refusal, or classes of which the same is written
abbrev pub AreAlike : List (List ℕ) → List (List ℕ) → Result Classes ReadRefusal → Result Classes ReadRefusal → Type 0
AreAlike texts others (Ok x) (Ok y) = map (class_text_of texts) x.items ≡ map (class_text_of others) y.items
AreAlike texts others (Ok x) (Err e) = ⊥
AreAlike texts others (Err e) (Ok y) = ⊥
AreAlike texts others (Err e) (Err f) = e ≡ f
