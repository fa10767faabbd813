-- The lines of canonical grammar text: which line may stand behind others.
use Rattle.std.specs.Prelude.{ℕ, suc, List, [], ◌∷◌, ◌++◌, length, codes, Bool}
use Rattle.std.specs.Fmt.{decimal}
use Rattle.gr_base.specs.Lists.{Each, IsAmong, IsBefore}
use Rattle.tg_text.specs.GrammarText.{ended, tree_line, closing_word}
use Rattle.tg_reader.specs.Writable.{IsTreeText, IsWord}

-- where the lines so far lead: nothing was read; the classes with these names are whole; one more class is open, the last of these names, with the texts of its trees so far; or the text is over
pub data Standing : Type 0 where
  begins : Standing
  between : List (List ℕ) → Standing
  inside : List (List ℕ) → List (List ℕ) → Standing
  over : Standing

-- A line may stand there, its end included, and leads on. The first says the version. A class is none that came before. A tree has the next number, it is written by its canonical text, and this is greater than those before it in its class. A closing line says how many trees there are
pub data Follows : Standing → List ℕ → Standing → Type 0 where
  a_version : Follows begins (ended (codes "grammar 1")) (between [])
  a_class : (names : List (List ℕ)) (name : List ℕ) → IsWord name → (IsAmong names name → ⊥) →
      Follows (between names) (ended (codes "class " ++ name)) (inside (names ++ name ∷ []) [])
  a_tree : (names trees : List (List ℕ)) (text : List ℕ) → IsTreeText text → Each (λ t. IsBefore t text) trees →
      Follows (inside names trees) (tree_line (suc (length trees)) text) (inside names (trees ++ text ∷ []))
  a_count : (names trees : List (List ℕ)) (cut : Bool) → Follows (inside names trees) (ended (closing_word cut ++ decimal (length trees))) (between names)
  an_end : (names : List (List ℕ)) → Follows (between names) (ended (codes "end")) over

-- these lines follow one another, and lead from one standing to another
pub data Leads : Standing → List (List ℕ) → Standing → Type 0 where
  no_line : {s : Standing} → Leads s [] s
  a_line : {s mid after : Standing} {line : List ℕ} {lines : List (List ℕ)} → Follows s line mid → Leads mid lines after → Leads s (line ∷ lines) after
