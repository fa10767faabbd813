-- A numbering of texts is the list of them, text number n at place n: what it calls by a number, how it grows, and the texts
-- that have the first numbers.
use Rattle.std.specs.Prelude.{◌≡◌, ℕ, List, [], ◌∷◌, ◌++◌, Some, slice_get, codes, if◌then◌else◌}
use Rattle.std.specs.List.{list_any}
use Rattle.std.specs.Str.{bytes_eq}

-- n is the number of the text
abbrev pub Names : List (List ℕ) → ℕ → List ℕ → Type 0
Names texts n text = slice_get texts n ≡ Some text

-- the new numbering begins with the old one, so each text of the old one keeps its number
abbrev pub Grows : List (List ℕ) → List (List ℕ) → Type 0
Grows old new = (more : List (List ℕ)) × (new ≡ old ++ more)

-- the numbering behind a text: it stays where it has the text, and else gets it as its last
unfoldable pub with_text : List (List ℕ) → List ℕ → List (List ℕ)
with_text texts t = if list_any (bytes_eq t) texts then texts else texts ++ t ∷ []

-- the numbering behind several texts, which are taken one after another
abbrev pub with_texts : List (List ℕ) → List (List ℕ) → List (List ℕ)
with_texts texts [] = texts
with_texts texts (t ∷ ts) = with_texts (with_text texts t) ts

-- the texts with the numbers 0 to 9
abbrev pub first_texts : List (List ℕ)
first_texts = codes "cat" ∷ codes "mark" ∷ codes "name" ∷ codes "anchor" ∷ codes "coanchor" ∷ codes "subst" ∷ codes "foot" ∷ codes "lex" ∷ codes "nadj" ∷ [] ∷ []
