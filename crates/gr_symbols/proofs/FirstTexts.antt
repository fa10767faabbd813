-- The ten first texts, and a table that texts are put into one after another.
use Rattle.std.specs.Prelude.{◌≡◌, ℕ, ◌+◌, ◌<◌, List, [], ◌∷◌, ◌++◌, length, take, map}
use Rattle.std.specs.Str.{bytes_eq}
use Rattle.std.proofs.Common.{refl, ap, sym, ◌∙◌, subst, get_or}
use Rattle.std.proofs.lemmas.List.{map_more}
use Rattle.std.proofs.lemmas.Slice.Eq.{bytes_eq-Decides}
use Rattle.gr_base.specs.Lists.{IsAmong, NoneTwice}
use Rattle.gr_symbols.specs.Numbers.{first_texts}
use Rattle.gr_base.proofs.ListLemmas.{NoneTwice-none_twice, NoneTwice-map_take}

-- none of them stands twice
pub NoneTwice-first_texts : NoneTwice first_texts
NoneTwice-first_texts = NoneTwice-none_twice bytes_eq bytes_eq-Decides first_texts refl

-- the next text is new, so it goes last
pub texts_more : {X : Type 0} (text : X → List ℕ) (items : List X) (i : ℕ) (d : X) (old new : List (List ℕ))
    → i < length items → NoneTwice (map text items) → old ≡ map text (take i items)
    → ((IsAmong old (text (get_or items i d)) → ⊥) → new ≡ old ++ text (get_or items i d) ∷ [])
    → new ≡ map text (take (i + 1) items)
texts_more text items i d old new within once so_far fresh =
    fresh (λ h. NoneTwice-map_take text items i d within once (subst (λ texts. IsAmong texts (text (get_or items i d))) so_far h))
    ∙ ap (λ texts. texts ++ text (get_or items i d) ∷ []) so_far ∙ sym (map_more text items i d within)
