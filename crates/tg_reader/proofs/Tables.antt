-- The first texts of a table.
use Rattle.std.specs.Prelude.{◌≡◌, ◌≢◌, ℕ, List, [], length}
use Rattle.std.proofs.Common.{inl, inr, sym, ◌∙◌, subst}
use Rattle.std.proofs.lemmas.Bool.{cases_lt}
use Rattle.std.proofs.lemmas.List.{get_or_past}
use Rattle.gr_base.specs.Lists.{NoneTwice}
use Rattle.gr_symbols.specs.Numbers.{Grows, Names, first_texts}
use Rattle.gr_symbols.proofs.NumberLemmas.{Names-grows, one_number}
use Rattle.td_canon.specs.CanonicalTexts.{text_in}
use Rattle.td_canon.proofs.OrderLemmas.{text_named}
use Rattle.td_canon.proofs.ValueLemmas.{text_in-names}

module _ (texts : List (List ℕ)) (once : NoneTwice texts) (first : Grows first_texts texts) where
  pub first_names : (n : ℕ) (t : List ℕ) → Names first_texts n t → Names texts n t
  first_names n t names = Names-grows first_texts texts n t names first

  pub first_is : (n : ℕ) (t : List ℕ) → Names first_texts n t → text_in texts n ≡ t
  first_is n t names = text_in-names texts n t (first_names n t names)

  -- no other number has the text
  pub only_number : (n a : ℕ) (t : List ℕ) → Names texts n t → t ≢ [] → text_in texts a ≡ t → a ≡ n
  only_number n a t names some e = elim (cases_lt a (length texts)) [
    | inl within ↦ one_number texts a n t once (subst (λ z. Names texts a z) e (text_named texts a within)) names
    | inr past ↦ absurd (some (sym e ∙ get_or_past texts a [] past))
  ]
