-- A pair that is read and put into a bag.
use Rattle.std.specs.Prelude.{◌≡◌, ℕ, ◌<◌, Bool, true, false, List, ◌∷◌, ◌++◌, length, codes, ◌⊎◌}
use Rattle.std.specs.Bool.{OnTrue, OnFalse}
use Rattle.std.proofs.Common.{inl, inr, ap, sym, ◌∙◌, subst, arith, append_assoc}
use Rattle.gr_base.specs.Lists.{Each}
use Rattle.gr_base.proofs.ListLemmas.{Each-at, Each-members}
use Rattle.gr_symbols.specs.Numbers.{Names}
use Rattle.gr_terms.proofs.BagLemmas.{IsAmong-puts}
use Rattle.gr_terms.specs.Bags.{HasAttribute, LacksAttribute, Puts}
use Rattle.gr_terms.specs.Canonical.{Label}
use Rattle.gr_terms.specs.declared.Sym.{Sym}
use Rattle.gr_terms.specs.declared.Term.{Term}
use Rattle.gr_text.specs.Words.{IsBareWord, is_word}
use Rattle.gr_text.proofs.WordLemmas.{IsBareWord-test}
use Rattle.td_canon.specs.TreeText.{label_text}
use Rattle.td_canon.proofs.ValueLemmas.{text_in-names}
use Rattle.td_tree.specs.Trees.{BagPairs}
use Rattle.tg_reader.specs.Reading.{IsKnownPair, IsKnownTerm, pair_text}
use Rattle.tg_reader.specs.Writable.{IsName}
use Rattle.tg_reader.proofs.Runs.{word_some}
use Rattle.tg_reader.proofs.Steps.{known_name}

pub pair_regroup : (text : ℕ → List ℕ) (p : ℕ × Label) (rest : List ℕ) → pair_text text p ++ rest ≡ text p.0 ++ 61 ∷ (label_text text p.1 ++ rest)
pair_regroup text p rest = append_assoc (text p.0 ++ codes "=") (label_text text p.1) rest ∙ append_assoc (text p.0) (codes "=") (label_text text p.1 ++ rest)

pub bare_word : (t : List ℕ) → is_word t ≡ true → IsBareWord t
bare_word t h = (IsBareWord-test t).0 h

pub word_bare : (t : List ℕ) → IsBareWord t → is_word t ≡ true
word_bare t h = (IsBareWord-test t).1 h

pub bare_length : (t : List ℕ) → IsBareWord t → 0 < length t
bare_length t h = let w = word_some t (word_bare t h) in omega (arith, ap (λ (z : List ℕ). length z) w.2)

-- what the bag says of a pair that is added
module _ (added : Bool) (old new : BagPairs) (attr : Sym) (value : Term) (absent : OnTrue added (LacksAttribute old attr)) (puts : OnTrue added (Puts old new (attr, value)))
    (there : OnFalse added (HasAttribute old attr)) (same : OnFalse added (new ≡ old)) where
  pub put_or_there : (LacksAttribute old attr × Puts old new (attr, value)) ⊎ (HasAttribute old attr × (new ≡ old))
  put_or_there = by added absent puts there same
    where
      by : (b : Bool) → OnTrue b (LacksAttribute old attr) → OnTrue b (Puts old new (attr, value)) → OnFalse b (HasAttribute old attr) → OnFalse b (new ≡ old) →
          (LacksAttribute old attr × Puts old new (attr, value)) ⊎ (HasAttribute old attr × (new ≡ old))
      by true f g h k = inl (f, g)
      by false f g h k = inr (h, k)

  pub put_each : (P : Sym × Term → Type 0) → P (attr, value) → Each P old → Each P new
  put_each P here each = elim put_or_there [
    | inl put ↦ Each-members P new (λ y i. elim (IsAmong-puts old new (attr, value) put.1 y i) [ inl e ↦ subst P (sym e) here | inr j ↦ Each-at P old y each j ])
    | inr kept ↦ subst (λ zs. Each P zs) (sym kept.1) each
  ]

-- a pair whose attribute is a word and whose value is known is known
pub known_pair : (texts : List (List ℕ)) (attr : Sym) (value : Term) (t : List ℕ) → Names texts attr.0 t → IsName t → IsBareWord t → IsKnownTerm value texts → IsKnownPair texts (attr, value)
known_pair texts attr value t names name bare known =
    let is = known_name texts attr.0 t names name in
    record {
      attribute = is.0;
      value = known.0;
      writable = record { attribute = record { name = is.1; word = subst (λ z. is_word z ≡ true) (sym (text_in-names texts attr.0 t names)) (word_bare t bare) }; value = known.1 };
    }
