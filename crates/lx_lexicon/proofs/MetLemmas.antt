-- The names that were met.
use Rattle.std.proofs.Common.{◌≡◌, ℕ, List, [], ◌∷◌, ◌++◌, Bool, true, false, refl, ap, sym, ◌∙◌, subst, inl, inr}
use Rattle.std.specs.Prelude.{◌↔◌, ◌⊎◌, ◌==◌, not, if◌then◌else◌}
use Rattle.std.specs.List.{list_any}
use Rattle.indexmap.specs.IndexSet.{insert_key}
use Rattle.std.proofs.lemmas.Bool.{eqb-true, eq-eqb, true≢false}
use Rattle.std.proofs.lemmas.List.{map-append}
use Rattle.gr_base.specs.Lists.{IsAmong, NoneTwice}
use Rattle.gr_base.proofs.ListLemmas.{IsAmong-append, IsAmong-append_left, IsAmong-new_one, list_any-IsAmong, IsAmong-list_any}
use Rattle.gr_symbols.proofs.NumberLemmas.{numbers_tell_texts_apart}
use Rattle.gr_reader.specs.Classes.{is_one_of}
use Rattle.gr_feats.proofs.ComplaintLemmas.{one_of_is, is_one}
use Rattle.lx_lexicon.specs.declared.found.Coanchor.{Coanchor}
use Rattle.lx_lexicon.specs.Grammars.{WrittenCoanchor}
use Rattle.lx_lexicon.specs.Complaints.{names_of}
use Rattle.lx_lexicon.specs.Reading.{IsCoanchor, AreMet}

-- what an insertion does to the keys of a set of numbers
not_true : (b : Bool) → not b ≡ true → b ≡ false
not_true false e = refl
not_true true e = absurd (true≢false (sym e))

any_among : (ks : List ℕ) (n : ℕ) → list_any (λ b. n == b) ks ≡ true → IsAmong ks n
any_among ks n e = let r = IsAmong-list_any (λ b. n == b) ks e in subst (λ m. IsAmong ks m) (sym (eqb-true n r.0 r.2)) r.1

same_number : (n : ℕ) → (n == n) ≡ true
same_number n = eq-eqb n n refl

among_any : (ks : List ℕ) (n : ℕ) → IsAmong ks n → list_any (λ b. n == b) ks ≡ true
among_any ks n h = list_any-IsAmong (λ b. n == b) ks n h (same_number n)

pub known_is : (ks : List ℕ) (n : ℕ) (new : Bool) → new ≡ not (list_any (λ b. n == b) ks) → (not new ≡ true) ↔ IsAmong ks n
known_is ks n new e = by (list_any (λ b. n == b) ks) refl
  where
    by : (b : Bool) → list_any (λ b. n == b) ks ≡ b → (not new ≡ true) ↔ IsAmong ks n
    by true h = (λ x. any_among ks n h, λ x. ap not (e ∙ ap not h))
    by false h = (
      λ x. absurd (true≢false (sym x ∙ ap not (e ∙ ap not h))),
      λ x. absurd (true≢false (sym (among_any ks n x) ∙ h)),
    )

-- just the new one is more
kept_in : (ks : List ℕ) (n m : ℕ) (b : Bool) → list_any (λ k. n == k) ks ≡ b → IsAmong (if b then ks else ks ++ n ∷ []) m ↔ (IsAmong ks m ⊎ (m ≡ n))
kept_in ks n m true h = (λ i. inl i, λ i. elim i [ inl x ↦ x | inr e ↦ subst (λ z. IsAmong ks z) (sym e) (any_among ks n h) ])
kept_in ks n m false h = (
  λ i. elim (IsAmong-append ks (n ∷ []) m i) [ inl x ↦ inl x | inr y ↦ inr (one_is y) ],
  λ i. elim i [ inl x ↦ IsAmong-append_left ks (n ∷ []) m x | inr e ↦ subst (λ z. IsAmong (ks ++ n ∷ []) z) (sym e) (IsAmong-new_one ks n) ],
)
  where
    one_is : IsAmong (n ∷ []) m → m ≡ n
    one_is (inl e) = e
    one_is (inr x) = absurd x

pub members_are : (ks news : List ℕ) (n : ℕ) → news ≡ insert_key (λ b c. b == c) ks n → (m : ℕ) → IsAmong news m ↔ (IsAmong ks m ⊎ (m ≡ n))
members_are ks news n e m = subst (λ z. IsAmong z m ↔ (IsAmong ks m ⊎ (m ≡ n))) (sym e) (kept_in ks n m (list_any (λ k. n == k) ks) refl)

-- whether a name was met is whether it is one of those before
pub met_before : (texts : List (List ℕ)) (before : List WrittenCoanchor) (met : List ℕ) (w : WrittenCoanchor) (x : Coanchor) (known : Bool)
    → AreMet texts before met → IsCoanchor texts w x → (known ≡ true) ↔ IsAmong met x.name.name.0 → known ≡ is_one_of (names_of before) w.name.text
met_before texts before met w x known are is told = same known (is_one_of (names_of before) w.name.text)
    (λ h. (are x.name.name.0 w.name.text is.name.name).1 (told.0 h)) (λ h. told.1 ((are x.name.name.0 w.name.text is.name.name).0 h))
  where
    same : (a b : Bool) → (a ≡ true → b ≡ true) → (b ≡ true → a ≡ true) → a ≡ b
    same true b f g = sym (f refl)
    same false true f g = g refl
    same false false f g = refl

-- and then it is met
pub met_behind : (texts : List (List ℕ)) → NoneTwice texts → (before : List WrittenCoanchor) (met news : List ℕ) (w : WrittenCoanchor) (x : Coanchor)
    → AreMet texts before met → IsCoanchor texts w x → ((n : ℕ) → IsAmong news n ↔ (IsAmong met n ⊎ (n ≡ x.name.name.0))) → AreMet texts (before ++ w ∷ []) news
met_behind texts once before met news w x are is members n t names =
    let tell = numbers_tell_texts_apart texts n x.name.name.0 t w.name.text once names is.name.name in
    subst (λ ts. (is_one_of ts t ≡ true) ↔ IsAmong news n) (sym (map-append (λ (b : WrittenCoanchor). b.name.text) before (w ∷ []))) (
      λ h. (members n).1 (elim (IsAmong-append (names_of before) (w.name.text ∷ []) t (one_of_is (names_of before ++ w.name.text ∷ []) t h)) [
        | inl i ↦ inl ((are n t names).0 (is_one (names_of before) t i))
        | inr i ↦ inr (tell.1 (one_text i))
      ]),
      λ h. is_one (names_of before ++ w.name.text ∷ []) t (elim ((members n).0 h) [
        | inl i ↦ IsAmong-append_left (names_of before) (w.name.text ∷ []) t (one_of_is (names_of before) t ((are n t names).1 i))
        | inr e ↦ subst (λ z. IsAmong (names_of before ++ w.name.text ∷ []) z) (sym (tell.0 e)) (IsAmong-new_one (names_of before) w.name.text)
      ]),
    )
  where
    one_text : {t u : List ℕ} → IsAmong (u ∷ []) t → t ≡ u
    one_text (inl e) = e
    one_text (inr x) = absurd x

pub none_met_yet : (texts : List (List ℕ)) (met : List ℕ) → met ≡ [] → AreMet texts [] met
none_met_yet texts met e n t names = subst (λ z. (is_one_of [] t ≡ true) ↔ IsAmong z n) (sym e) (λ h. absurd (true≢false (sym h)), λ h. absurd h)
