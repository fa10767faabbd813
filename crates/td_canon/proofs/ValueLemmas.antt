-- A value written, and the one spelling of a name as a function.
use Rattle.std.specs.Prelude.{◌≡◌, ℕ, suc, ◌+◌, Bool, true, false, List, [], ◌∷◌, ◌++◌, codes, decimal, if◌then◌else◌, refl}
use Rattle.std.proofs.Common.{inl, inr, ap, ap₂, sym, ◌∙◌, subst, append_assoc, arith}
use Rattle.std.proofs.lemmas.Option.{get_or_from_slice_get}
use Rattle.gr_text.specs.Words.{Spells, is_word, quoted}
use Rattle.gr_text.proofs.WordLemmas as words
use Rattle.gr_symbols.specs.Numbers.{Names}
use Rattle.gr_terms.specs.Networks.{name, variable}
use Rattle.gr_terms.specs.Views.{term_of}
use Rattle.gr_terms.specs.declared.Sym.{Sym}
use Rattle.gr_terms.specs.declared.Term.{Term as Value}
use Rattle.gr_terms.specs.declared.Term.TheVariants.{Const, Var}
use Rattle.td_canon.specs.CanonicalTexts.{text_in}
use Rattle.td_canon.specs.TreeText.{label_text, spelled}
use Rattle.td_canon.specs.Writing.{BeginsWith, Written, Writes, meet}
use Rattle.td_canon.proofs.MeetingLemmas.{place, place-stays}

pub text_in-names : (texts : List (List ℕ)) (n : ℕ) (text : List ℕ) → Names texts n text → text_in texts n ≡ text
text_in-names texts n text h = get_or_from_slice_get texts n text [] h

pub spelled-is : (s t : List ℕ) → Spells s t → s ≡ spelled t
spelled-is s t (inl (word, e)) = e ∙ sym (ap (λ b. if b then t else quoted t) ((words.IsBareWord-test t).1 word))
spelled-is s t (inr (never, e)) = by (is_word t) refl
  where
    by : (b : Bool) → is_word t ≡ b → s ≡ spelled t
    by true h = absurd (never ((words.IsBareWord-test t).0 h))
    by false h = e ∙ sym (ap (λ b. if b then t else quoted t) h)

-- a name
pub writes_name : (texts : List (List ℕ)) (n : Sym) (value : Value) (text spelling : List ℕ) (old : Written) (bytes out met : List ℕ) →
    value ≡ Const n → old ≡ record { bytes = bytes; met = met } → Names texts n.0 text → Spells spelling text → out ≡ bytes ++ spelling →
    Writes old (record { bytes = out; met = met }) (term_of value ∷ []) (λ label. label_text (text_in texts) (label (term_of value)))
writes_name texts n value text spelling old bytes out met is old_is names spells out_is =
    subst (λ v. Writes old (record { bytes = out; met = met }) (term_of v ∷ []) (λ label. label_text (text_in texts) (label (term_of v)))) (sym is)
    (subst (λ o. Writes o (record { bytes = out; met = met }) (name n.0 ∷ []) (λ label. label_text (text_in texts) (label (name n.0)))) (sym old_is)
    (record {
      met = refl;
      appended = λ all begins. out_is ∙ ap (λ t. bytes ++ t) (spelled-is spelling text spells ∙ ap spelled (sym (text_in-names texts n.0 text names)));
    }))

-- a variable
pub writes_variable : (texts : List (List ℕ)) (v : ℕ) (value : Value) (old : Written) (bytes one two met new_met : List ℕ) (at : ℕ) →
    value ≡ Var v → old ≡ record { bytes = bytes; met = met } → new_met ≡ meet met (variable v) → at ≡ place v met → one ≡ bytes ++ codes "?" → two ≡ one ++ decimal (at + 1) →
    Writes old (record { bytes = two; met = new_met }) (term_of value ∷ []) (λ label. label_text (text_in texts) (label (term_of value)))
writes_variable texts v value old bytes one two met new_met at is old_is met_is at_is one_is two_is =
    subst (λ w. Writes old (record { bytes = two; met = new_met }) (term_of w ∷ []) (λ label. label_text (text_in texts) (label (term_of w)))) (sym is)
    (subst (λ o. Writes o (record { bytes = two; met = new_met }) (variable v ∷ []) (λ label. label_text (text_in texts) (label (variable v)))) (sym old_is)
    (record {
      met = met_is;
      appended = λ all begins.
          let stays : place v all ≡ place v met = place-stays met v all (subst (λ m. BeginsWith m all) met_is begins) in
          let number : at + 1 ≡ suc (place v all) = omega arith in
          two_is ∙ ap₂ (λ o k. o ++ decimal k) one_is number ∙ append_assoc bytes (codes "?") (decimal (suc (place v all)));
    }))
