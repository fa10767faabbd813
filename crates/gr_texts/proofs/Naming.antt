-- The lexeme of a name.
use Rattle.std.specs.Prelude.{◌≡◌, ℕ, List, Bool, true, false, cond, IsTrue, refl}
use Rattle.std.proofs.Common.{◌↔◌, inl, inr, ap, ◌∙◌}
use Rattle.std.proofs.lemmas.Bool.{false≢true}
use Rattle.gr_text.proofs.WordLemmas.{IsBareWord-test}
use Rattle.gr_text.specs.Words.{IsBareWord, Spells, is_word}
use Rattle.gr_tokens.specs.declared.Kind.TheVariants.{Word, Str}
use Rattle.gr_texts.specs.Lexemes.{IsLexeme, IsNameText, name_kind, name_lexeme, spelled, spelling}

pub name_is_lexeme : (t : List ℕ) → IsNameText t → IsLexeme (name_lexeme t)
name_is_lexeme t is = by (is_word t) refl
  where
    by : (b : Bool) → is_word t ≡ b → IsLexeme (record { kind = cond b Word Str; text = t })
    by true e = record { writes = (refl, e); short = is.short; utf8 = is.utf8 }
    by false e = record { writes = (refl, is.inside); short = is.short; utf8 = is.utf8 }

-- the test of words tells the kind of a name
pub kind_of : (t : List ℕ) (b : Bool) → IsTrue b ↔ IsBareWord t → cond b Word Str ≡ name_kind t
kind_of t b is = by b (is_word t) (λ h. (IsBareWord-test t).1 (is.0 h)) (λ h. is.1 ((IsBareWord-test t).0 h))
  where
    by : (x y : Bool) → (IsTrue x → IsTrue y) → (IsTrue y → IsTrue x) → cond x Word Str ≡ cond y Word Str
    by true true f g = refl
    by true false f g = absurd (false≢true (f refl))
    by false true f g = absurd (false≢true (g refl))
    by false false f g = refl

pub name_spelling : (t s : List ℕ) → Spells s t → s ≡ spelling (name_lexeme t)
name_spelling t s (inl (word, e)) = e ∙ ap (λ k. spelled k t) (kind_of t true (λ h. word, λ h. refl))
name_spelling t s (inr (none, e)) = e ∙ ap (λ k. spelled k t) (kind_of t false (λ h. absurd (false≢true h), λ h. absurd (none h)))
