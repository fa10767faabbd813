-- Lexemes form a set, and each is what its token writes.
use Rattle.std.proofs.Common.{◌≡◌, ℕ, List, Bool, true, false, refl, ap, sym, ◌∙◌}
use Rattle.std.proofs.lemmas.Bool.{true≢false}
use Rattle.std.proofs.lemmas.Slice.Eq.{bytes_eq-Decides}
use Rattle.std.specs.Prelude.{bytes_eq}
use mathlib.Core.HLevel.{hedberg}
use Rattle.gr_tokens.specs.declared.Kind.{Kind}
use Rattle.gr_tokens.specs.declared.Kind.TheVariants.{Word, Str, Var, Punct}
use Rattle.gr_reader.specs.Lexemes.{Lexeme}

same_kind : (k j : Kind) → Dec (k ≡ j)
same_kind Word Word = yes refl
same_kind Word Str = no (λ e. cc)
same_kind Word Var = no (λ e. cc)
same_kind Word Punct = no (λ e. cc)
same_kind Str Word = no (λ e. cc)
same_kind Str Str = yes refl
same_kind Str Var = no (λ e. cc)
same_kind Str Punct = no (λ e. cc)
same_kind Var Word = no (λ e. cc)
same_kind Var Str = no (λ e. cc)
same_kind Var Var = yes refl
same_kind Var Punct = no (λ e. cc)
same_kind Punct Word = no (λ e. cc)
same_kind Punct Str = no (λ e. cc)
same_kind Punct Var = no (λ e. cc)
same_kind Punct Punct = yes refl

same_text_by : (b : Bool) (s t : List ℕ) → bytes_eq s t ≡ b → Dec (s ≡ t)
same_text_by true s t e = yes ((bytes_eq-Decides s t).0 e)
same_text_by false s t e = no (λ p. true≢false (sym ((bytes_eq-Decides s t).1 p) ∙ e))

same_lexeme : (l m : Lexeme) → Dec (l.kind ≡ m.kind) → Dec (l.text ≡ m.text) → Dec (l ≡ m)
same_lexeme l m (yes e) (yes f) = yes (λ i. record { kind = e i; text = f i })
same_lexeme l m (yes e) (no n) = no (λ p. n (ap (λ z. z.text) p))
same_lexeme l m (no n) d = no (λ p. n (ap (λ z. z.kind) p))

pub Lexeme-set : IsSet Lexeme
Lexeme-set = hedberg (λ l m. same_lexeme l m (same_kind l.kind m.kind) (same_text_by (bytes_eq l.text m.text) l.text m.text refl))
