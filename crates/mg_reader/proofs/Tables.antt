-- Looking a text up among some rows of a table alone.
use Rattle.std.proofs.Common.{◌≡◌, ℕ, List, [], ◌∷◌, Bool, true, false, refl, ap, sym, ◌∙◌, length}
use Rattle.std.specs.Prelude.{if◌then◌else◌, bytes_eq, not, ◌==◌}
use Rattle.std.specs.List.{filter}
use Rattle.std.proofs.lemmas.Bool.{eq-eqb, ne_eqb}
use Rattle.gr_reader.proofs.Systems.{same_bytes}
use Rattle.mg_reader.specs.declared.lexeme.Kind.{Kind}
use Rattle.mg_reader.specs.Kinds.{kind_in, of_width, not_of_width, words, signs, word_kind, sign_kind}

-- a row that the test drops isn't that of the text
kind_in-kept : (p : List ℕ × Kind → Bool) (rows : List (List ℕ × Kind)) (text : List ℕ) → ((r : List ℕ × Kind) → text ≡ r.0 → p r ≡ true) → kind_in rows text ≡ kind_in (filter p rows) text
kind_in-kept p [] text kept = refl
kind_in-kept p (r ∷ rows) text kept = by (bytes_eq text r.0) refl (p r) refl (kind_in-kept p rows text kept)
  where
    by : (b : Bool) → bytes_eq text r.0 ≡ b → (k : Bool) → p r ≡ k → kind_in rows text ≡ kind_in (filter p rows) text
        → (if b then r.1 else kind_in rows text) ≡ kind_in (if k then r ∷ filter p rows else filter p rows) text
    by b e true k more = ap (λ z. if b then r.1 else z) more ∙ ap (λ z. if z then r.1 else kind_in (filter p rows) text) (sym e)
    by false e false k more = more
    by true e false k more = absurd (never (sym k ∙ kept r (same_bytes text r.0 e)))
      where
        never : false ≡ true → ⊥
        never q = cc

pub word_of_width : (n : ℕ) (text : List ℕ) → length text ≡ n → word_kind text ≡ kind_in (of_width n words) text
word_of_width n text e = kind_in-kept (λ r. length r.0 == n) words text (λ r q. ap (λ z. length z == n) (sym q) ∙ (ap (λ z. z == n) e ∙ eq-eqb n n refl))

pub sign_of_width : (n : ℕ) (text : List ℕ) → length text ≡ n → sign_kind text ≡ kind_in (of_width n signs) text
sign_of_width n text e = kind_in-kept (λ r. length r.0 == n) signs text (λ r q. ap (λ z. length z == n) (sym q) ∙ (ap (λ z. z == n) e ∙ eq-eqb n n refl))

pub sign_not_of_width : (n : ℕ) (text : List ℕ) → (length text ≡ n → ⊥) → sign_kind text ≡ kind_in (not_of_width n signs) text
sign_not_of_width n text o = kind_in-kept (λ r. not (length r.0 == n)) signs text (λ r q. ap (λ z. not (length z == n)) (sym q) ∙ ap not (ne_eqb (length text) n o))
