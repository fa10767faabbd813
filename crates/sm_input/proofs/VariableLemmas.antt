-- The first variable of the tokens.
use Rattle.std.proofs.Common.{◌≡◌, ℕ, List, [], ◌∷◌, length, Bool, true, false, Some, None, refl, sym, ◌∙◌, ap, arith}
use Rattle.std.specs.Prelude.{if◌then◌else◌, ◌==◌, ◌&&◌}
use Rattle.std.proofs.lemmas.List.{length-map}
use Rattle.gr_tokens.specs.declared.Token.{Token}
use Rattle.gr_reader.specs.Lexemes.{lexeme_of, lexemes}
use Rattle.gr_reader.specs.Classes.{test, variable, kind_number}
use Rattle.sm_input.specs.Complaints.{variable_left}

and_true : (b : Bool) → (b && true) ≡ b
and_true true = refl
and_true false = refl

pub two_is_variable : (bytes : List ℕ) (t : Token) (n : ℕ) → n ≡ kind_number t.kind → (n == 2) ≡ test variable (lexeme_of bytes t)
two_is_variable bytes t n e = ap (λ k. k == 2) e ∙ sym (and_true (kind_number t.kind == 2))

pub none_there : (bytes : List ℕ) (ts : List Token) → length ts ≡ 0 → variable_left (lexemes bytes ts) ≡ None
none_there bytes [] e = refl
none_there bytes (t ∷ ts) e = absurd (omega (arith, e))

pub skipped_one : (bytes : List ℕ) (ts : List Token) (t : Token) (more : List Token) (seen : Bool) → ts ≡ t ∷ more → seen ≡ test variable (lexeme_of bytes t) → seen ≡ false → variable_left (lexemes bytes ts) ≡ variable_left (lexemes bytes more)
skipped_one bytes ts t more seen e s f =
    ap (λ z. variable_left (lexemes bytes z)) e ∙ ap (λ b. if b then Some (length (lexemes bytes (t ∷ more))) else variable_left (lexemes bytes more)) (sym s ∙ f)

pub found_one : (bytes : List ℕ) (ts : List Token) (t : Token) (more : List Token) (seen : Bool) (n : ℕ) → ts ≡ t ∷ more → seen ≡ test variable (lexeme_of bytes t) → seen ≡ true → n ≡ length ts → variable_left (lexemes bytes ts) ≡ Some n
found_one bytes ts t more seen n e s f l =
    ap (λ z. variable_left (lexemes bytes z)) e ∙ (ap (λ b. if b then Some (length (lexemes bytes (t ∷ more))) else variable_left (lexemes bytes more)) (sym s ∙ f)
    ∙ ap Some (length-map (t ∷ more) (lexeme_of bytes) ∙ ap length (sym e) ∙ sym l))
