-- No name that a file spells begins with a line feed.
use Rattle.std.proofs.Common.{◌≡◌, ℕ, List, [], ◌∷◌, true, false, refl, subst, arith, IsTrue}
use Rattle.std.specs.Prelude.{◌||◌, ◌==◌}
use Rattle.std.proofs.lemmas.Bool.{true≢false, false≢true}
use Rattle.gr_base.specs.Lists.{Each}
use Rattle.gr_base.proofs.ListLemmas.{Each-map, Each-at, Each-members, same_head}
use Rattle.gr_grammar.specs.Grammars.{Matches}
use Rattle.gr_grammar.proofs.Fronts.{and_left}
use Rattle.gr_text.specs.Words.{is_word, IsStringByte, begins_with_word_byte, is_word_rest}
use Rattle.gr_tokens.specs.declared.Kind.{Kind}
use Rattle.gr_tokens.specs.declared.Kind.TheVariants.{Word, Str, Var, Punct}
use Rattle.gr_tokens.specs.declared.Token.{Token}
use Rattle.gr_tokens.specs.Answers.{AreTokens}
use Rattle.gr_tokens.specs.Spans.{slice_of}
use Rattle.gr_tokens.specs.Tokens.{Writes}
use Rattle.gr_reader.specs.Lexemes.{Lexeme, lexeme_of, lexemes}
use Rattle.gr_reader.specs.Classes.{test, any_name, variable, kind_number}
use Rattle.gr_reader.proofs.Texts.{all_written}
use Rattle.sm_input.specs.Grammars.{inputs_text, inputs_of}
use Rattle.gr_reader.specs.Classes.{flat}
use Rattle.std.specs.Fmt.{decimal}
use Rattle.sm_input.specs.Inputs.{own_name}
use Rattle.sm_input.specs.Reading.{InputHas}
use Rattle.sm_input.proofs.Same.{word_of}
use Rattle.sm_input.proofs.Plain.{has_inputs}

-- the text doesn't begin with a line feed
abbrev pub NoFeed : List ℕ → Type 0
NoFeed text = (rest : List ℕ) → text ≡ 10 ∷ rest → ⊥

word_feed : (text : List ℕ) → IsTrue (is_word text) → NoFeed text
word_feed [] w rest e = let h : ◌≡◌ {A = List ℕ} [] (10 ∷ rest) = e in cc
word_feed (b ∷ bs) w rest e = false≢true (subst (λ z. begins_with_word_byte z ≡ true) e (and_left (begins_with_word_byte (b ∷ bs)) (is_word_rest (b ∷ bs)) w))

string_feed : (text : List ℕ) → Each IsStringByte text → NoFeed text
string_feed [] w rest e = let h : ◌≡◌ {A = List ℕ} [] (10 ∷ rest) = e in cc
string_feed (b ∷ bs) w rest e = let h : b ≡ 10 = same_head b 10 bs rest e in let l = w.0.0 in absurd (omega (arith, h, l))

written_feed : (k : Kind) (text own : List ℕ) → (kind_number k == 3) ≡ false → Writes k text own → NoFeed text
written_feed Word text own n w = word_feed text w.1
written_feed Str text own n w = string_feed text w.1
written_feed Var text own n w = word_feed text w.1
written_feed Punct text own n w = absurd (true≢false n)

abbrev pub IsFed : Lexeme → Type 0
IsFed t = (kind_number t.kind == 3) ≡ false → NoFeed t.text

pub none_fed : (bytes : List ℕ) (tokens : List Token) → AreTokens bytes tokens → Each IsFed (lexemes bytes tokens)
none_fed bytes tokens are = Each-map (lexeme_of bytes) IsFed tokens (all tokens (all_written bytes tokens are))
  where
    all : (ts : List Token) → Each (λ t. Writes t.kind (lexeme_of bytes t).text (slice_of bytes t)) ts → Each (λ t. IsFed (lexeme_of bytes t)) ts
    all [] h = tt
    all (t ∷ ts) h = ((λ n. written_feed t.kind (lexeme_of bytes t).text (slice_of bytes t) n h.0), all ts h.1)

name_kind : (t : Lexeme) → test any_name t ≡ true → (kind_number t.kind == 3) ≡ false
name_kind t h = by t.kind (and_left _ _ h)
  where
    by : (k : Kind) → ((kind_number k == 0) || (kind_number k == 1)) ≡ true → (kind_number k == 3) ≡ false
    by Word h = refl
    by Str h = refl
    by Var h = refl
    by Punct h = absurd (false≢true h)

variable_kind : (t : Lexeme) → test variable t ≡ true → (kind_number t.kind == 3) ≡ false
variable_kind t h = by t.kind (and_left _ _ h)
  where
    by : (k : Kind) → (kind_number k == 2) ≡ true → (kind_number k == 3) ≡ false
    by Word h = refl
    by Str h = refl
    by Var h = refl
    by Punct h = absurd (false≢true h)

-- so none of the terms of inputs does
pub inputs_fed : {ts rest : List Lexeme} (m : Matches flat inputs_text ts rest) → Each IsFed ts → Each (InputHas (λ w. NoFeed (word_of w))) (inputs_of m)
inputs_fed m h = has_inputs (λ w. NoFeed (word_of w)) IsFed (λ t k q. q (name_kind t k)) (λ t k q. q (variable_kind t k)) m h

-- no name is the own name of a handle
pub none_own : (bytes : List ℕ) (tokens : List Token) → AreTokens bytes tokens → Each (λ t. (kind_number t.kind == 3) ≡ false → (number : ℕ) → t.text ≡ own_name number → ⊥) (lexemes bytes tokens)
none_own bytes tokens are = Each-members _ (lexemes bytes tokens) (λ t i n number e. Each-at IsFed (lexemes bytes tokens) t (none_fed bytes tokens are) i n (decimal number) e)
