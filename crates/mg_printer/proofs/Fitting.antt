-- Which lexemes fit the pieces of a spelling.
use Rattle.std.specs.Prelude.{◌≡◌, ℕ, ◌≤◌, ◌<◌, List, [], ◌∷◌, length, cond, if◌then◌else◌, Bool, true, false, ◌&&◌, ◌||◌, ◌==◌, nat_le, nat_lt, bytes_eq, IsTrue, ⊤, refl}
use Rattle.std.specs.Str.{IsUtf8}
use Rattle.std.proofs.Common.{sym, ap, ◌∙◌, subst, arith, inl, inr}
use Rattle.std.proofs.lemmas.Bool.{and_parts, or_cases, eqb-true, leb-true, ltb-true}
use Rattle.std.proofs.lemmas.Bool.Decides.{nat_tests}
use Rattle.gr_base.specs.Lists.{Each, IsAmong}
use Rattle.gr_base.proofs.ListLemmas.{Each-at}
use Rattle.gr_text.specs.Words.{is_word, is_word_byte, is_word_rest, begins_with_word_byte, IsStringByte}
use Rattle.gr_symbols.specs.Numbers.{Names}
use Rattle.gr_terms.specs.declared.Sym.{Sym}
use Rattle.gr_tokens.specs.declared.Kind.{Kind as Cut}
use Rattle.gr_tokens.specs.declared.Kind.TheVariants.{Word, Str, Var, Punct}
use Rattle.gr_tokens.specs.declared.Token.{Token}
use Rattle.gr_tokens.specs.Tokens.{Writes, signs}
use Rattle.gr_tokens.specs.Spans.{slice_of, IsSliceOf}
use Rattle.gr_reader.specs.Lexemes as read
use Rattle.gr_texts.specs.Lexemes.{IsNameText}
use Rattle.gr_texts.proofs.Printing.{one_text}
use Rattle.mg_reader.specs.declared.lexeme.Kind.{Kind}
use Rattle.mg_reader.specs.declared.lexeme.Kind.TheVariants as kind
use Rattle.mg_reader.specs.declared.lexeme.Lexeme.{Lexeme}
use Rattle.mg_reader.specs.Kinds.{kind_number, kind_in, words, word_kind, sign_kind}
use Rattle.mg_reader.specs.Lexemes.{kind_of, HasName, IsLexeme, EachIs}
use Rattle.mg_printer.specs.Pieces.{Piece, a_sign, a_key, a_word, a_name, a_variable, text_of}
use Rattle.mg_reader.proofs.Real.{IsWordText}

-- the kind that a name's lexeme has
abbrev pub name_kind_of : List ℕ → Kind
name_kind_of text = cond (is_word text) (word_kind text) kind.Str

-- a lexeme is what a piece of the spelling says
abbrev pub FitsPiece : List (List ℕ) → Piece → Lexeme → Type 0
FitsPiece texts (a_sign t) l = l.kind ≡ sign_kind t
FitsPiece texts (a_key t) l = (l.kind ≡ word_kind t) × Names texts l.name.0 t
FitsPiece texts (a_word n) l = (l.kind ≡ word_kind (text_of texts n)) × (l.name.0 ≡ n)
FitsPiece texts (a_name n) l = (l.kind ≡ name_kind_of (text_of texts n)) × (l.name.0 ≡ n)
FitsPiece texts (a_variable n) l = (l.kind ≡ kind.Var) × (l.name.0 ≡ n)

abbrev pub FitPieces : List (List ℕ) → List Piece → List Lexeme → Type 0
FitPieces texts [] [] = ⊤
FitPieces texts [] (l ∷ ls) = ⊥
FitPieces texts (p ∷ ps) [] = ⊥
FitPieces texts (p ∷ ps) (l ∷ ls) = FitsPiece texts p l × FitPieces texts ps ls

-- the text stands in the table
abbrev pub HasText : List (List ℕ) → List ℕ → Type 0
HasText texts t = (n : ℕ) × Names texts n t

-- the piece can be written
abbrev pub IsWritten : List (List ℕ) → Piece → Type 0
IsWritten texts (a_sign t) = IsAmong signs t
IsWritten texts (a_key t) = HasText texts t × IsWordText t
IsWritten texts (a_word n) = (t : List ℕ) × Names texts n t × IsWordText t
IsWritten texts (a_name n) = (t : List ℕ) × Names texts n t × IsNameText t
IsWritten texts (a_variable n) = (t : List ℕ) × Names texts n t × IsWordText t
