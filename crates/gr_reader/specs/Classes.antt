-- The classes of lexemes that grammars of token files are made of.
use Rattle.std.specs.Prelude.{ℕ, List, [], ◌∷◌, map, Bool, true, false, ◌||◌, ◌&&◌, not, ◌==◌, bytes_eq}
use Rattle.gr_grammar.specs.Grammars.{Grammar, nil, System, Info}
use Rattle.gr_tokens.specs.declared.Kind.{Kind}
use Rattle.gr_tokens.specs.declared.Kind.TheVariants.{Word, Str, Var, Punct}
use Rattle.gr_reader.specs.declared.class.Class.{Class as Named}
use Rattle.gr_reader.specs.declared.class.Class.TheVariants as named
use Rattle.gr_reader.specs.Lexemes.{Lexeme}

-- this sign; this word; any word; a word that is none of these; a word that is the first or one of the others; a string; a word or a string; a variable
pub data Class : Type 0 where
  sign : List ℕ → Class
  keyword : List ℕ → Class
  any_word : Class
  word_but : List (List ℕ) → Class
  word_among : List ℕ → List (List ℕ) → Class
  any_string : Class
  any_name : Class
  variable : Class

abbrev pub kind_number : Kind → ℕ
kind_number Word = 0
kind_number Str = 1
kind_number Var = 2
kind_number Punct = 3

-- the text is one of these
abbrev pub is_one_of : List (List ℕ) → List ℕ → Bool
is_one_of [] text = false
is_one_of (t ∷ ts) text = bytes_eq t text || is_one_of ts text

-- lexemes of the class may have the kind with this number; they may have this text
abbrev pub takes_kind : Class → ℕ → Bool
takes_kind (sign s) k = k == 3
takes_kind (keyword w) k = k == 0
takes_kind any_word k = k == 0
takes_kind (word_but ws) k = k == 0
takes_kind (word_among w ws) k = k == 0
takes_kind any_string k = k == 1
takes_kind any_name k = (k == 0) || (k == 1)
takes_kind variable k = k == 2

abbrev pub takes_text : Class → List ℕ → Bool
takes_text (sign s) text = bytes_eq s text
takes_text (keyword w) text = bytes_eq w text
takes_text any_word text = true
takes_text (word_but ws) text = not (is_one_of ws text)
takes_text (word_among w ws) text = is_one_of (w ∷ ws) text
takes_text any_string text = true
takes_text any_name text = true
takes_text variable text = true

-- the lexeme is of the class
abbrev pub test : Class → Lexeme → Bool
test c t = takes_kind c (kind_number t.kind) && takes_text c t.text

-- no kind is of both classes
abbrev pub no_kind : Class → Class → ℕ → Bool
no_kind c d k = not (takes_kind c k && takes_kind d k)

abbrev pub kinds_apart : Class → Class → Bool
kinds_apart c d = no_kind c d 0 && (no_kind c d 1 && (no_kind c d 2 && no_kind c d 3))

-- none of the texts is one of the others; each of the texts is one of the others
abbrev pub none_of : List (List ℕ) → List (List ℕ) → Bool
none_of [] vs = true
none_of (w ∷ ws) vs = not (is_one_of vs w) && none_of ws vs

abbrev pub all_of : List (List ℕ) → List (List ℕ) → Bool
all_of [] vs = true
all_of (w ∷ ws) vs = is_one_of vs w && all_of ws vs

-- no text is of both classes, as far as the classes name texts
abbrev pub texts_apart : Class → Class → Bool
texts_apart (sign s) (sign r) = not (bytes_eq s r)
texts_apart (keyword w) (keyword v) = not (bytes_eq w v)
texts_apart (keyword w) (word_but vs) = is_one_of vs w
texts_apart (keyword w) (word_among v vs) = not (is_one_of (v ∷ vs) w)
texts_apart (word_but ws) (keyword v) = is_one_of ws v
texts_apart (word_but ws) (word_among v vs) = all_of (v ∷ vs) ws
texts_apart (word_among w ws) (keyword v) = not (is_one_of (w ∷ ws) v)
texts_apart (word_among w ws) (word_but vs) = all_of (w ∷ ws) vs
texts_apart (word_among w ws) (word_among v vs) = none_of (w ∷ ws) (v ∷ vs)
texts_apart _ _ = false

-- the classes share no lexeme
abbrev pub apart : Class → Class → Bool
apart c d = kinds_apart c d || texts_apart c d

-- the next lexeme is of the class
abbrev pub sees : Class → List Lexeme → Bool
sees c [] = false
sees c (t ∷ ts) = test c t

-- it is of one of the classes
abbrev pub sees_one : List Class → List Lexeme → Bool
sees_one [] ts = false
sees_one (c ∷ cs) ts = sees c ts || sees_one cs ts

-- a system of grammars over these classes, by its numbered parts and what is written down of them
abbrev pub system_of : (ℕ → Grammar Class) → (ℕ → Info Class) → System Class Lexeme
system_of parts info = record { test = test; apart = apart; parts = parts; info = info }

-- the system without numbered parts
abbrev pub flat : System Class Lexeme
flat = system_of (λ n. nil) (λ n. record { null = true; first = []; goes = [] })

-- what a class of the code stands for
abbrev pub class_of : Named → Class
class_of (named.Sign s) = sign s.now
class_of (named.Keyword w) = keyword w.now
class_of named.AnyWord = any_word
class_of (named.WordBut ws) = word_but (map (λ w. w.now) ws.now)
class_of (named.WordAmong w ws) = word_among w.now (map (λ v. v.now) ws.now)
class_of named.AnyString = any_string
class_of named.AnyName = any_name
class_of named.Variable = variable
