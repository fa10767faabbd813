-- The system of metagrammars is one.
use Rattle.std.proofs.Common.{◌≡◌, ℕ, zero, suc, List, [], ◌∷◌, true, false, refl, sym, inl, inr, arith}
use Rattle.std.specs.Prelude.{nat_le}
use Rattle.std.proofs.lemmas.Bool.{true≢false, ltb-true, leb-true, le-leb, lt-ltb, and_from}
use Rattle.gr_base.proofs.Booleans.{or_false_is}
use Rattle.gr_grammar.specs.Grammars.{IsSystem, Matches, a_token, no_token, both, the_left, the_right, no_more, by_part, nullable, is_of, is_clear, first, goes}
use Rattle.gr_grammar.proofs.Fronts.{and_left, and_right, or_cases}
use Rattle.gr_terms.specs.declared.TheConstants.{EMPTY}
use Rattle.mg_reader.specs.declared.lexeme.Kind.{Kind}
use Rattle.mg_reader.specs.declared.lexeme.Kind.TheVariants as kind
use Rattle.mg_reader.specs.declared.lexeme.Lexeme.{Lexeme}
use Rattle.mg_reader.specs.declared.lexeme.Class.{Class}
use Rattle.mg_reader.specs.declared.lexeme.Class.TheVariants as class
use Rattle.mg_reader.specs.Kinds.{kind_number, low, high, test, apart}
use Rattle.mg_reader.specs.Grammar.{system, parts, info, statement_text}

are_apart : (c d : Class) (t : Lexeme) → apart c d ≡ true → test c t ≡ true → test d t ≡ true → ⊥
are_apart c d t a h i =
    let n = kind_number t.kind in
    let l = leb-true (low c) n (and_left (nat_le (low c) n) _ h) in let u = ltb-true n (high c) (and_right (nat_le (low c) n) _ h) in
    let m = leb-true (low d) n (and_left (nat_le (low d) n) _ i) in let v = ltb-true n (high d) (and_right (nat_le (low d) n) _ i) in
    elim (or_cases (nat_le (high c) (low d)) (nat_le (high d) (low c)) a) [ inl x ↦ let y = leb-true (high c) (low d) x in omega arith | inr x ↦ let y = leb-true (high d) (low c) x in omega arith ]

-- a lexeme of a kind
abbrev lexeme : Kind → Lexeme
lexeme k = record { kind = k; name = EMPTY; place = record { line = 1; column = 1 } }

itself : (k : Kind) → test (class.Is k) (lexeme k) ≡ true
itself k = and_from (nat_le (kind_number k) (kind_number k)) _ (le-leb (kind_number k) (kind_number k) (omega arith)) (lt-ltb (kind_number k) (suc (kind_number k)) (omega arith))

shown : (c : Class) → (t : Lexeme) × (test c t ≡ true)
shown (class.Is k) = (lexeme k, itself k)
shown class.Operator = (lexeme kind.Below, refl)
shown class.Descent = (lexeme kind.Dots, refl)
shown class.Name = (lexeme kind.Str, refl)
shown class.Word = (lexeme kind.Class, refl)
shown class.Reserved = (lexeme kind.Class, refl)
shown class.Plain = (lexeme kind.Anchor, refl)
shown class.Property = (lexeme kind.Class, refl)
shown class.Marker = (lexeme kind.Anchor, refl)
shown class.Paint = (lexeme kind.Black, refl)

clear : (n : ℕ) → is_clear system (parts n) ≡ true
clear zero = refl
clear (suc n) = refl

null : (n : ℕ) → nullable system (parts n) ≡ (info n).null
null zero = refl
null (suc n) = refl

firsts : (n : ℕ) → first system (parts n) ≡ (info n).first
firsts zero = refl
firsts (suc n) = refl

ends : (n : ℕ) (t : Lexeme) → is_of system (goes system (parts n)) t ≡ true → is_of system (info n).goes t ≡ true
ends zero t i = i
ends (suc n) t i = i

none : (n : ℕ) → (info n).null ≡ true → (ts : List Lexeme) → Matches system (parts n) ts ts
none zero e ts = the_right no_token
none (suc n) e ts = absurd (true≢false (sym e))

-- the shortest text that begins with a lexeme of a first class
one_statement : {ts rest : List Lexeme} → Matches system statement_text ts rest → Matches system (parts 0) ts rest
one_statement m = the_left (both (both m no_more) no_more)

begun : (n : ℕ) (t : Lexeme) → is_of system (info n).first t ≡ true → (ts : List Lexeme) × Matches system (parts n) (t ∷ ts) []
begun zero t i = elim (or_cases (test (class.Is kind.LeftBrace) t) _ i) [
  | inl x ↦ (lexeme kind.RightBrace ∷ [], one_statement (the_left (both (a_token x) (both (by_part (the_right no_token)) (a_token refl)))))
  | inr y ↦ elim (or_cases (test class.Plain t) _ y) [
    | inl x ↦ (lexeme kind.LeftBracket ∷ lexeme kind.RightBracket ∷ [], one_statement (the_right (the_left (both (a_token x) (both (a_token refl) (a_token refl))))))
    | inr z ↦ elim (or_cases (test (class.Is kind.Var) t) _ z) [
      | inl x ↦ (lexeme kind.Equals ∷ lexeme kind.Str ∷ [], one_statement (the_right (the_right (the_left (both (a_token x) (the_right (both (a_token refl) (the_right (the_right (the_left (a_token refl)))))))))))
      | inr w ↦ (
        lexeme kind.Syn ∷ lexeme kind.Greater ∷ lexeme kind.LeftBrace ∷ lexeme kind.RightBrace ∷ [],
        one_statement (the_right (the_right (the_right (both (a_token (or_false_is _ w)) (the_left (both (a_token refl) (both (a_token refl) (both (a_token refl) (both (the_right no_token) (a_token refl)))))))))),
      )
    ]
  ]
]
begun (suc n) t i = ([], both (a_token (or_false_is _ i)) (both (the_right no_token) (both (the_right no_token) (both (the_right no_token) (the_right no_token)))))

some : (n : ℕ) → (ts : List Lexeme) × Matches system (parts n) ts []
some zero = ([], the_right no_token)
some (suc n) = (lexeme kind.Node ∷ [], both (a_token refl) (both (the_right no_token) (both (the_right no_token) (both (the_right no_token) (the_right no_token)))))

pub is_system : IsSystem system
is_system = record { are_apart = are_apart; shown = shown; clear = clear; null = null; first = firsts; goes = ends; none = none; some = some; begun = begun }
