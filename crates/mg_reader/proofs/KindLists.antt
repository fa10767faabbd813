-- Kinds of lexemes by their numbers.
use Rattle.std.specs.Prelude.{◌≡◌, ℕ, ◌+◌, ◌-◌, ◌≤◌, ◌<◌, List, [], ◌∷◌, length, take, drop, get_or, suc, Bool, true, false, nat_le, nat_lt, ◌&&◌, ◌==◌, if◌then◌else◌, bytes_eq, refl}
use Rattle.std.proofs.Common.{sym, ap, ◌∙◌, subst, arith, inl, inr}
use Rattle.std.proofs.Common.{length-take}
use Rattle.std.proofs.lemmas.Bool.{and_parts, leb-true, ltb-true, le-leb, lt-ltb, eq-eqb, false≢true, and_from}
use Rattle.std.proofs.lemmas.Slice.Eq.{bytes_eq-Decides}
use Rattle.std.proofs.lemmas.List.{get_or-take, get_or-drop, length-drop}
use Rattle.gr_base.specs.Lists.{IsAmong}
use Rattle.gr_base.proofs.ListLemmas.{IsAmong-get_or, Each-at}
use Rattle.gr_grammar.specs.declared.brackets.Turn.TheVariants.{Neither}
use Rattle.mg_reader.specs.declared.lexeme.Class.TheVariants as of
use Rattle.mg_reader.specs.declared.lexeme.Kind.{Kind}
use Rattle.mg_reader.specs.declared.lexeme.Kind.TheVariants as kind
use Rattle.mg_reader.specs.declared.lexeme.Lexeme.{Lexeme}
use Rattle.mg_reader.specs.declared.lexeme.Class.{Class}
use Rattle.mg_reader.specs.Kinds.{kind_number, kind_in, low, high, test, turn_of}

-- all kinds, in the order of their numbers
abbrev pub kinds : List Kind
kinds =
    kind.Below ∷ kind.BelowPlus ∷ kind.BelowStar ∷ kind.Next ∷ kind.NextPlus ∷ kind.NextStar ∷ kind.Equals ∷ kind.Greater
    ∷ kind.Less ∷ kind.Dots ∷ kind.DotsPlus ∷ kind.Dot ∷ kind.Commas ∷ kind.Comma ∷ kind.Semicolon ∷ kind.Colon
    ∷ kind.Bar ∷ kind.Bang ∷ kind.LeftParen ∷ kind.RightParen ∷ kind.LeftBracket ∷ kind.RightBracket ∷ kind.LeftBrace ∷ kind.RightBrace
    ∷ kind.Var ∷ kind.Str ∷ kind.Class ∷ kind.Import ∷ kind.Export ∷ kind.Declare ∷ kind.Value ∷ kind.Node
    ∷ kind.Domain ∷ kind.Property ∷ kind.Feature ∷ kind.Use ∷ kind.Anchor ∷ kind.Coanchor ∷ kind.Subst ∷ kind.Foot
    ∷ kind.Lex ∷ kind.Nadj ∷ kind.With ∷ kind.Dims ∷ kind.Syn ∷ kind.Sem ∷ kind.Iface ∷ kind.Black
    ∷ kind.White ∷ kind.Red ∷ kind.Top ∷ kind.Bot ∷ kind.Word ∷ kind.Color ∷ kind.Mark ∷ kind.Cat ∷ []

numbered : (k : Kind) → get_or kinds (kind_number k) kind.Word ≡ k
numbered kind.Below = refl
numbered kind.BelowPlus = refl
numbered kind.BelowStar = refl
numbered kind.Next = refl
numbered kind.NextPlus = refl
numbered kind.NextStar = refl
numbered kind.Equals = refl
numbered kind.Greater = refl
numbered kind.Less = refl
numbered kind.Dots = refl
numbered kind.DotsPlus = refl
numbered kind.Dot = refl
numbered kind.Commas = refl
numbered kind.Comma = refl
numbered kind.Semicolon = refl
numbered kind.Colon = refl
numbered kind.Bar = refl
numbered kind.Bang = refl
numbered kind.LeftParen = refl
numbered kind.RightParen = refl
numbered kind.LeftBracket = refl
numbered kind.RightBracket = refl
numbered kind.LeftBrace = refl
numbered kind.RightBrace = refl
numbered kind.Var = refl
numbered kind.Str = refl
numbered kind.Class = refl
numbered kind.Import = refl
numbered kind.Export = refl
numbered kind.Declare = refl
numbered kind.Value = refl
numbered kind.Node = refl
numbered kind.Domain = refl
numbered kind.Property = refl
numbered kind.Feature = refl
numbered kind.Use = refl
numbered kind.Anchor = refl
numbered kind.Coanchor = refl
numbered kind.Subst = refl
numbered kind.Foot = refl
numbered kind.Lex = refl
numbered kind.Nadj = refl
numbered kind.With = refl
numbered kind.Dims = refl
numbered kind.Syn = refl
numbered kind.Sem = refl
numbered kind.Iface = refl
numbered kind.Black = refl
numbered kind.White = refl
numbered kind.Red = refl
numbered kind.Top = refl
numbered kind.Bot = refl
numbered kind.Word = refl
numbered kind.Color = refl
numbered kind.Mark = refl
numbered kind.Cat = refl

-- the kinds with numbers from lo on, before hi
abbrev pub span : ℕ → ℕ → List Kind
span lo hi = take (hi - lo) (drop lo kinds)

pub in_span : (lo hi : ℕ) (k : Kind) → hi ≤ 56 → (nat_le lo (kind_number k) && nat_lt (kind_number k) hi) ≡ true → IsAmong (span lo hi) k
in_span lo hi k most h =
    let p = and_parts (nat_le lo (kind_number k)) (nat_lt (kind_number k) hi) h in
    let a : lo ≤ kind_number k = leb-true lo (kind_number k) p.0 in
    let b : kind_number k < hi = ltb-true (kind_number k) hi p.1 in
    let n = kind_number k - lo in
    let back : lo + n ≡ kind_number k = omega arith in
    let at : get_or (span lo hi) n kind.Word ≡ k =
    get_or-take (hi - lo) (drop lo kinds) n kind.Word (omega arith) ∙ (get_or-drop lo kinds n kind.Word ∙ (ap (λ m. get_or kinds m kind.Word) back ∙ numbered k))
    in
    let all : length kinds ≡ 56 = refl in
    let within : n < length (span lo hi) = omega (arith, length-take (hi - lo) (drop lo kinds), length-drop lo kinds, all) in
    subst (λ x. IsAmong (span lo hi) x) at (IsAmong-get_or (span lo hi) n kind.Word within)

-- a lexeme of a class has one of the kinds of the class
pub in_class : (c : Class) (t : Lexeme) → high c ≤ 56 → test c t ≡ true → IsAmong (span (low c) (high c)) t.kind
in_class c t most h = in_span (low c) (high c) t.kind most h

-- the kind of a lexeme that is of one kind
pub one_kind : (k : Kind) (t : Lexeme) → test (of.Is k) t ≡ true → t.kind ≡ k
one_kind k t h =
    let p = and_parts (nat_le (kind_number k) (kind_number t.kind)) (nat_lt (kind_number t.kind) (suc (kind_number k))) h in
    let a : kind_number k ≤ kind_number t.kind = leb-true (kind_number k) (kind_number t.kind) p.0 in
    let b : kind_number t.kind < suc (kind_number k) = ltb-true (kind_number t.kind) (suc (kind_number k)) p.1 in
    let same : kind_number t.kind ≡ kind_number k = omega arith in
    sym (numbered t.kind) ∙ (ap (λ n. get_or kinds n kind.Word) same ∙ numbered k)

pub is_kind : (k : Kind) (t : Lexeme) → t.kind ≡ k → test (of.Is k) t ≡ true
is_kind k t e = subst (λ j. (nat_le (kind_number k) (kind_number j) && nat_lt (kind_number j) (suc (kind_number k))) ≡ true) (sym e)
    (and_from (nat_le (kind_number k) (kind_number k)) (nat_lt (kind_number k) (suc (kind_number k))) (le-leb (kind_number k) (kind_number k) (omega arith)) (lt-ltb (kind_number k) (suc (kind_number k)) (omega arith)))

-- variables, strings and words are no brackets
pub flat_kind : (k : Kind) → 24 ≤ kind_number k → kind_number k < 56 → turn_of k ≡ Neither
flat_kind k a b = Each-at (λ j. turn_of j ≡ Neither) (span 24 56) k (refl, (refl, (refl, (refl, (refl, (refl, (refl, (refl, (refl, (refl, (refl, (refl, (refl, (refl, (refl, (refl, (refl, (refl, (refl, (refl, (refl, (refl, (refl, (refl, (refl, (refl, (refl, (refl, (refl, (refl, (refl, (refl, tt))))))))))))))))))))))))))))))))
    (in_span 24 56 k (omega arith) (and_from (nat_le 24 (kind_number k)) (nat_lt (kind_number k) 56) (le-leb 24 (kind_number k) a) (lt-ltb (kind_number k) 56 b)))

pub in_range : (c : Class) (t : Lexeme) → test c t ≡ true → (low c ≤ kind_number t.kind) × (kind_number t.kind < high c)
in_range c t h =
    let p = and_parts (nat_le (low c) (kind_number t.kind)) (nat_lt (kind_number t.kind) (high c)) h in
    (leb-true (low c) (kind_number t.kind) p.0, ltb-true (kind_number t.kind) (high c) p.1)

pub same_class : (c : Class) (t u : Lexeme) → u.kind ≡ t.kind → test c t ≡ true → test c u ≡ true
same_class c t u e h = ap (λ k. nat_le (low c) (kind_number k) && nat_lt (kind_number k) (high c)) e ∙ h

-- the texts of a kind in a table
abbrev pub texts_of : ℕ → List (List ℕ × Kind) → List (List ℕ)
texts_of n [] = []
texts_of n ((t, k) ∷ rows) = if kind_number k == n then t ∷ texts_of n rows else texts_of n rows

one_more : (b : Bool) (t text : List ℕ) (ts : List (List ℕ)) → IsAmong ts text → IsAmong (if b then t ∷ ts else ts) text
one_more true t text ts i = inr i
one_more false t text ts i = i

first_one : (b : Bool) (t text : List ℕ) (ts : List (List ℕ)) → b ≡ true → text ≡ t → IsAmong (if b then t ∷ ts else ts) text
first_one true t text ts h e = inl e
first_one false t text ts h e = absurd (false≢true h)

pub table_back : (rows : List (List ℕ × Kind)) (n : ℕ) (text : List ℕ) → (n ≡ 52 → ⊥) → kind_number (kind_in rows text) ≡ n → IsAmong (texts_of n rows) text
table_back [] n text no_word h = absurd (no_word (sym h))
table_back ((known, k) ∷ rows) n text no_word h = by (bytes_eq text known) refl h (table_back rows n text no_word)
  where
    by : (b : Bool) → bytes_eq text known ≡ b → kind_number (if b then k else kind_in rows text) ≡ n → (kind_number (kind_in rows text) ≡ n → IsAmong (texts_of n rows) text)
        → IsAmong (if kind_number k == n then known ∷ texts_of n rows else texts_of n rows) text
    by true e g r = first_one (kind_number k == n) known text (texts_of n rows) (eq-eqb (kind_number k) n g) ((bytes_eq-Decides text known).0 e)
    by false e g r = one_more (kind_number k == n) known text (texts_of n rows) (r g)
