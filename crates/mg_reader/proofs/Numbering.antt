-- The table of names behind the tokens of a text: what gives it, and that there is one.
use Rattle.std.proofs.Common.{◌≡◌, ℕ, List, [], ◌∷◌, ◌++◌, ◌⊎◌, inl, inr, refl, ap, sym, ◌∙◌, subst}
use Rattle.std.specs.Prelude.{Result, Ok, Err, OnOk, ⊤}
use Rattle.std.proofs.lemmas.List.{append_cancel_right}
use Rattle.gr_base.specs.Lists.{IsAmong, NoneTwice, Each}
use Rattle.gr_base.proofs.ListLemmas.{NoneTwice-push}
use Rattle.gr_reader.specs.Lexemes.{lexeme_of}
use Rattle.gr_reader.proofs.Texts.{all_written}
use Rattle.gr_symbols.specs.Numbers.{Names}
use Rattle.gr_symbols.proofs.NumberLemmas.{IsAmong-Names, named_or_absent}
use Rattle.gr_tokens.specs.declared.Kind.{Kind as Cut}
use Rattle.gr_tokens.specs.declared.Kind.TheVariants.{Word, Str, Var, Punct}
use Rattle.gr_tokens.specs.declared.Token.{Token}
use Rattle.gr_tokens.specs.declared.ReadRefusal.{ReadRefusal}
use Rattle.gr_tokens.specs.declared.ReadRefusal.TheVariants.{Memory}
use Rattle.gr_tokens.specs.Answers.{AreTokens, IsRefused, IsRight}
use Rattle.gr_tokens.specs.Tokens.{Writes}
use Rattle.gr_tokens.specs.Spans.{slice_of}
use Rattle.gr_tokens.proofs.OneAnswer.{same_answer}
use Rattle.gr_tokens.proofs.SomeAnswer.{some_answer}
use Rattle.mg_reader.specs.Tables.{IsNamed, IsBehind, AreNumbered, IsTable}

-- a token has one text
abbrev tail_of : List ℕ → List ℕ
tail_of [] = []
tail_of (x ∷ xs) = xs

pub one_written : (k : Cut) (text u own : List ℕ) → Writes k text own → Writes k u own → text ≡ u
one_written Word text u own a b = sym a.0 ∙ b.0
one_written Var text u own a b = ap tail_of (sym a.0 ∙ b.0)
one_written Str text u own a b = append_cancel_right text u (34 ∷ []) (ap tail_of (sym a.0 ∙ b.0))
one_written Punct text u own a b = sym a.0 ∙ b.0

-- a text has one list of tokens, or it is refused
abbrev or_none : Result (List Token) ReadRefusal → List Token
or_none (Ok ts) = ts
or_none (Err r) = []

pub same_tokens : (bytes : List ℕ) (ts us : List Token) → AreTokens bytes ts → AreTokens bytes us → ts ≡ us
same_tokens bytes ts us a b = ap or_none (same_answer bytes (Ok ts) (Ok us) a b)

abbrev IsFound : Result (List Token) ReadRefusal → Type 0
IsFound (Ok ts) = ⊤
IsFound (Err r) = ⊥

pub uncut : (bytes : List ℕ) (r : ReadRefusal) → IsRefused bytes r → (ts : List Token) → AreTokens bytes ts → ⊥
uncut bytes r h ts a = subst IsFound (same_answer bytes (Ok ts) (Err r) a h) tt

-- a text is there or is new
pub settled : (text : List ℕ) (old new : List (List ℕ)) → (IsAmong old text → new ≡ old) → ((IsAmong old text → ⊥) → new ≡ old ++ text ∷ []) → IsNamed text old new
settled text old new known fresh = by (named_or_absent old text)
  where
    by : ((n : ℕ) × Names old n text) ⊎ (IsAmong old text → ⊥) → IsNamed text old new
    by (inl h) = let i = IsAmong-Names old h.0 text h.1 in inl (i, known i)
    by (inr h) = inr (h, fresh h)

-- what giving a text its number does
pub interned : {A E : Type 0} (r : Result A E) (text : List ℕ) (old new : List (List ℕ)) → OnOk r (IsAmong old text → new ≡ old) → OnOk r ((IsAmong old text → ⊥) → new ≡ old ++ text ∷ []) → OnOk r (IsNamed text old new)
interned (Ok x) text old new known fresh = settled text old new known fresh
interned (Err e) text old new known fresh = tt

-- a token behind others
pub numbered_push : (bytes : List ℕ) (old new newer : List (List ℕ)) (ts : List Token) (t : Token) → AreNumbered bytes old ts new → AreNumbered bytes new (t ∷ []) newer → AreNumbered bytes old (ts ++ t ∷ []) newer
numbered_push bytes old new newer [] t a b = subst (λ z. AreNumbered bytes z (t ∷ []) newer) a b
numbered_push bytes old new newer (u ∷ ts) t (text, next, w, h, a) b = (text, next, w, h, numbered_push bytes next new newer ts t a b)

-- the table stays where the text is refused
pub refused_table : (bytes : List ℕ) (texts : List (List ℕ)) (r : ReadRefusal) → (r ≡ Memory) ⊎ IsRefused bytes r → (r ≡ Memory) ⊎ IsTable bytes texts texts
refused_table bytes texts r (inl e) = inl e
refused_table bytes texts r (inr h) = inr (inr (uncut bytes r h, refl))

-- one table is right
one_named : (text : List ℕ) (old a b : List (List ℕ)) → IsNamed text old a → IsNamed text old b → a ≡ b
one_named text old a b (inl (h, e)) (inl (k, f)) = e ∙ sym f
one_named text old a b (inl (h, e)) (inr (k, f)) = absurd (k h)
one_named text old a b (inr (h, e)) (inl (k, f)) = absurd (h k)
one_named text old a b (inr (h, e)) (inr (k, f)) = e ∙ sym f

one_behind : (k : Cut) (text : List ℕ) (old a b : List (List ℕ)) → IsBehind k text old a → IsBehind k text old b → a ≡ b
one_behind Word text old a b h i = one_named text old a b h i
one_behind Str text old a b h i = one_named text old a b h i
one_behind Var text old a b h i = one_named text old a b h i
one_behind Punct text old a b h i = h ∙ sym i

one_numbered : (bytes : List ℕ) (old next a b : List (List ℕ)) (ts : List Token) → old ≡ next → AreNumbered bytes old ts a → AreNumbered bytes next ts b → a ≡ b
one_numbered bytes old next a b [] e h i = h ∙ (e ∙ sym i)
one_numbered bytes old next a b (t ∷ ts) e (u, m, w, h, r) (v, n, x, i, s) =
    let same = one_written t.kind u v (slice_of bytes t) w x in
    let f = one_behind t.kind v next m n (subst (λ z. IsBehind t.kind z next m) same (subst (λ z. IsBehind t.kind u z m) e h)) i in
    one_numbered bytes m n a b ts f r s

pub one_table : (bytes : List ℕ) (old a b : List (List ℕ)) → IsTable bytes old a → IsTable bytes old b → a ≡ b
one_table bytes old a b (inl h) (inl i) =
    let same = same_tokens bytes h.tokens i.tokens h.are i.are in
    one_numbered bytes old old a b i.tokens refl (subst (λ z. AreNumbered bytes old z a) same h.numbered) i.numbered
one_table bytes old a b (inl h) (inr (n, e)) = absurd (n h.tokens h.are)
one_table bytes old a b (inr (n, e)) (inl h) = absurd (n h.tokens h.are)
one_table bytes old a b (inr (n, e)) (inr (m, f)) = e ∙ sym f

-- there is one
some_named : (text : List ℕ) (old : List (List ℕ)) → (new : List (List ℕ)) × IsNamed text old new
some_named text old = by (named_or_absent old text)
  where
    by : ((n : ℕ) × Names old n text) ⊎ (IsAmong old text → ⊥) → (new : List (List ℕ)) × IsNamed text old new
    by (inl h) = (old, inl (IsAmong-Names old h.0 text h.1, refl))
    by (inr h) = (old ++ text ∷ [], inr (h, refl))

some_behind : (k : Cut) (text : List ℕ) (old : List (List ℕ)) → (new : List (List ℕ)) × IsBehind k text old new
some_behind Word text old = some_named text old
some_behind Str text old = some_named text old
some_behind Var text old = some_named text old
some_behind Punct text old = (old, refl)

some_numbered : (bytes : List ℕ) (old : List (List ℕ)) (ts : List Token) → Each (λ t. Writes t.kind (lexeme_of bytes t).text (slice_of bytes t)) ts → (new : List (List ℕ)) × AreNumbered bytes old ts new
some_numbered bytes old [] w = (old, refl)
some_numbered bytes old (t ∷ ts) w =
    let text = (lexeme_of bytes t).text in
    let b = some_behind t.kind text old in
    let r = some_numbered bytes b.0 ts w.1 in
    (r.0, (text, b.0, w.0, b.1, r.1))

pub some_table : (bytes : List ℕ) (old : List (List ℕ)) → (new : List (List ℕ)) × IsTable bytes old new
some_table bytes old = by (some_answer bytes).0 (some_answer bytes).1
  where
    by : (answer : Result (List Token) ReadRefusal) → IsRight bytes answer → (new : List (List ℕ)) × IsTable bytes old new
    by (Ok ts) h = let r = some_numbered bytes old ts (all_written bytes ts h) in (r.0, inl (record { tokens = ts; are = h; numbered = r.1 }))
    by (Err r) h = (old, inr (uncut bytes r h, refl))

-- no text stands twice in it
named_apart : (text : List ℕ) (old new : List (List ℕ)) → NoneTwice old → IsNamed text old new → NoneTwice new
named_apart text old new n (inl (h, e)) = subst (λ z. NoneTwice z) (sym e) n
named_apart text old new n (inr (h, e)) = subst (λ z. NoneTwice z) (sym e) (NoneTwice-push old text n h)

behind_apart : (k : Cut) (text : List ℕ) (old new : List (List ℕ)) → NoneTwice old → IsBehind k text old new → NoneTwice new
behind_apart Word text old new n h = named_apart text old new n h
behind_apart Str text old new n h = named_apart text old new n h
behind_apart Var text old new n h = named_apart text old new n h
behind_apart Punct text old new n h = subst (λ z. NoneTwice z) (sym h) n

numbered_apart : (bytes : List ℕ) (old new : List (List ℕ)) (ts : List Token) → NoneTwice old → AreNumbered bytes old ts new → NoneTwice new
numbered_apart bytes old new [] n h = subst (λ z. NoneTwice z) (sym h) n
numbered_apart bytes old new (t ∷ ts) n (text, next, w, h, r) = numbered_apart bytes next new ts (behind_apart t.kind text old next n h) r

pub table_apart : (bytes : List ℕ) (old new : List (List ℕ)) → NoneTwice old → IsTable bytes old new → NoneTwice new
table_apart bytes old new n (inl h) = numbered_apart bytes old new h.tokens n h.numbered
table_apart bytes old new n (inr (m, e)) = subst (λ z. NoneTwice z) (sym e) n
