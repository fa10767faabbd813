-- From tokens to lexemes, and from how a run ends to the answer for the bytes.
use Rattle.std.proofs.Common.{◌≡◌, ℕ, ◌+◌, ◌≤◌, List, [], ◌∷◌, ◌++◌, length, refl, ap, sym, ◌∙◌, subst, arith, append_assoc, append-nil, length-append}
use Rattle.gr_base.specs.Lists.{Each}
use Rattle.gr_grammar.specs.Grammars.{Grammar, Runs, failed}
use Rattle.gr_reader.specs.Lexemes.{HasText, lexeme_of}
use Rattle.gr_symbols.specs.Numbers.{Grows}
use Rattle.gr_symbols.proofs.NumberLemmas.{Names-grows, Grows-trans}
use Rattle.gr_terms.specs.declared.Sym.{Sym}
use Rattle.gr_tokens.specs.declared.Kind.{Kind as Cut}
use Rattle.gr_tokens.specs.declared.Kind.TheVariants.{Word, Str, Var, Punct}
use Rattle.gr_tokens.specs.declared.Token.{Token}
use Rattle.gr_tokens.specs.Spans.{slice_of}
use Rattle.gr_tokens.specs.Tokens.{Writes}
use Rattle.mg_reader.specs.declared.lexeme.Class.{Class}
use Rattle.mg_reader.specs.declared.lexeme.Lexeme.{Lexeme}
use Rattle.mg_reader.specs.declared.cursor.Stop.{Stop}
use Rattle.mg_reader.specs.declared.cursor.Stop.TheVariants.{Syntax}
use Rattle.mg_reader.specs.Grammar.{system}
use Rattle.mg_reader.specs.Lexemes.{IsLexeme, HasName, EachIs}
use Rattle.mg_reader.specs.Reading.{StopsAt, for_syntax}
use Rattle.mg_reader.specs.Tables.{AreNumbered}
use Rattle.mg_reader.proofs.Numbering.{numbered_push}

pub both_of : {A B : Type 0} {a b : A} {c d : B} → a ≡ b → c ≡ d → ◌≡◌ {A = A × B} (a, c) (b, d)
both_of e f = λ i. (e i, f i)

-- for syntax, reading stops just where a run fails
pub stopped_at : {g : Grammar Class} {ts rest : List Lexeme} → StopsAt g ts rest Syntax → Runs system g ts (failed rest)
stopped_at (for_syntax r) = r

pub stopped_for : {g : Grammar Class} {ts rest : List Lexeme} {e : Stop} → StopsAt g ts rest e → e ≡ Syntax → Runs system g ts (failed rest)
stopped_for {g} {ts} {rest} s e = stopped_at (subst (λ z. StopsAt g ts rest z) e s)

-- a name keeps its number while the table grows
has_name_kept : (old new : List (List ℕ)) (k : Cut) (text : List ℕ) (s : Sym) → Grows old new → HasName old k text s → HasName new k text s
has_name_kept old new Word text s g h = Names-grows old new s.0 text h g
has_name_kept old new Str text s g h = Names-grows old new s.0 text h g
has_name_kept old new Var text s g h = Names-grows old new s.0 text h g
has_name_kept old new Punct text s g h = h

lexeme_kept : (bytes : List ℕ) (old new : List (List ℕ)) (t : Token) (l : Lexeme) → Grows old new → IsLexeme bytes old t l → IsLexeme bytes new t l
lexeme_kept bytes old new t l g i = record { text = i.text; writes = i.writes; is = i.is; named = has_name_kept old new t.kind i.text l.name g i.named; stands = i.stands }

each_kept : (bytes : List ℕ) (old new : List (List ℕ)) (ts : List Token) (ls : List Lexeme) → Grows old new → EachIs bytes old ts ls → EachIs bytes new ts ls
each_kept bytes old new [] [] g h = tt
each_kept bytes old new [] (l ∷ ls) g h = h
each_kept bytes old new (t ∷ ts) [] g h = h
each_kept bytes old new (t ∷ ts) (l ∷ ls) g h = (lexeme_kept bytes old new t l g h.0, each_kept bytes old new ts ls g h.1)

each_push : (bytes : List ℕ) (texts : List (List ℕ)) (ts : List Token) (ls : List Lexeme) (t : Token) (l : Lexeme) → EachIs bytes texts ts ls → IsLexeme bytes texts t l → EachIs bytes texts (ts ++ t ∷ []) (ls ++ l ∷ [])
each_push bytes texts [] [] t l h i = (i, tt)
each_push bytes texts [] (m ∷ ls) t l h i = absurd h
each_push bytes texts (u ∷ ts) [] t l h i = absurd h
each_push bytes texts (u ∷ ts) (m ∷ ls) t l h i = (h.0, each_push bytes texts ts ls t l h.1 i)

-- a front of the tokens was read
pub record HasRead (bytes : List ℕ) (old new : List (List ℕ)) (all rest : List Token) (found : List Lexeme) : Type 0 where
  pub front : List Token
  pub split : all ≡ front ++ rest
  pub each : EachIs bytes new front found
  pub numbered : AreNumbered bytes old front new
  pub grows : Grows old new
  pub few : length new ≤ length old + length front
  pub text : Each (HasText bytes) rest
  pub written : Each (λ t. Writes t.kind (lexeme_of bytes t).text (slice_of bytes t)) rest

pub read_none : (bytes : List ℕ) (texts : List (List ℕ)) (all : List Token) → Each (HasText bytes) all → Each (λ t. Writes t.kind (lexeme_of bytes t).text (slice_of bytes t)) all → HasRead bytes texts texts all all []
read_none bytes texts all h w = record { front = []; split = refl; each = tt; numbered = refl; grows = ([], sym (append-nil texts)); few = omega arith; text = h; written = w }

pub read_more : (bytes : List ℕ) (old new newer : List (List ℕ)) (all rest : List Token) (found : List Lexeme) (t : Token) (more : List Token) (l : Lexeme) {found' : List Lexeme} →
    HasRead bytes old new all rest found → rest ≡ t ∷ more → Grows new newer → length newer ≤ length new + 1 → IsLexeme bytes newer t l → AreNumbered bytes new (t ∷ []) newer → found' ≡ found ++ l ∷ [] → HasRead bytes old newer all more found'
read_more bytes old new newer all rest found t more l r e g n i b f =
    let text = subst (λ z. Each (HasText bytes) z) e r.text in
    let written = subst (λ z. Each (λ u. Writes u.kind (lexeme_of bytes u).text (slice_of bytes u)) z) e r.written in
    let long = length-append r.front (t ∷ []) in let before = r.few in
    record {
      front = r.front ++ t ∷ [];
      split = r.split ∙ (ap (λ z. r.front ++ z) e ∙ sym (append_assoc r.front (t ∷ []) more));
      each = subst (λ z. EachIs bytes newer (r.front ++ t ∷ []) z) (sym f) (each_push bytes newer r.front found t l (each_kept bytes new newer r.front found g r.each) i);
      numbered = numbered_push bytes old new newer r.front t r.numbered b;
      grows = Grows-trans old new newer r.grows g;
      few = omega arith;
      text = text.1;
      written = written.1;
    }

pub read_all : (bytes : List ℕ) (old new : List (List ℕ)) (all rest : List Token) (found : List Lexeme) → HasRead bytes old new all rest found → length rest ≡ 0 → EachIs bytes new all found
read_all bytes old new all [] found r e = subst (λ z. EachIs bytes new z found) (sym (r.split ∙ append-nil r.front)) r.each
read_all bytes old new all (t ∷ rest) found r e = absurd (omega arith)

pub read_numbered : (bytes : List ℕ) (old new : List (List ℕ)) (all rest : List Token) (found : List Lexeme) → HasRead bytes old new all rest found → length rest ≡ 0 → AreNumbered bytes old all new
read_numbered bytes old new all [] found r e = subst (λ z. AreNumbered bytes old z new) (sym (r.split ∙ append-nil r.front)) r.numbered
read_numbered bytes old new all (t ∷ rest) found r e = absurd (omega arith)

pub read_few : (bytes : List ℕ) (old new : List (List ℕ)) (all rest : List Token) (found : List Lexeme) → HasRead bytes old new all rest found → length new ≤ length old + length all
read_few bytes old new all rest found r = let a = ap length r.split in let b = length-append r.front rest in let c = r.few in omega arith
