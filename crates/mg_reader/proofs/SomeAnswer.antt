-- For a text and the table behind it an answer is right.
use Rattle.std.specs.Prelude.{◌≡◌, ℕ, List, [], ◌∷◌, drop, Result, Ok, Err, Some, slice_get}
use Rattle.std.proofs.Common.{refl, inl, inr, sym, ◌∙◌, subst}
use Rattle.std.proofs.lemmas.List.{append-nil}
use Rattle.gr_base.specs.Lists.{IsAmong}
use Rattle.gr_base.proofs.ListLemmas.{slice_get-IsAmong, slice_get-append_left, IsAmong-new_one}
use Rattle.gr_grammar.specs.Grammars.{IsText, Matches}
use Rattle.gr_grammar.specs.Depths.{IsShallow}
use Rattle.gr_grammar.specs.Readings.{IsReading}
use Rattle.gr_grammar.proofs.Total.{some_reading}
use Rattle.gr_symbols.specs.Numbers.{Names, Grows}
use Rattle.gr_symbols.proofs.NumberLemmas.{Grows-trans}
use Rattle.gr_terms.specs.declared.Sym.{Sym}
use Rattle.gr_terms.specs.declared.TheConstants.{EMPTY}
use Rattle.gr_tokens.specs.declared.Kind.{Kind as Cut}
use Rattle.gr_tokens.specs.declared.Kind.TheVariants.{Word, Str, Var, Punct}
use Rattle.gr_tokens.specs.declared.Token.{Token}
use Rattle.gr_tokens.specs.declared.ReadRefusal.{ReadRefusal}
use Rattle.gr_tokens.specs.declared.ReadRefusal.TheVariants as refusal
use Rattle.gr_tokens.specs.Answers.{IsRefused, AreTokens}
use Rattle.gr_tokens.specs.Answers as cut
use Rattle.gr_tokens.proofs.SomeAnswer.{some_answer}
use Rattle.gr_reader.specs.declared.brackets.TheConstants.{BRACKET_LIMIT}
use Rattle.mg_syntax.specs.declared.item.Item.{Item}
use Rattle.mg_reader.specs.declared.lexeme.Lexeme.{Lexeme}
use Rattle.mg_reader.specs.declared.notes.Complaint.{Complaint}
use Rattle.mg_reader.specs.declared.notes.Complaint.TheVariants.{Duplicate, TooManyClasses}
use Rattle.mg_reader.specs.Kinds.{turn}
use Rattle.mg_reader.specs.Grammar.{system, metagrammar_text}
use Rattle.mg_reader.specs.Complaints.{metagrammar_bad}
use Rattle.mg_reader.specs.Values.{metagrammar_of}
use Rattle.mg_reader.specs.Lexemes.{kind_of, HasName, EachIs, AreLexemes}
use Rattle.mg_reader.specs.Tables.{IsNamed, IsBehind, AreNumbered, IsTable}
use Rattle.mg_reader.specs.Answers.{IsRight, place_of}
use Rattle.mg_reader.proofs.Systems.{is_system}
use Rattle.mg_reader.proofs.Spelled.{spelled_metagrammar, few_classes}

-- a table grows with each token
named_grows : (text : List ℕ) (old new : List (List ℕ)) → IsNamed text old new → Grows old new
named_grows text old new (inl h) = ([], h.1 ∙ sym (append-nil old))
named_grows text old new (inr h) = (text ∷ [], h.1)

behind_grows : (k : Cut) (text : List ℕ) (old new : List (List ℕ)) → IsBehind k text old new → Grows old new
behind_grows Word text old new h = named_grows text old new h
behind_grows Str text old new h = named_grows text old new h
behind_grows Var text old new h = named_grows text old new h
behind_grows Punct text old new h = ([], h ∙ sym (append-nil old))

numbered_grows : (bytes : List ℕ) (old new : List (List ℕ)) (ts : List Token) → AreNumbered bytes old ts new → Grows old new
numbered_grows bytes old new [] h = ([], h ∙ sym (append-nil old))
numbered_grows bytes old new (t ∷ ts) (text, next, w, b, r) = Grows-trans old next new (behind_grows t.kind text old next b) (numbered_grows bytes next new ts r)

-- so the text of a token has a number in it
stays : (old new : List (List ℕ)) (text : List ℕ) → Grows old new → IsAmong old text → (s : Sym) × Names new s.0 text
stays old new text (more, e) i =
    let n = slice_get-IsAmong old text i in
    (record { 0 = n.0 }, subst (λ l. slice_get l n.0 ≡ Some text) (sym e) (slice_get-append_left old more n.0 text n.1))

is_there : (text : List ℕ) (old new : List (List ℕ)) → IsNamed text old new → IsAmong new text
is_there text old new (inl h) = subst (λ l. IsAmong l text) (sym h.1) h.0
is_there text old new (inr h) = subst (λ l. IsAmong l text) (sym h.1) (IsAmong-new_one old text)

some_name : (k : Cut) (text : List ℕ) (old next new : List (List ℕ)) → IsBehind k text old next → Grows next new → (s : Sym) × HasName new k text s
some_name Word text old next new b g = stays next new text g (is_there text old next b)
some_name Str text old next new b g = stays next new text g (is_there text old next b)
some_name Var text old next new b g = stays next new text g (is_there text old next b)
some_name Punct text old next new b g = (EMPTY, refl)

some_lexemes : (bytes : List ℕ) (old new : List (List ℕ)) (ts : List Token) → AreNumbered bytes old ts new → (ls : List Lexeme) × EachIs bytes new ts ls
some_lexemes bytes old new [] h = ([], tt)
some_lexemes bytes old new (t ∷ ts) (text, next, w, b, r) =
    let name = some_name t.kind text old next new b (numbered_grows bytes next new ts r) in
    let rest = some_lexemes bytes next new ts r in (
      record { kind = kind_of t.kind text; name = name.0; place = t.place } ∷ rest.0,
      (
        record {
          text = text;
          writes = w;
          is = refl;
          named = name.1;
          stands = refl;
        },
        rest.1,
      ),
    )

abbrev HasAnswer : List ℕ → List (List ℕ) → Type 0
HasAnswer bytes texts = (a : Result (List Item) ReadRefusal) × IsRight bytes texts a

module _ (bytes : List ℕ) (texts : List (List ℕ)) where
  of_text : (ls : List Lexeme) → AreLexemes bytes texts ls → IsShallow turn BRACKET_LIMIT 0 ls → (tree : IsText system metagrammar_text ls) (bad : List Complaint) → metagrammar_bad tree ≡ bad → HasAnswer bytes texts
  of_text ls are shallow tree [] e = (Ok (metagrammar_of tree), record { lexemes = ls; are = are; spelled = spelled_metagrammar tree e; shallow = shallow; few = few_classes tree e })
  of_text ls are shallow tree (Duplicate p ∷ others) e = (Err (refusal.Duplicate p), record { lexemes = ls; are = are; shallow = shallow; tree = tree; others = others; is = e })
  of_text ls are shallow tree (TooManyClasses p ∷ others) e = (Err (refusal.TooManyClasses p), record { lexemes = ls; are = are; shallow = shallow; tree = tree; others = others; is = e })

  -- the value of a tree doesn't matter here
  nothing : (ts rest : List Lexeme) → Matches system metagrammar_text ts rest → ℕ
  nothing ts rest m = 0

  of_reading : (ls : List Lexeme) → AreLexemes bytes texts ls → (x : Result ℕ ℕ) → IsReading system turn BRACKET_LIMIT metagrammar_text nothing ls x → HasAnswer bytes texts
  of_reading ls are (Ok a) h = of_text ls are h.0 h.1.0 (metagrammar_bad h.1.0) refl
  of_reading ls are (Err n) h = (Err (refusal.Syntax (place_of bytes (drop n ls))), inr (record { lexemes = ls; are = are; rest = drop n ls; fault = h.0; here = refl }))

  of_lexemes : (ls : List Lexeme) → AreLexemes bytes texts ls → HasAnswer bytes texts
  of_lexemes ls are = let r = some_reading system is_system metagrammar_text refl turn BRACKET_LIMIT nothing ls in of_reading ls are r.0 r.1

  of_refusal : (r : ReadRefusal) → IsRefused bytes r → HasAnswer bytes texts
  of_refusal (refusal.NotUtf8 n) h = (Err (refusal.NotUtf8 n), h)
  of_refusal (refusal.Syntax p) h = (Err (refusal.Syntax p), inl h)
  of_refusal (refusal.Duplicate p) h = absurd h
  of_refusal (refusal.TooManyClasses p) h = absurd h
  of_refusal (refusal.Version n) h = absurd h
  of_refusal (refusal.NotCanonical n) h = absurd h
  of_refusal (refusal.EmptyWord p) h = absurd h
  of_refusal (refusal.EntryLiterals p) h = absurd h
  of_refusal (refusal.Variable p) h = absurd h
  of_refusal (refusal.InputLiterals p) h = absurd h
  of_refusal (refusal.TooManyInputs p) h = absurd h
  of_refusal refusal.Memory h = absurd h

  of_cut : ((ts : List Token) → AreTokens bytes ts → ⊥) → (x : Result (List Token) ReadRefusal) → cut.IsRight bytes x → HasAnswer bytes texts
  of_cut none (Ok ts) h = absurd (none ts h)
  of_cut none (Err r) h = of_refusal r h

  pub answer_there : (old : List (List ℕ)) → IsTable bytes old texts → HasAnswer bytes texts
  answer_there old (inl h) = let ls = some_lexemes bytes old texts h.tokens h.numbered in of_lexemes ls.0 (record { tokens = h.tokens; are = h.are; each = ls.1 })
  answer_there old (inr h) = let a = some_answer bytes in of_cut h.0 a.0 a.1

pub table_grows : (bytes : List ℕ) (old new : List (List ℕ)) → IsTable bytes old new → Grows old new
table_grows bytes old new (inl h) = numbered_grows bytes old new h.tokens h.numbered
table_grows bytes old new (inr h) = ([], h.1 ∙ sym (append-nil old))
