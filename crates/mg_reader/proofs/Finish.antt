-- From the reading of the lexemes to the answer for the bytes.
use Rattle.std.proofs.Common.{◌≡◌, ℕ, ◌≤◌, List, [], ◌∷◌, refl, ap, sym, subst, Option, Some, None, inl, inr, ◌⊎◌}
use Rattle.std.specs.Prelude.{Result, Ok, Err, IfOk, IfErr, drop, ⊤}
use Rattle.gr_grammar.specs.Readings.{IsReading}
use Rattle.gr_tokens.specs.Answers.{AreTokens, IsRefused}
use Rattle.gr_tokens.specs.declared.Token.{Token}
use Rattle.gr_tokens.specs.declared.ReadRefusal.{ReadRefusal}
use Rattle.gr_tokens.specs.declared.ReadRefusal.TheVariants as refusal
use Rattle.mg_syntax.specs.declared.item.Item.{Item}
use Rattle.mg_reader.specs.declared.lexeme.Lexeme.{Lexeme}
use Rattle.mg_reader.specs.declared.notes.Complaint.{Complaint}
use Rattle.mg_reader.specs.declared.notes.Complaint.TheVariants.{Duplicate, TooManyClasses}
use Rattle.mg_reader.specs.Kinds.{turn}
use Rattle.mg_reader.specs.Grammar.{system, metagrammar_text}
use Rattle.mg_reader.specs.Values.{metagrammar_of}
use Rattle.mg_reader.specs.Complaints.{or_first, metagrammar_bad}
use Rattle.mg_reader.specs.Lexemes.{AreLexemes, EachIs}
use Rattle.mg_reader.specs.Spelling.{Spells}
use Rattle.mg_reader.specs.Answers.{class_count, IsMetagrammar, IsRefusal, IsRight, place_of, reading_of}
use Rattle.mg_reader.specs.Reading.{accepted}
use Rattle.mg_reader.proofs.Spelled.{spelled_metagrammar, few_classes}

-- the refusals of the cutting into tokens
pub token_refusal : (bytes : List ℕ) (texts : List (List ℕ)) (r : ReadRefusal) → IsRefused bytes r → IsRefusal bytes texts r
token_refusal bytes texts (refusal.NotUtf8 n) h = h
token_refusal bytes texts (refusal.Syntax p) h = inl h
token_refusal bytes texts (refusal.Duplicate p) h = absurd h
token_refusal bytes texts (refusal.TooManyClasses p) h = absurd h
token_refusal bytes texts (refusal.Version n) h = h
token_refusal bytes texts (refusal.NotCanonical n) h = h
token_refusal bytes texts (refusal.EmptyWord p) h = h
token_refusal bytes texts (refusal.EntryLiterals p) h = h
token_refusal bytes texts (refusal.Variable p) h = h
token_refusal bytes texts (refusal.InputLiterals p) h = h
token_refusal bytes texts (refusal.TooManyInputs p) h = h
token_refusal bytes texts refusal.Memory h = h

pub tokens_refused : (bytes : List ℕ) (texts : List (List ℕ)) (r : ReadRefusal) → (r ≡ refusal.Memory) ⊎ IsRefused bytes r → (r ≡ refusal.Memory) ⊎ IsRefusal bytes texts r
tokens_refused bytes texts r (inl e) = inl e
tokens_refused bytes texts r (inr h) = inr (token_refusal bytes texts r h)

-- the first complaint of a list
abbrev IsNone : Option Complaint → Type 0
IsNone None = ⊤
IsNone (Some c) = ⊥

none_first : (cs : List Complaint) → None ≡ or_first None cs → cs ≡ []
none_first [] e = refl
none_first (c ∷ cs) e = absurd (subst IsNone e tt)

abbrev or_given : Complaint → Option Complaint → Complaint
or_given d None = d
or_given d (Some c) = c

some_first : (c : Complaint) (cs : List Complaint) → Some c ≡ or_first None cs → (others : List Complaint) × (cs ≡ c ∷ others)
some_first c [] e = absurd (subst IsNone (sym e) tt)
some_first c (d ∷ cs) e = (cs, ap (λ z. z ∷ cs) (sym (ap (or_given c) e)))

module _ (bytes : List ℕ) (texts : List (List ℕ)) (ls : List Lexeme) (are : AreLexemes bytes texts ls) where
  -- the lexemes are a text of the grammar
  accepted_with : (m : List Item) (c : Option Complaint) → IsReading system turn 200 metagrammar_text (λ ts rest m. reading_of m) ls (Ok (m, c)) → IsRight bytes texts (accepted m c)
  accepted_with m None r =
      let tree = r.1.0 in
      let fine : metagrammar_bad tree ≡ [] = none_first (metagrammar_bad tree) (ap (λ z. z.1) r.1.1) in
      let same : metagrammar_of tree ≡ m = sym (ap (λ z. z.0) r.1.1) in
      record { lexemes = ls; are = are; spelled = subst (λ z. Spells z ls) same (spelled_metagrammar tree fine); shallow = r.0; few = subst (λ z. class_count z ≤ 4096) same (few_classes tree fine) }
  accepted_with m (Some (Duplicate p)) r =
      let s = some_first (Duplicate p) (metagrammar_bad r.1.0) (ap (λ z. z.1) r.1.1) in
      record { lexemes = ls; are = are; shallow = r.0; tree = r.1.0; others = s.0; is = s.1 }
  accepted_with m (Some (TooManyClasses p)) r =
      let s = some_first (TooManyClasses p) (metagrammar_bad r.1.0) (ap (λ z. z.1) r.1.1) in
      record { lexemes = ls; are = are; shallow = r.0; tree = r.1.0; others = s.0; is = s.1 }

  pub accepted_right : (whole : List Item × Option Complaint) {x : Result (List Item) ReadRefusal} → IsReading system turn 200 metagrammar_text (λ ts rest m. reading_of m) ls (Ok whole) → x ≡ accepted whole.0 whole.1 → IsRight bytes texts x
  accepted_right whole r e = subst (λ z. IsRight bytes texts z) (sym e) (accepted_with whole.0 whole.1 r)

  -- they break off
  pub broken_right : (n : ℕ) → IsReading system turn 200 metagrammar_text (λ ts rest m. reading_of m) ls (Err n) → IsRefusal bytes texts (refusal.Syntax (place_of bytes (drop n ls)))
  broken_right n r = inr (record { lexemes = ls; are = are; rest = drop n ls; fault = r.0; here = refl })

pub right_ok : (bytes : List ℕ) (texts : List (List ℕ)) (x : Result (List Item) ReadRefusal) → IsRight bytes texts x → IfOk x (λ m. IsMetagrammar bytes texts m)
right_ok bytes texts (Ok m) h = h
right_ok bytes texts (Err r) h = tt

pub right_err : (bytes : List ℕ) (texts : List (List ℕ)) (x : Result (List Item) ReadRefusal) → IsRight bytes texts x → IfErr x (λ r. (r ≡ refusal.Memory) ⊎ IsRefusal bytes texts r)
right_err bytes texts (Ok m) h = tt
right_err bytes texts (Err r) h = inr h

-- what was read are the lexemes of the bytes
pub lexemes_are : (bytes : List ℕ) (texts : List (List ℕ)) (ts ts' : List Token) (ls ls' : List Lexeme) → AreTokens bytes ts → ts' ≡ ts → ls' ≡ ls → EachIs bytes texts ts' ls → AreLexemes bytes texts ls'
lexemes_are bytes texts ts ts' ls ls' a e f h = record { tokens = ts; are = a; each = subst (λ z. EachIs bytes texts ts z) (sym f) (subst (λ z. EachIs bytes texts z ls) e h) }
