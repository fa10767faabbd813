-- For a text of bytes and a table in which no text stands twice, one answer is right.
use Rattle.std.proofs.Common.{◌≡◌, ℕ, List, [], ◌∷◌, refl, ap, sym, ◌∙◌, subst, inl, inr}
use Rattle.std.specs.Prelude.{Result, Ok, Err, ⊤}
use mathlib.Core.Sum.{⊎_set}
use Rattle.std.proofs.Math.Nat.{ℕ_set}
use Rattle.gr_base.specs.Lists.{NoneTwice}
use Rattle.gr_grammar.specs.Grammars.{IsText}
use Rattle.gr_grammar.specs.Depths.{IsShallow, IsShallowFault}
use Rattle.gr_grammar.proofs.OneTree.{one_tree}
use Rattle.gr_grammar.proofs.Places.{one_place, no_place}
use Rattle.gr_symbols.proofs.NumberLemmas.{one_number}
use Rattle.gr_terms.specs.declared.Sym.{Sym}
use Rattle.gr_tokens.specs.declared.Kind.{Kind as Cut}
use Rattle.gr_tokens.specs.declared.Kind.TheVariants.{Word, Str, Var, Punct}
use Rattle.gr_tokens.specs.declared.Token.{Token}
use Rattle.gr_tokens.specs.declared.ReadRefusal.{ReadRefusal}
use Rattle.gr_tokens.specs.declared.ReadRefusal.TheVariants as refusal
use Rattle.gr_tokens.specs.Answers.{IsRefused}
use Rattle.gr_tokens.specs.Spans.{slice_of}
use Rattle.gr_tokens.proofs.OneAnswer.{same_answer}
use Rattle.mg_syntax.specs.declared.item.Item.{Item}
use Rattle.mg_reader.specs.declared.lexeme.Lexeme.{Lexeme}
use Rattle.mg_reader.specs.declared.notes.Complaint.{Complaint}
use Rattle.mg_reader.specs.declared.notes.Complaint.TheVariants.{Duplicate, TooManyClasses}
use Rattle.mg_reader.specs.Kinds.{turn}
use Rattle.mg_reader.specs.Grammar.{system, metagrammar_text}
use Rattle.mg_reader.specs.Values.{metagrammar_of}
use Rattle.mg_reader.specs.Complaints.{metagrammar_bad}
use Rattle.mg_reader.specs.Lexemes.{kind_of, HasName, IsLexeme, EachIs, AreLexemes}
use Rattle.mg_reader.specs.Answers.{IsRight, place_of}
use Rattle.mg_reader.specs.Reading.{refusal_of}
use Rattle.mg_reader.proofs.Systems.{is_system}
use Rattle.mg_reader.proofs.Numbering.{one_written, same_tokens, uncut}
use Rattle.mg_reader.proofs.Unspelled.{unspelled}

lexeme_set : IsSet Lexeme
lexeme_set = hlevel (⊎_set, ℕ_set)

one_name : (texts : List (List ℕ)) (k : Cut) (text : List ℕ) (s t : Sym) → NoneTwice texts → HasName texts k text s → HasName texts k text t → s ≡ t
one_name texts Word text s t n a b = λ i. record { 0 = one_number texts s.0 t.0 text n a b i }
one_name texts Str text s t n a b = λ i. record { 0 = one_number texts s.0 t.0 text n a b i }
one_name texts Var text s t n a b = λ i. record { 0 = one_number texts s.0 t.0 text n a b i }
one_name texts Punct text s t n a b = a ∙ sym b

one_lexeme : (bytes : List ℕ) (texts : List (List ℕ)) (t : Token) (l k : Lexeme) → NoneTwice texts → IsLexeme bytes texts t l → IsLexeme bytes texts t k → l ≡ k
one_lexeme bytes texts t l k n a b =
    let same = one_written t.kind a.text b.text (slice_of bytes t) a.writes b.writes in
    let is = a.is ∙ (ap (λ z. kind_of t.kind z) same ∙ sym b.is) in
    let name = one_name texts t.kind b.text l.name k.name n (subst (λ z. HasName texts t.kind z l.name) same a.named) b.named in
    let place = a.stands ∙ sym b.stands in
    λ i. record { kind = is i; name = name i; place = place i }

one_each : (bytes : List ℕ) (texts : List (List ℕ)) (ts : List Token) (ls ks : List Lexeme) → NoneTwice texts → EachIs bytes texts ts ls → EachIs bytes texts ts ks → ls ≡ ks
one_each bytes texts [] [] [] n a b = refl
one_each bytes texts [] [] (k ∷ ks) n a b = absurd b
one_each bytes texts [] (l ∷ ls) ks n a b = absurd a
one_each bytes texts (t ∷ ts) [] ks n a b = absurd a
one_each bytes texts (t ∷ ts) (l ∷ ls) [] n a b = absurd b
one_each bytes texts (t ∷ ts) (l ∷ ls) (k ∷ ks) n a b = λ i. one_lexeme bytes texts t l k n a.0 b.0 i ∷ one_each bytes texts ts ls ks n a.1 b.1 i

one_list : (bytes : List ℕ) (texts : List (List ℕ)) (ls ks : List Lexeme) → NoneTwice texts → AreLexemes bytes texts ls → AreLexemes bytes texts ks → ls ≡ ks
one_list bytes texts ls ks n a b =
    let same = same_tokens bytes a.tokens b.tokens a.are b.are in
    one_each bytes texts b.tokens ls ks n (subst (λ z. EachIs bytes texts z ls) same a.each) b.each

one_text : (ts : List Lexeme) (m n : IsText system metagrammar_text ts) → m ≡ n
one_text ts m n = one_tree system is_system lexeme_set refl m n

-- what the lexemes are, by an answer: a text without complaints, no text from a place on, or a text with complaints
data Sort (bytes : List ℕ) (ls : List Lexeme) (x : Result (List Item) ReadRefusal) : Type 0 where
  fine : IsShallow turn 200 0 ls → (tree : IsText system metagrammar_text ls) → metagrammar_bad tree ≡ [] → x ≡ Ok (metagrammar_of tree) → Sort bytes ls x
  broken : (rest : List Lexeme) → IsShallowFault system turn 200 metagrammar_text ls rest → x ≡ Err (refusal.Syntax (place_of bytes rest)) → Sort bytes ls x
  complained : IsShallow turn 200 0 ls → (tree : IsText system metagrammar_text ls) (c : Complaint) (others : List Complaint) → metagrammar_bad tree ≡ c ∷ others → x ≡ Err (refusal_of c) → Sort bytes ls x

-- what an answer says: there are no tokens, or the lexemes are of a sort
data Shape (bytes : List ℕ) (texts : List (List ℕ)) (x : Result (List Item) ReadRefusal) : Type 0 where
  not_cut : (r : ReadRefusal) → IsRefused bytes r → x ≡ Err r → Shape bytes texts x
  cut_into : (ls : List Lexeme) → AreLexemes bytes texts ls → Sort bytes ls x → Shape bytes texts x

shape : (bytes : List ℕ) (texts : List (List ℕ)) (x : Result (List Item) ReadRefusal) → IsRight bytes texts x → Shape bytes texts x
shape bytes texts (Ok m) h = let u = unspelled m h.lexemes h.spelled h.few in cut_into h.lexemes h.are (fine h.shallow u.tree u.fine (ap Ok (sym u.is)))
shape bytes texts (Err (refusal.NotUtf8 n)) h = not_cut (refusal.NotUtf8 n) h refl
shape bytes texts (Err (refusal.Syntax p)) (inl h) = not_cut (refusal.Syntax p) h refl
shape bytes texts (Err (refusal.Syntax p)) (inr h) = cut_into h.lexemes h.are (broken h.rest h.fault (ap (λ z. Err (refusal.Syntax z)) h.here))
shape bytes texts (Err (refusal.Duplicate p)) h = cut_into h.lexemes h.are (complained h.shallow h.tree (Duplicate p) h.others h.is refl)
shape bytes texts (Err (refusal.TooManyClasses p)) h = cut_into h.lexemes h.are (complained h.shallow h.tree (TooManyClasses p) h.others h.is refl)
shape bytes texts (Err (refusal.Version n)) h = absurd h
shape bytes texts (Err (refusal.NotCanonical n)) h = absurd h
shape bytes texts (Err (refusal.EmptyWord p)) h = absurd h
shape bytes texts (Err (refusal.EntryLiterals p)) h = absurd h
shape bytes texts (Err (refusal.Variable p)) h = absurd h
shape bytes texts (Err (refusal.InputLiterals p)) h = absurd h
shape bytes texts (Err (refusal.TooManyInputs p)) h = absurd h
shape bytes texts (Err refusal.Memory) h = absurd h

-- a list is empty or has a first complaint, and not both
abbrev IsEmpty : List Complaint → Type 0
IsEmpty [] = ⊤
IsEmpty (c ∷ cs) = ⊥

abbrev or_first_of : Complaint → List Complaint → Complaint
or_first_of d [] = d
or_first_of d (c ∷ cs) = c

clash : (ls : List Lexeme) (m n : IsText system metagrammar_text ls) (c : Complaint) (others : List Complaint) → metagrammar_bad m ≡ [] → metagrammar_bad n ≡ c ∷ others → ⊥
clash ls m n c others a b = subst IsEmpty (sym a ∙ (ap (λ z. metagrammar_bad z) (one_text ls m n) ∙ b)) tt

one_sort : (bytes : List ℕ) (ls : List Lexeme) (x y : Result (List Item) ReadRefusal) → Sort bytes ls x → Sort bytes ls y → x ≡ y
one_sort bytes ls x y (fine a m e i) (fine b n f j) = i ∙ (ap (λ z. Ok (metagrammar_of z)) (one_text ls m n) ∙ sym j)
one_sort bytes ls x y (fine a m e i) (broken rest f j) = absurd (no_place system turn 200 metagrammar_text rest m a f)
one_sort bytes ls x y (fine a m e i) (complained b n c others f j) = absurd (clash ls m n c others e f)
one_sort bytes ls x y (broken rest f i) (fine a m e j) = absurd (no_place system turn 200 metagrammar_text rest m a f)
one_sort bytes ls x y (broken rest f i) (broken left g j) = i ∙ (ap (λ z. Err (refusal.Syntax (place_of bytes z))) (one_place system turn 200 metagrammar_text f g) ∙ sym j)
one_sort bytes ls x y (broken rest f i) (complained a m c others e j) = absurd (no_place system turn 200 metagrammar_text rest m a f)
one_sort bytes ls x y (complained a m c others e i) (fine b n f j) = absurd (clash ls n m c others f e)
one_sort bytes ls x y (complained a m c others e i) (broken rest f j) = absurd (no_place system turn 200 metagrammar_text rest m a f)
one_sort bytes ls x y (complained a m c others e i) (complained b n d more f j) =
    i ∙ (ap (λ z. Err (refusal_of z)) (ap (or_first_of c) (sym e ∙ (ap (λ z. metagrammar_bad z) (one_text ls m n) ∙ f))) ∙ sym j)

one_shape : (bytes : List ℕ) (texts : List (List ℕ)) (x y : Result (List Item) ReadRefusal) → NoneTwice texts → Shape bytes texts x → Shape bytes texts y → x ≡ y
one_shape bytes texts x y n (not_cut r h i) (not_cut s k j) = i ∙ (ap refused_as (same_answer bytes (Err r) (Err s) h k) ∙ sym j)
  where
    refused_as : Result (List Token) ReadRefusal → Result (List Item) ReadRefusal
    refused_as (Ok ts) = Ok []
    refused_as (Err r) = Err r
one_shape bytes texts x y n (not_cut r h i) (cut_into ls a s) = absurd (uncut bytes r h a.tokens a.are)
one_shape bytes texts x y n (cut_into ls a s) (not_cut r h i) = absurd (uncut bytes r h a.tokens a.are)
one_shape bytes texts x y n (cut_into ls a s) (cut_into ks b t) = one_sort bytes ks x y (subst (λ z. Sort bytes z x) (one_list bytes texts ls ks n a b) s) t

pub one_right : (bytes : List ℕ) (texts : List (List ℕ)) (x y : Result (List Item) ReadRefusal) → NoneTwice texts → IsRight bytes texts x → IsRight bytes texts y → x ≡ y
one_right bytes texts x y n a b = one_shape bytes texts x y n (shape bytes texts x a) (shape bytes texts y b)
