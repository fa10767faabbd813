-- From what a reader of all tokens of a file read to the answer for the file, for each grammar without numbered parts whose brackets are closed behind each text.
use Rattle.std.proofs.Common.{◌≡◌, ℕ, ◌-◌, ◌<◌, ◌≤◌, List, [], ◌∷◌, ◌++◌, length, true, Option, Some, None, Result, Ok, Err, refl, ap, sym, ◌∙◌, subst, arith}
use Rattle.std.specs.Prelude.{slice_range, OnOk}
use Rattle.std.proofs.lemmas.List.{length-map, length-append}
use Rattle.gr_grammar.specs.Grammars.{Grammar, System, Matches, is_clear, IsFault, Runs, took, failed, tree_of}
use Rattle.gr_grammar.specs.Depths.{IsShallowFault}
use Rattle.gr_grammar.proofs.Exact.{fault_of, fault_behind}
use Rattle.gr_text.specs.declared.Place.{Place}
use Rattle.gr_tokens.specs.declared.Token.{Token}
use Rattle.gr_tokens.specs.declared.ReadRefusal.{ReadRefusal}
use Rattle.gr_tokens.specs.declared.ReadRefusal.TheVariants as refusal
use Rattle.gr_reader.specs.declared.brackets.TheConstants.{BRACKET_LIMIT}
use Rattle.gr_reader.specs.declared.complaints.Complaint.{Complaint}
use Rattle.gr_reader.specs.declared.complaints.Fault.{Fault}
use Rattle.gr_reader.specs.declared.complaints.Fault.TheVariants.{Duplicate, TooManyClasses, EmptyWord, EntryLiterals, Variable, InputLiterals, TooManyInputs}
use Rattle.gr_reader.specs.declared.reader.Stop.{Stop}
use Rattle.gr_reader.specs.declared.reader.Stop.TheVariants.{Syntax, Memory}
use Rattle.gr_reader.specs.Brackets.{turn}
use Rattle.gr_reader.specs.Classes.{Class, flat}
use Rattle.gr_reader.specs.Complaints.{all_noted, refusal_at}
use Rattle.gr_reader.specs.Files.{IsFile, BreaksOff, IsComplaint, IsFileAnswer, IsEnd, place_where_left}
use Rattle.gr_reader.specs.Levels.{level_behind}
use Rattle.gr_reader.specs.Lexemes.{Lexeme, lexeme_of, lexemes}
use Rattle.gr_reader.specs.Parts.{Reads}
use Rattle.gr_reader.proofs.ComplaintLemmas.{none_is}
use Rattle.gr_reader.proofs.Files.{later_lexemes}
use Rattle.gr_reader.proofs.Fronts.{by_number}
use Rattle.gr_reader.proofs.Levels.{all_shallow, fault_inside}
use Rattle.gr_reader.proofs.Steps.{syntax_run}
use Rattle.gr_reader.proofs.Systems.{flat_is_system}

module _ {C T A : Type 0} (S : System C T) (g : Grammar C) (right : (ts rest : List T) → Matches S g ts rest → A → Type 0) (ts rest : List T) where
  -- what follows for each tree and value follows of a reading
  pub reads_map : (more : (ts rest : List T) → Matches S g ts rest → A → Type 0) (x : Result A Stop) → ((m : Matches S g ts rest) (v : A) → right ts rest m v → more ts rest m v) → Reads S g right ts rest x → Reads S g more ts rest x
  reads_map more (Ok v) f r = (r.0, f (tree_of r.0) v r.1)
  reads_map more (Err e) f r = r

  -- a fact that stands beside the answer holds with what is right
  pub reads_and : (P : (ts rest : List T) → Type 0) (x : Result A Stop) → Reads S g right ts rest x → OnOk x (P ts rest) → Reads S g (λ ts rest m v. right ts rest m v × P ts rest) ts rest x
  reads_and P (Ok v) r p = (r.0, (r.1, p))
  reads_and P (Err e) r p = r

-- all lexemes are those of the tokens from the first one on
pub all_of_them : (bytes : List ℕ) (tokens : List Token) (now : List Lexeme) → now ≡ lexemes bytes (slice_range tokens 0 (length tokens)) → now ≡ lexemes bytes tokens
all_of_them bytes tokens now e = e ∙ later_lexemes bytes tokens 0

module _ (g : Grammar Class) (clear : is_clear flat g ≡ true) (level : level_behind BRACKET_LIMIT 0 g ≡ Some 0) (bytes : List ℕ) (tokens : List Token) where
  abbrev all : List Lexeme
  all = lexemes bytes tokens

  -- the text breaks off where so many are left
  abbrev Breaks : ℕ → Type 0
  Breaks left = BreaksOff flat g bytes tokens (place_where_left bytes tokens left)

  breaks : (rest : List Lexeme) → IsFault flat g all rest → Breaks (length rest)
  breaks rest f =
      let a = ap length f.split in
      let b = length-append f.front rest in
      let l = length-map tokens (lexeme_of bytes) in
      let q = by_number all f.front rest (length tokens - length rest) f.split (omega arith) in
      record {
        number = length tokens - length rest;
        within = omega arith;
        fault = subst (λ z. IsShallowFault flat turn BRACKET_LIMIT g all z) (sym q.1) (fault_inside BRACKET_LIMIT flat.parts flat.info g 0 level all rest f);
        here = refl;
      }

  module _ {A : Type 0} (bad : (ts rest : List Lexeme) → Matches flat g ts rest → List Complaint) (right : (ts rest : List Lexeme) → Matches flat g ts rest → A → Type 0) where
    abbrev Answers : Result A ReadRefusal → Type 0
    Answers x = IsFileAnswer flat g bad right bytes tokens x

    -- a complaint is answered at its place
    refused : (f : IsFile flat g bytes tokens) (fault : Fault) (place : Place) → IsComplaint (bad all [] f.tree) bytes tokens (refusal_at fault place) → Answers (Err (refusal_at fault place))
    refused f Duplicate place k = (f, k)
    refused f TooManyClasses place k = (f, k)
    refused f EmptyWord place k = (f, k)
    refused f EntryLiterals place k = (f, k)
    refused f Variable place k = (f, k)
    refused f InputLiterals place k = (f, k)
    refused f TooManyInputs place k = (f, k)

    -- what was read of all tokens, and how it ended, give the answer
    pub whole_answer : (rest : List Lexeme) (c : Option Complaint) (read : Result A Stop) (x : Result A ReadRefusal)
        → Reads flat g (λ ts rest m v. (c ≡ all_noted None (bad ts rest m)) × right ts rest m v) all rest read → IsEnd bytes tokens rest c read x → Answers x
    whole_answer rest c (Err Memory) x r e = subst Answers (sym e) tt
    whole_answer rest c (Err Syntax) x r e = subst Answers (sym e) (breaks rest (fault_of flat flat_is_system clear (syntax_run refl r)))
    whole_answer (t ∷ rest) c (Ok v) x r e = subst Answers (sym e) (breaks (t ∷ rest) (fault_behind flat flat_is_system t rest clear r.0))
    whole_answer [] None (Ok v) x r e =
        let m = tree_of r.0 in
        let f : IsFile flat g bytes tokens = record { tree = m; shallow = all_shallow BRACKET_LIMIT 0 level all m } in
        subst Answers (sym e) (f, none_is (bad all [] m) (sym r.1.0), r.1.1)
    whole_answer [] (Some c) (Ok v) x r e =
        let m = tree_of r.0 in
        let f : IsFile flat g bytes tokens = record { tree = m; shallow = all_shallow BRACKET_LIMIT 0 level all m } in
        subst Answers (sym e) (refused f c.fault (place_where_left bytes tokens c.left) (record { first = c; is = sym r.1.0; refusal = refl }))

module _ {A : Type 0} (S : System Class Lexeme) (g : Grammar Class) (bytes : List ℕ) (tokens : List Token) (bad : (ts rest : List Lexeme) → Matches S g ts rest → List Complaint) (right : (ts rest : List Lexeme) → Matches S g ts rest → A → Type 0) where
  -- what follows for each value of a text without complaints follows of an answer
  pub answer_map : (other : (ts rest : List Lexeme) → Matches S g ts rest → A → Type 0) (x : Result A ReadRefusal)
      → ((m : Matches S g (lexemes bytes tokens) []) (v : A) → bad (lexemes bytes tokens) [] m ≡ [] → right (lexemes bytes tokens) [] m v → other (lexemes bytes tokens) [] m v)
      → IsFileAnswer S g bad right bytes tokens x → IsFileAnswer S g bad other bytes tokens x
  answer_map other (Ok v) f a = (a.0, a.1, f a.0.tree v a.1 a.2)
  answer_map other (Err (refusal.Syntax p)) f a = a
  answer_map other (Err (refusal.NotUtf8 n)) f a = a
  answer_map other (Err (refusal.Duplicate p)) f a = a
  answer_map other (Err (refusal.TooManyClasses p)) f a = a
  answer_map other (Err (refusal.Version n)) f a = a
  answer_map other (Err (refusal.NotCanonical n)) f a = a
  answer_map other (Err (refusal.EmptyWord p)) f a = a
  answer_map other (Err (refusal.EntryLiterals p)) f a = a
  answer_map other (Err (refusal.Variable p)) f a = a
  answer_map other (Err (refusal.InputLiterals p)) f a = a
  answer_map other (Err (refusal.TooManyInputs p)) f a = a
  answer_map other (Err refusal.Memory) f a = a

  -- and what follows whatever the value is
  pub answer_has : {P : Type 0} (x : Result A ReadRefusal) → ((m : Matches S g (lexemes bytes tokens) []) (v : A) → bad (lexemes bytes tokens) [] m ≡ [] → right (lexemes bytes tokens) [] m v → P)
      → IsFileAnswer S g bad right bytes tokens x → OnOk x P
  answer_has (Ok v) f a = f a.0.tree v a.1 a.2
  answer_has (Err r) f a = tt
