-- One answer is right for the tokens of a file, for each grammar.
use Rattle.std.proofs.Common.{◌≡◌, ℕ, List, [], Some, None, Result, Ok, Err, true, refl, sym, ◌∙◌, ap}
use Rattle.std.specs.Prelude.{◌-◌, length}
use Rattle.std.proofs.lemmas.Option.{none-some, same_Some}
use Rattle.gr_grammar.specs.Grammars.{Grammar, System, IsSystem, Matches, is_clear}
use Rattle.gr_grammar.proofs.OneTree.{one_tree}
use Rattle.gr_text.specs.declared.Place.{Place}
use Rattle.gr_tokens.specs.declared.Token.{Token}
use Rattle.gr_tokens.specs.declared.ReadRefusal.{ReadRefusal}
use Rattle.gr_tokens.specs.declared.ReadRefusal.TheVariants as refusal
use Rattle.gr_reader.specs.Lexemes.{Lexeme, lexemes}
use Rattle.gr_reader.specs.Classes.{Class}
use Rattle.gr_reader.specs.Complaints.{all_noted, refusal_at}
use Rattle.gr_reader.specs.Files.{IsFile, BreaksOff, IsComplaint, IsFileAnswer}
use Rattle.gr_reader.specs.Places.{place_of_token}
use Rattle.gr_reader.specs.declared.complaints.Complaint.{Complaint}
use Rattle.gr_reader.proofs.Files.{one_break, no_break}
use Rattle.gr_reader.proofs.LexemeLemmas.{Lexeme-set}

module _ (S : System Class Lexeme) (K : IsSystem S) (g : Grammar Class) (clear : is_clear S g ≡ true) (bad : (ts rest : List Lexeme) → Matches S g ts rest → List Complaint) (bytes : List ℕ) (tokens : List Token) where
  abbrev all : List Lexeme
  all = lexemes bytes tokens

  abbrev Bad : IsFile S g bytes tokens → List Complaint
  Bad f = bad all [] f.tree

  pub same_tree : (f h : IsFile S g bytes tokens) → f.tree ≡ h.tree
  same_tree f h = one_tree S K Lexeme-set clear f.tree h.tree

  -- what a refusal is for, besides want of memory
  data Reason (r : ReadRefusal) : Type 0 where
    for_place : (p : Place) → r ≡ refusal.Syntax p → BreaksOff S g bytes tokens p → Reason r
    for_complaint : (f : IsFile S g bytes tokens) → IsComplaint (Bad f) bytes tokens r → Reason r

  module _ {A : Type 0} (right : (ts rest : List Lexeme) → Matches S g ts rest → A → Type 0) where
    abbrev Answers : Result A ReadRefusal → Type 0
    Answers x = IsFileAnswer S g bad right bytes tokens x

    reason : (r : ReadRefusal) → (r ≡ refusal.Memory → ⊥) → Answers (Err r) → Reason r
    reason (refusal.Syntax p) m h = for_place p refl h
    reason (refusal.NotUtf8 n) m h = for_complaint h.0 h.1
    reason (refusal.Duplicate p) m h = for_complaint h.0 h.1
    reason (refusal.TooManyClasses p) m h = for_complaint h.0 h.1
    reason (refusal.Version n) m h = for_complaint h.0 h.1
    reason (refusal.NotCanonical n) m h = for_complaint h.0 h.1
    reason (refusal.EmptyWord p) m h = for_complaint h.0 h.1
    reason (refusal.EntryLiterals p) m h = for_complaint h.0 h.1
    reason (refusal.Variable p) m h = for_complaint h.0 h.1
    reason (refusal.InputLiterals p) m h = for_complaint h.0 h.1
    reason (refusal.TooManyInputs p) m h = for_complaint h.0 h.1
    reason refusal.Memory m h = absurd (m refl)

    one_reason : (r s : ReadRefusal) → Reason r → Reason s → r ≡ s
    one_reason r s (for_place p e b) (for_place q d k) = e ∙ ap refusal.Syntax (one_break S g bytes tokens p q b k) ∙ sym d
    one_reason r s (for_place p e b) (for_complaint f k) = absurd (no_break S g bytes tokens p f b)
    one_reason r s (for_complaint f k) (for_place p e b) = absurd (no_break S g bytes tokens p f b)
    one_reason r s (for_complaint f k) (for_complaint h l) =
        let same : Some k.first ≡ Some l.first = sym k.is ∙ ap (λ m. all_noted None (bad all [] m)) (same_tree f h) ∙ l.is in
        k.refusal ∙ ap (λ (c : Complaint). refusal_at c.fault (place_of_token bytes tokens (length tokens - c.left))) (same_Some k.first l.first same) ∙ sym l.refusal

    -- a refusal is one
    pub one_refusal : (r s : ReadRefusal) → (r ≡ refusal.Memory → ⊥) → (s ≡ refusal.Memory → ⊥) → Answers (Err r) → Answers (Err s) → r ≡ s
    one_refusal r s m n h k = one_reason r s (reason r m h) (reason s n k)

    -- and what is refused isn't read
    not_read : (v : A) (r : ReadRefusal) → Answers (Ok v) → Reason r → ⊥
    not_read v r h (for_place p e b) = no_break S g bytes tokens p h.0 b
    not_read v r h (for_complaint f k) =
        none-some k.first (ap (all_noted None) (sym h.1) ∙ ap (λ m. all_noted None (bad all [] m)) (same_tree h.0 f) ∙ k.is)

    pub no_refusal : (v : A) (r : ReadRefusal) → (r ≡ refusal.Memory → ⊥) → Answers (Ok v) → Answers (Err r) → ⊥
    no_refusal v r m h k = not_read v r h (reason r m k)
