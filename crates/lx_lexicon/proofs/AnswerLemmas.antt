-- One answer is right, and it stays right as the table of texts grows.
use Rattle.std.proofs.Common.{◌≡◌, ℕ, ◌-◌, List, [], length, None, Result, Ok, Err, inl, inr, refl, ap, sym, ◌∙◌, subst}
use Rattle.std.specs.Prelude.{◌⊎◌}
use Rattle.std.proofs.lemmas.Option.{same_Some, none-some}
use Rattle.gr_base.specs.Lists.{NoneTwice}
use Rattle.gr_base.proofs.Zips.{AllZip-weaker}
use Rattle.gr_symbols.specs.Numbers.{Grows}
use Rattle.gr_symbols.proofs.NumberLemmas.{Names-grows}
use Rattle.gr_text.specs.declared.Place.{Place}
use Rattle.gr_tokens.specs.declared.Token.{Token}
use Rattle.gr_tokens.specs.declared.ReadRefusal.{ReadRefusal}
use Rattle.gr_tokens.specs.declared.ReadRefusal.TheVariants as refusal
use Rattle.gr_tokens.specs.Answers.{AreTokens, IsRefused}
use Rattle.gr_tokens.proofs.OneAnswer.{same_answer}
use Rattle.gr_grammar.proofs.OneTree.{one_tree}
use Rattle.gr_reader.specs.Classes.{flat}
use Rattle.gr_reader.specs.Complaints.{all_noted, refusal_at}
use Rattle.gr_reader.specs.Files.{IsFile, BreaksOff, IsComplaint}
use Rattle.gr_reader.specs.Lexemes.{lexemes}
use Rattle.gr_feats.specs.Tables.{PutsNames}
use Rattle.gr_reader.specs.Places.{place_of_token}
use Rattle.gr_reader.proofs.Files.{one_break, no_break}
use Rattle.gr_reader.proofs.LexemeLemmas.{Lexeme-set}
use Rattle.gr_reader.proofs.Systems.{flat_is_system}
use Rattle.gr_feats.proofs.StayLemmas.{bag_stays, literals_stay}
use Rattle.lx_lexicon.specs.declared.entry.Entry.{Entry}
use Rattle.lx_lexicon.specs.Grammars.{WrittenEntry, lexicon_text, lexicon_of}
use Rattle.lx_lexicon.specs.Complaints.{lexicon_bad}
use Rattle.lx_lexicon.specs.Entries.{IsCoName, IsEntry, AreEntries}
use Rattle.gr_feats.proofs.TableLemmas.{one_table as one_table_of, puts_once, puts_grow}
use Rattle.lx_lexicon.specs.Answers.{IsTokensAnswer, IsRead, HasTable, IsLexiconAnswer, IsLexiconReading}
use Rattle.lx_lexicon.proofs.FileLemmas.{lexicon_is_clear}
use Rattle.lx_lexicon.proofs.OneEntry.{one_lexicon}

module _ (bytes : List ℕ) (tokens : List Token) (texts : List (List ℕ)) where
  abbrev IsBroken : ReadRefusal → Type 0
  IsBroken r = (p : Place) × (r ≡ refusal.Syntax p) × BreaksOff flat lexicon_text bytes tokens p

  abbrev IsComplained : ReadRefusal → Type 0
  IsComplained r = (f : IsFile flat lexicon_text bytes tokens) × IsComplaint (lexicon_bad (lexicon_of f.tree)) bytes tokens r

  -- there are two kinds of refusals
  refused_by : (r : ReadRefusal) → (r ≡ refusal.Memory → ⊥) → IsTokensAnswer bytes tokens texts (Err r) → IsBroken r ⊎ IsComplained r
  refused_by (refusal.Syntax p) m h = inl (p, refl, h)
  refused_by (refusal.NotUtf8 n) m h = inr h
  refused_by (refusal.Duplicate p) m h = inr h
  refused_by (refusal.TooManyClasses p) m h = inr h
  refused_by (refusal.Version n) m h = inr h
  refused_by (refusal.NotCanonical n) m h = inr h
  refused_by (refusal.EmptyWord p) m h = inr h
  refused_by (refusal.EntryLiterals p) m h = inr h
  refused_by (refusal.Variable p) m h = inr h
  refused_by (refusal.InputLiterals p) m h = inr h
  refused_by (refusal.TooManyInputs p) m h = inr h
  refused_by refusal.Memory m h = absurd (m refl)

  same_tree : (f g : IsFile flat lexicon_text bytes tokens) → f.tree ≡ g.tree
  same_tree f g = one_tree flat flat_is_system Lexeme-set lexicon_is_clear f.tree g.tree

  -- a text without complaints isn't refused
  not_refused : (f : IsFile flat lexicon_text bytes tokens) → lexicon_bad (lexicon_of f.tree) ≡ [] → (r : ReadRefusal) → IsBroken r ⊎ IsComplained r → ⊥
  not_refused f none r (inl b) = no_break flat lexicon_text bytes tokens b.0 f b.2
  not_refused f none r (inr c) = none-some c.1.first (sym (ap (all_noted None) (ap (λ m. lexicon_bad (lexicon_of m)) (sym (same_tree f c.0)) ∙ none)) ∙ c.1.is)

  one_refusal : (r s : ReadRefusal) → IsBroken r ⊎ IsComplained r → IsBroken s ⊎ IsComplained s → r ≡ s
  one_refusal r s (inl a) (inl b) = a.1 ∙ ap refusal.Syntax (one_break flat lexicon_text bytes tokens a.0 b.0 a.2 b.2) ∙ sym b.1
  one_refusal r s (inl a) (inr d) = absurd (no_break flat lexicon_text bytes tokens a.0 d.0 a.2)
  one_refusal r s (inr c) (inl b) = absurd (no_break flat lexicon_text bytes tokens b.0 c.0 b.2)
  one_refusal r s (inr c) (inr d) =
      let bad = ap (λ m. all_noted None (lexicon_bad (lexicon_of m))) (same_tree c.0 d.0) in
      let first : c.1.first ≡ d.1.first = same_Some c.1.first d.1.first (sym c.1.is ∙ bad ∙ d.1.is) in
      c.1.refusal ∙ ap (λ k. refusal_at k.fault (place_of_token bytes tokens (length tokens - k.left))) first ∙ sym d.1.refusal

  one_tokens_answer : NoneTwice texts → (x y : Result (List Entry) ReadRefusal) → (x ≡ Err refusal.Memory → ⊥) → (y ≡ Err refusal.Memory → ⊥) → IsTokensAnswer bytes tokens texts x → IsTokensAnswer bytes tokens texts y → x ≡ y
  one_tokens_answer once (Ok es) (Ok fs) m n h k =
      ap Ok (one_lexicon texts once (lexicon_of h.0.tree) es fs h.2 (subst (λ t. AreEntries texts (lexicon_of t) fs) (sym (same_tree h.0 k.0)) k.2))
  one_tokens_answer once (Ok es) (Err s) m n h k = absurd (not_refused h.0 h.1 s (refused_by s (λ e. n (ap Err e)) k))
  one_tokens_answer once (Err r) (Ok fs) m n h k = absurd (not_refused k.0 k.1 r (refused_by r (λ e. m (ap Err e)) h))
  one_tokens_answer once (Err r) (Err s) m n h k = ap Err (one_refusal r s (refused_by r (λ e. m (ap Err e)) h) (refused_by s (λ e. n (ap Err e)) k))

abbrev tokens_or : List Token → Result (List Token) ReadRefusal → List Token
tokens_or ts (Ok us) = us
tokens_or ts (Err r) = ts

abbrev refusal_or : ReadRefusal → Result (List Token) ReadRefusal → ReadRefusal
refusal_or r (Ok us) = r
refusal_or r (Err s) = s

pub one_cut : (bytes : List ℕ) (ts us : List Token) → AreTokens bytes ts → AreTokens bytes us → ts ≡ us
one_cut bytes ts us h k = ap (tokens_or []) (same_answer bytes (Ok ts) (Ok us) h k)

module _ (bytes : List ℕ) (texts : List (List ℕ)) (once : NoneTwice texts) where
  one_read : (x y : Result (List Entry) ReadRefusal) → (x ≡ Err refusal.Memory → ⊥) → (y ≡ Err refusal.Memory → ⊥) → IsRead bytes texts x → IsRead bytes texts y → x ≡ y
  one_read x y m n h k =
      let e : h.tokens ≡ k.tokens = one_cut bytes h.tokens k.tokens h.are k.are in
      one_tokens_answer bytes h.tokens texts once x y m n h.right (subst (λ ts. IsTokensAnswer bytes ts texts y) (sym e) k.right)

  uncut : (ts : List Token) (r : ReadRefusal) → AreTokens bytes ts → IsRefused bytes r → ⊥
  uncut ts r h k = let e = same_answer bytes (Ok ts) (Err r) h k in cc

  pub one_reading : (x y : Result (List Entry) ReadRefusal) → (x ≡ Err refusal.Memory → ⊥) → (y ≡ Err refusal.Memory → ⊥) → IsLexiconReading bytes texts x → IsLexiconReading bytes texts y → x ≡ y
  one_reading (Ok es) (Ok fs) m n h k = one_read (Ok es) (Ok fs) m n h k
  one_reading (Ok es) (Err s) m n h (inl e) = absurd (n (ap Err e))
  one_reading (Ok es) (Err s) m n h (inr (inl k)) = absurd (uncut h.tokens s h.are k)
  one_reading (Ok es) (Err s) m n h (inr (inr k)) = one_read (Ok es) (Err s) m n h k
  one_reading (Err r) (Ok fs) m n (inl e) k = absurd (m (ap Err e))
  one_reading (Err r) (Ok fs) m n (inr (inl h)) k = absurd (uncut k.tokens r k.are h)
  one_reading (Err r) (Ok fs) m n (inr (inr h)) k = one_read (Err r) (Ok fs) m n h k
  one_reading (Err r) (Err s) m n (inl e) k = absurd (m (ap Err e))
  one_reading (Err r) (Err s) m n (inr h) (inl e) = absurd (n (ap Err e))
  one_reading (Err r) (Err s) m n (inr (inl h)) (inr (inl k)) = ap Err (ap (refusal_or r) (same_answer bytes (Err r) (Err s) h k))
  one_reading (Err r) (Err s) m n (inr (inl h)) (inr (inr k)) = absurd (uncut k.tokens r k.are h)
  one_reading (Err r) (Err s) m n (inr (inr h)) (inr (inl k)) = absurd (uncut h.tokens s h.are k)
  one_reading (Err r) (Err s) m n (inr (inr h)) (inr (inr k)) = one_read (Err r) (Err s) m n h k

-- a refusal says nothing of the table
module _ (texts later : List (List ℕ)) where
  tokens_refusal_is : (bytes : List ℕ) (tokens : List Token) (r : ReadRefusal) → IsTokensAnswer bytes tokens texts (Err r) → IsTokensAnswer bytes tokens later (Err r)
  tokens_refusal_is bytes tokens (refusal.Syntax p) h = h
  tokens_refusal_is bytes tokens (refusal.NotUtf8 n) h = h
  tokens_refusal_is bytes tokens (refusal.Duplicate p) h = h
  tokens_refusal_is bytes tokens (refusal.TooManyClasses p) h = h
  tokens_refusal_is bytes tokens (refusal.Version n) h = h
  tokens_refusal_is bytes tokens (refusal.NotCanonical n) h = h
  tokens_refusal_is bytes tokens (refusal.EmptyWord p) h = h
  tokens_refusal_is bytes tokens (refusal.EntryLiterals p) h = h
  tokens_refusal_is bytes tokens (refusal.Variable p) h = h
  tokens_refusal_is bytes tokens (refusal.InputLiterals p) h = h
  tokens_refusal_is bytes tokens (refusal.TooManyInputs p) h = h
  tokens_refusal_is bytes tokens refusal.Memory h = h

  pub refusal_is : (bytes : List ℕ) (r : ReadRefusal) → IsLexiconReading bytes texts (Err r) → IsLexiconReading bytes later (Err r)
  refusal_is bytes r (inl e) = inl e
  refusal_is bytes r (inr (inl h)) = inr (inl h)
  refusal_is bytes r (inr (inr h)) = inr (inr (record { tokens = h.tokens; are = h.are; right = tokens_refusal_is bytes h.tokens r h.right }))

module _ (texts later : List (List ℕ)) (grows : Grows texts later) where
  entry_stays : (w : WrittenEntry) (e : Entry) → IsEntry texts w e → IsEntry later w e
  entry_stays w e h = record {
    lemma = Names-grows texts later e.lemma.0 w.head.lemma.text h.lemma grows;
    family = Names-grows texts later e.family.0 w.head.family h.family grows;
    behind_iface = h.behind_iface;
    behind_anchor = h.behind_anchor;
    behind_all = h.behind_all;
    iface_again = h.iface_again;
    anchor_again = h.anchor_again;
    iface = bag_stays texts later grows _ w.body.iface _ h.behind_iface h.iface;
    anchor = bag_stays texts later grows h.behind_iface w.body.anchor _ h.behind_anchor h.anchor;
    coanchors = AllZip-weaker (IsCoName texts) (IsCoName later) (λ v c is. record { name = Names-grows texts later c.0.0 v.name.text is.name grows; lemma = Names-grows texts later c.1.0 v.lemma.text is.lemma grows }) w.body.coanchors e.coanchors h.coanchors;
    literals = literals_stay texts later grows h.behind_anchor w.body.literals e.sem h.behind_all h.literals;
  }

  tokens_answer_stays : (bytes : List ℕ) (tokens : List Token) (x : Result (List Entry) ReadRefusal) → IsTokensAnswer bytes tokens texts x → IsTokensAnswer bytes tokens later x
  tokens_answer_stays bytes tokens (Ok es) h = (h.0, h.1, AllZip-weaker (IsEntry texts) (IsEntry later) entry_stays (lexicon_of h.0.tree) es h.2)
  tokens_answer_stays bytes tokens (Err r) h = tokens_refusal_is texts later bytes tokens r h

  read_stays : (bytes : List ℕ) (x : Result (List Entry) ReadRefusal) → IsRead bytes texts x → IsRead bytes later x
  read_stays bytes x h = record { tokens = h.tokens; are = h.are; right = tokens_answer_stays bytes h.tokens x h.right }

  pub reading_stays : (bytes : List ℕ) (x : Result (List Entry) ReadRefusal) → IsLexiconReading bytes texts x → IsLexiconReading bytes later x
  reading_stays bytes (Ok es) h = read_stays bytes (Ok es) h
  reading_stays bytes (Err r) h = refusal_is texts later bytes r h

-- the table behind a lexicon is one
pub one_table : (bytes : List ℕ) (old new later : List (List ℕ)) → HasTable bytes old new → HasTable bytes old later → new ≡ later
one_table bytes old new later h k =
    let e = one_cut bytes h.tokens k.tokens h.are k.are in
    one_table_of lexicon_is_clear h.puts (subst (λ ts. PutsNames lexicon_text old later (lexemes bytes ts) []) (sym e) k.puts)

pub table_once : (bytes : List ℕ) (old new : List (List ℕ)) → NoneTwice old → HasTable bytes old new → NoneTwice new
table_once bytes old new once h = puts_once once h.puts

pub table_grows : (bytes : List ℕ) (old new : List (List ℕ)) → HasTable bytes old new → Grows old new
table_grows bytes old new h = puts_grow h.puts

-- what is right by the tables before and behind is right by the one behind
pub reading_of : (bytes : List ℕ) (old new : List (List ℕ)) (x : Result (List Entry) ReadRefusal) → IsLexiconAnswer bytes old new x → IsLexiconReading bytes new x
reading_of bytes old new (Ok es) h = h.0
reading_of bytes old new (Err r) h = h

-- behind one old table one answer is right
pub one_answer : (bytes : List ℕ) (old : List (List ℕ)) → NoneTwice old → (new later : List (List ℕ)) (x y : Result (List Entry) ReadRefusal) → (x ≡ Err refusal.Memory → ⊥) → (y ≡ Err refusal.Memory → ⊥)
    → IsLexiconAnswer bytes old new x → IsLexiconAnswer bytes old later y → x ≡ y
one_answer bytes old once new later (Ok es) (Ok fs) m n h k =
    one_reading bytes new (table_once bytes old new once h.1) (Ok es) (Ok fs) m n h.0 (subst (λ t. IsLexiconReading bytes t (Ok fs)) (sym (one_table bytes old new later h.1 k.1)) k.0)
one_answer bytes old once new later (Ok es) (Err s) m n h k = one_reading bytes new (table_once bytes old new once h.1) (Ok es) (Err s) m n h.0 (refusal_is later new bytes s k)
one_answer bytes old once new later (Err r) (Ok fs) m n h k = one_reading bytes later (table_once bytes old later once k.1) (Err r) (Ok fs) m n (refusal_is new later bytes r h) k.0
one_answer bytes old once new later (Err r) (Err s) m n h k = one_reading bytes old once (Err r) (Err s) m n (refusal_is new old bytes r h) (refusal_is later old bytes s k)
