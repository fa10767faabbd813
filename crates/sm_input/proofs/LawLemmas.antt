-- What callers can rely on: one answer is right, it stays right, and inputs that were read are ground.
use Rattle.std.proofs.Common.{◌≡◌, ℕ, List, [], ◌∷◌, Bool, true, false, None, Result, Ok, Err, inl, inr, refl, sym, ◌∙◌, ap, subst, arith}
use Rattle.std.specs.Prelude.{◌⊎◌, if◌then◌else◌}
use Rattle.gr_base.specs.Lists.{IsAmong, IsSublist, Each, NoneTwice}
use Rattle.gr_base.proofs.ListLemmas.{append-nil_left, append-nil_right}
use Rattle.gr_symbols.specs.Numbers.{Grows}
use Rattle.gr_tokens.specs.Answers.{AreTokens, IsRefused}
use Rattle.gr_tokens.specs.declared.Token.{Token}
use Rattle.gr_tokens.specs.declared.ReadRefusal.{ReadRefusal}
use Rattle.gr_tokens.specs.declared.ReadRefusal.TheVariants as refusal
use Rattle.gr_tokens.proofs.OneAnswer.{same_answer}
use Rattle.gr_reader.specs.Lexemes.{Lexeme, lexemes}
use Rattle.gr_grammar.specs.Grammars.{Matches}
use Rattle.gr_reader.specs.Classes.{flat}
use Rattle.gr_reader.specs.declared.complaints.Fault.TheVariants.{Variable}
use Rattle.gr_reader.proofs.Systems.{flat_is_system}
use Rattle.gr_feats.specs.Grammars.{WrittenLiteral}
use Rattle.gr_feats.specs.Numberings.{none_met}
use Rattle.gr_feats.proofs.MadeLemmas.{bag_made}
use Rattle.sm_input.specs.declared.input.Input.{Input}
use Rattle.sm_input.specs.Answers.{Inputs, IsTokensAnswer, IsRead, PutsTokens, HasTable, IsInputsAnswer, IsInputsReading, IsSame}
use Rattle.gr_feats.specs.Complaints.{complaint_at}
use Rattle.gr_feats.proofs.ComplaintLemmas.{no_complaint_at}
use Rattle.sm_input.specs.Complaints.{inputs_bad, variable_left, file_bad}
use Rattle.gr_symbols.specs.Numbers.{with_texts}
use Rattle.gr_symbols.proofs.NumberLemmas.{with_texts-once, with_texts-grows}
use Rattle.gr_grammar.proofs.OneTree.{one_tree}
use Rattle.gr_reader.proofs.LexemeLemmas.{Lexeme-set}
use Rattle.sm_input.specs.Tables.{inputs_names}
use Rattle.sm_input.specs.Firsts.{firsts, is_there}
use Rattle.sm_input.specs.Grammars.{WrittenInput, inputs_text, inputs_of}
use Rattle.sm_input.specs.Inputs.{IsInput, AreInputs, IsGround}
use Rattle.sm_input.specs.Reading.{IsFaultless, InputHas, LiteralHas}
use Rattle.sm_input.proofs.Same.{there_decides, word_of}
use Rattle.sm_input.proofs.FirstLemmas.{to_by, firsts_each, firsts_once}
use Rattle.sm_input.proofs.Finish.{all_faultless}
use Rattle.sm_input.proofs.Plain.{none_left, plain_inputs}
use Rattle.sm_input.proofs.Spelled.{NoFeed, none_fed, inputs_fed}
use Rattle.sm_input.proofs.GroundLemmas.{bag_const, literals_const, literals_differ, numbered_length}
use Rattle.sm_input.proofs.OneInput.{none_is_numbering, one_inputs, inputs_stay}
use Rattle.sm_input.proofs.OneFile.{one_refusal, no_refusal, same_tree}

-- literals that no equal one stands before are a part of all, and each has one of them
part_by : (b : Bool) (v : WrittenLiteral) (xs ws : List WrittenLiteral) → IsSublist xs ws → IsSublist (if b then xs else v ∷ xs) (v ∷ ws)
part_by true v xs ws s = inl s
part_by false v xs ws s = inr (xs, refl, s)

pub firsts_part : (before ws : List WrittenLiteral) → IsSublist (firsts before ws) ws
firsts_part before [] = refl
firsts_part before (w ∷ ws) = part_by (is_there before w) w (firsts (w ∷ before) ws) ws (firsts_part (w ∷ before) ws)

covers : (before ws : List WrittenLiteral) (w : WrittenLiteral) → IsAmong ws w → IsAmong before w ⊎ IsAmong (firsts before ws) w
covers before [] w i = absurd i
covers before (v ∷ ws) w (inl e) = to_by (is_there before v) before v w (firsts (v ∷ before) ws) (there_decides before v).0 (inl (inl e))
covers before (v ∷ ws) w (inr i) = to_by (is_there before v) before v w (firsts (v ∷ before) ws) (there_decides before v).0 (covers (v ∷ before) ws w i)

pub firsts_cover : (ws : List WrittenLiteral) (w : WrittenLiteral) → IsAmong ws w → IsAmong (firsts [] ws) w
firsts_cover ws w i = elim (covers [] ws w i) [ inl j ↦ absurd j | inr j ↦ j ]

-- tokens are one, and there are none where cutting is refused
err_ne_ok : {A B : Type 0} (a : A) (b : B) → ◌≡◌ {A = Result A B} (Ok a) (Err b) → ⊥
err_ne_ok a b e = cc

ok_same : {A B : Type 0} (a b : A) → ◌≡◌ {A = Result A B} (Ok a) (Ok b) → a ≡ b
ok_same a b e = cc

err_same : {A B : Type 0} (a b : B) → ◌≡◌ {A = Result A B} (Err a) (Err b) → a ≡ b
err_same a b e = cc

module _ (bytes : List ℕ) (texts : List (List ℕ)) where
  abbrev right : (ts rest : List Lexeme) → Matches flat inputs_text ts rest → Inputs → Type 0
  right ts rest m is = AreInputs texts (inputs_of m) is.items

  same_tokens : (ts us : List Token) → AreTokens bytes ts → AreTokens bytes us → ts ≡ us
  same_tokens ts us h k = ok_same ts us (same_answer bytes (Ok ts) (Ok us) h k)

  uncut : (ts : List Token) (r : ReadRefusal) → AreTokens bytes ts → IsRefused bytes r → ⊥
  uncut ts r h k = err_ne_ok ts r (same_answer bytes (Ok ts) (Err r) h k)

  moved : (x : Result Inputs ReadRefusal) (h : IsRead bytes texts x) (ts : List Token) → AreTokens bytes ts → IsTokensAnswer bytes ts texts x
  moved x h ts are = subst (λ us. IsTokensAnswer bytes us texts x) (same_tokens h.tokens ts h.are are) h.right

  pub one_reading : NoneTwice texts → (x y : Result Inputs ReadRefusal) → (x ≡ Err refusal.Memory → ⊥) → (y ≡ Err refusal.Memory → ⊥) → IsInputsReading bytes texts x → IsInputsReading bytes texts y → IsSame x y
  one_reading once (Ok a) (Ok b) m n h k =
      let l = moved (Ok b) k h.tokens h.are in
      one_inputs texts once (inputs_of h.right.0.tree) a.items b.items h.right.2
      (subst (λ t. AreInputs texts (inputs_of t) b.items) (same_tree flat flat_is_system inputs_text refl (λ ts rest m. file_bad m) bytes h.tokens l.0 h.right.0) l.2)
  one_reading once (Ok a) (Err s) m n h k = elim k [
    | inl e ↦ absurd (n (ap Err e))
    | inr k ↦ elim k [
      | inl c ↦ uncut h.tokens s h.are c
      | inr r ↦ no_refusal flat flat_is_system inputs_text refl (λ ts rest m. file_bad m) bytes h.tokens right a s (λ e. n (ap Err e)) h.right (moved (Err s) r h.tokens h.are)
    ]
  ]
  one_reading once (Err r) (Ok b) m n h k = elim h [
    | inl e ↦ absurd (m (ap Err e))
    | inr h ↦ elim h [
      | inl c ↦ uncut k.tokens r k.are c
      | inr i ↦ no_refusal flat flat_is_system inputs_text refl (λ ts rest m. file_bad m) bytes k.tokens right b r (λ e. m (ap Err e)) k.right (moved (Err r) i k.tokens k.are)
    ]
  ]
  one_reading once (Err r) (Err s) m n h k = elim h [
    | inl e ↦ absurd (m (ap Err e))
    | inr h ↦ elim k [
      | inl e ↦ absurd (n (ap Err e))
      | inr k ↦ elim h [
        | inl c ↦ elim k [ inl d ↦ err_same r s (same_answer bytes (Err r) (Err s) c d) | inr j ↦ absurd (uncut j.tokens r j.are c) ]
        | inr i ↦ elim k [
          | inl d ↦ absurd (uncut i.tokens s i.are d)
          | inr j ↦ one_refusal flat flat_is_system inputs_text refl (λ ts rest m. file_bad m) bytes i.tokens right r s (λ e. m (ap Err e)) (λ e. n (ap Err e)) i.right (moved (Err s) j i.tokens i.are)
        ]
      ]
    ]
  ]

-- a refusal says nothing of the table
module _ (texts later : List (List ℕ)) where
  tokens_refusal_is : (bytes : List ℕ) (tokens : List Token) (r : ReadRefusal) → IsTokensAnswer bytes tokens texts (Err r) → IsTokensAnswer bytes tokens later (Err r)
  tokens_refusal_is bytes tokens (refusal.Syntax p) h = h
  tokens_refusal_is bytes tokens (refusal.NotUtf8 n) h = h
  tokens_refusal_is bytes tokens (refusal.Duplicate p) h = h
  tokens_refusal_is bytes tokens (refusal.TooManyClasses p) h = h
  tokens_refusal_is bytes tokens (refusal.Version n) h = h
  tokens_refusal_is bytes tokens (refusal.NotCanonical n) h = h
  tokens_refusal_is bytes tokens (refusal.EmptyWord p) h = h
  tokens_refusal_is bytes tokens (refusal.EntryLiterals p) h = h
  tokens_refusal_is bytes tokens (refusal.Variable p) h = h
  tokens_refusal_is bytes tokens (refusal.InputLiterals p) h = h
  tokens_refusal_is bytes tokens (refusal.TooManyInputs p) h = h
  tokens_refusal_is bytes tokens refusal.Memory h = h

  pub refusal_is : (bytes : List ℕ) (r : ReadRefusal) → IsInputsReading bytes texts (Err r) → IsInputsReading bytes later (Err r)
  refusal_is bytes r (inl e) = inl e
  refusal_is bytes r (inr (inl c)) = inr (inl c)
  refusal_is bytes r (inr (inr h)) = inr (inr (record { tokens = h.tokens; are = h.are; right = tokens_refusal_is bytes h.tokens r h.right }))

-- readings stay right
module _ (texts later : List (List ℕ)) (grows : Grows texts later) where
  pub reading_stays : (bytes : List ℕ) (x : Result Inputs ReadRefusal) → IsInputsReading bytes texts x → IsInputsReading bytes later x
  reading_stays bytes (Ok a) h = record { tokens = h.tokens; are = h.are; right = (h.right.0, h.right.1, inputs_stay texts later grows (inputs_of h.right.0.tree) a.items h.right.2) }
  reading_stays bytes (Err r) h = refusal_is texts later bytes r h

-- inputs that were read are ground
module _ (texts : List (List ℕ)) where
  ground : (w : WrittenInput) (x : Input) → InputHas (λ u. NoFeed (word_of u)) w → IsFaultless w → IsInput texts w x → IsGround x
  ground w x fed f h =
      let F = firsts [] w.literals in
      let few = f.few in
      let l = numbered_length texts 1 F x.literals h.literals in
      record {
        start = bag_const x.start (bag_made texts none_met w.start (record { bag = x.start; again = None }) none_met none_is_numbering h.start);
        literals = literals_const texts 1 F x.literals h.literals;
        different = literals_differ texts 1 F x.literals (omega (arith, few)) (firsts_each (LiteralHas (λ u. NoFeed (word_of u))) [] w.literals fed.literals) (firsts_once [] w.literals) h.literals;
        few = omega (arith, few, l);
      }

  all_ground : (ws : List WrittenInput) (xs : List Input) → Each (InputHas (λ u. NoFeed (word_of u))) ws → Each IsFaultless ws → AreInputs texts ws xs → Each IsGround xs
  all_ground [] [] fed f h = tt
  all_ground [] (x ∷ xs) fed f h = absurd h
  all_ground (w ∷ ws) [] fed f h = absurd h
  all_ground (w ∷ ws) (x ∷ xs) fed f h = (ground w x fed.0 f.0 h.0, all_ground ws xs fed.1 f.1 h.1)

  pub inputs_ground : (bytes : List ℕ) (is : Inputs) → IsInputsReading bytes texts (Ok is) → Each IsGround is.items
  inputs_ground bytes is h =
      let m = h.right.0.tree in
      let ws = inputs_of m in
      let v = variable_left (lexemes bytes h.tokens) in
      let plain = plain_inputs m (none_left (lexemes bytes h.tokens) (no_complaint_at Variable v (append-nil_right (inputs_bad 0 ws) (complaint_at Variable v) h.right.1))) in
      all_ground ws is.items (inputs_fed m (none_fed bytes h.tokens h.are)) (all_faultless 0 ws plain (append-nil_left (inputs_bad 0 ws) (complaint_at Variable v) h.right.1)) h.right.2

-- the table behind inputs is one
pub one_table : (bytes : List ℕ) (old new later : List (List ℕ)) → HasTable bytes old new → HasTable bytes old later → new ≡ later
one_table bytes old new later h k =
    let puts = subst (λ ts. PutsTokens bytes ts old later) (same_tokens bytes old k.tokens h.tokens k.are h.are) k.puts in
    h.puts.table ∙ ap (λ m. with_texts old (inputs_names m)) (one_tree flat flat_is_system Lexeme-set refl h.puts.tree puts.tree) ∙ sym puts.table

pub table_once : (bytes : List ℕ) (old new : List (List ℕ)) → NoneTwice old → HasTable bytes old new → NoneTwice new
table_once bytes old new once h = subst NoneTwice (sym h.puts.table) (with_texts-once old (inputs_names h.puts.tree) once)

pub table_grows : (bytes : List ℕ) (old new : List (List ℕ)) → HasTable bytes old new → Grows old new
table_grows bytes old new h = subst (Grows old) (sym h.puts.table) (with_texts-grows old (inputs_names h.puts.tree))

-- what is right by the tables before and behind is right by the one behind
pub reading_of : (bytes : List ℕ) (old new : List (List ℕ)) (x : Result Inputs ReadRefusal) → IsInputsAnswer bytes old new x → IsInputsReading bytes new x
reading_of bytes old new (Ok is) h = h.0
reading_of bytes old new (Err r) h = h

-- behind one old table one answer is right
pub one_answer : (bytes : List ℕ) (old : List (List ℕ)) → NoneTwice old → (new later : List (List ℕ)) (x y : Result Inputs ReadRefusal) → (x ≡ Err refusal.Memory → ⊥) → (y ≡ Err refusal.Memory → ⊥)
    → IsInputsAnswer bytes old new x → IsInputsAnswer bytes old later y → IsSame x y
one_answer bytes old once new later (Ok a) (Ok b) m n h k =
    one_reading bytes new (table_once bytes old new once h.1) (Ok a) (Ok b) m n h.0 (subst (λ t. IsInputsReading bytes t (Ok b)) (sym (one_table bytes old new later h.1 k.1)) k.0)
one_answer bytes old once new later (Ok a) (Err s) m n h k = one_reading bytes new (table_once bytes old new once h.1) (Ok a) (Err s) m n h.0 (refusal_is later new bytes s k)
one_answer bytes old once new later (Err r) (Ok b) m n h k = one_reading bytes later (table_once bytes old later once k.1) (Err r) (Ok b) m n (refusal_is new later bytes r h) k.0
one_answer bytes old once new later (Err r) (Err s) m n h k = one_reading bytes old once (Err r) (Err s) m n (refusal_is new old bytes r h) (refusal_is later old bytes s k)
