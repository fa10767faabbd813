-- What was read of the tokens of a file, with its first complaint, is the right answer.
use Rattle.std.proofs.Common.{◌≡◌, ℕ, suc, ◌≤◌, List, [], ◌∷◌, ◌++◌, false, Option, Some, None, Result, Ok, Err, inl, inr, refl, sym, ◌∙◌, ap, subst}
use Rattle.std.specs.Prelude.{nat_lt, ◌==◌, OnOk, slice_range, length}
use Rattle.std.proofs.lemmas.Bool.{true≢false, cases_lt, lt-ltb}
use Rattle.gr_base.specs.Lists.{Each, NoneTwice}
use Rattle.gr_base.proofs.ListLemmas.{append-nil_left, append-nil_right}
use Rattle.gr_grammar.specs.Grammars.{Matches}
use Rattle.gr_tokens.specs.declared.Token.{Token}
use Rattle.gr_tokens.specs.declared.ReadRefusal.{ReadRefusal}
use Rattle.gr_reader.specs.Lexemes.{Lexeme, lexemes}
use Rattle.gr_reader.specs.Classes.{flat}
use Rattle.gr_reader.specs.Complaints.{all_noted}
use Rattle.gr_reader.specs.Files.{IsFileAnswer, IsEnd}
use Rattle.gr_reader.specs.Levels.{level_behind}
use Rattle.gr_reader.specs.Parts.{Reads}
use Rattle.gr_reader.specs.declared.brackets.TheConstants.{BRACKET_LIMIT}
use Rattle.gr_reader.specs.declared.reader.Stop.{Stop}
use Rattle.gr_reader.specs.declared.complaints.Complaint.{Complaint}
use Rattle.gr_reader.specs.declared.complaints.Fault.TheVariants.{Duplicate, Variable, InputLiterals, TooManyInputs}
use Rattle.gr_reader.proofs.ComplaintLemmas.{noted_append}
use Rattle.sm_input.specs.declared.input.Input.{Input}
use Rattle.gr_tokens.specs.Answers.{AreTokens}
use Rattle.sm_input.specs.Answers.{Inputs, IsTokensAnswer, PutsTokens, IsInputsAnswer, noted_at}
use Rattle.gr_feats.specs.Complaints.{complaint_if, complaint_at, again_left}
use Rattle.gr_feats.proofs.ComplaintLemmas.{no_complaint_if, no_complaint_at}
use Rattle.sm_input.specs.Complaints.{input_bad, inputs_bad, variable_left, file_bad}
use Rattle.sm_input.specs.Firsts.{firsts}
use Rattle.sm_input.specs.Grammars.{WrittenInput, inputs_text, inputs_of}
use Rattle.sm_input.specs.Inputs.{AreInputs}
use Rattle.sm_input.specs.Reading.{Apart, IsFaultless, AreFaultless, IsPlain, InputHas, PutsInputs}
use Rattle.gr_grammar.proofs.OneTree.{one_tree}
use Rattle.gr_reader.proofs.WholeFiles.{reads_map, reads_and, all_of_them, whole_answer, answer_map, answer_has}
use Rattle.gr_reader.proofs.LexemeLemmas.{Lexeme-set}
use Rattle.gr_reader.proofs.Systems.{flat_is_system}
use Rattle.gr_symbols.proofs.NumberLemmas.{Grows-refl}
use Rattle.sm_input.proofs.Plain.{none_left, plain_inputs}

not_more : (n : ℕ) → nat_lt 24 n ≡ false → n ≤ 24
not_more n e = elim (cases_lt 24 n) [ inl l ↦ absurd (true≢false (sym (lt-ltb 24 n l) ∙ e)) | inr l ↦ l ]

-- inputs without complaints, in which no variable stands, have no fault
faultless : (number : ℕ) (w : WrittenInput) → InputHas IsPlain w → input_bad number w ≡ [] → IsFaultless w
faultless number w plain e =
    let many = complaint_if (nat_lt 24 (length (firsts [] w.literals))) InputLiterals w.left in
    let count = complaint_if (number == 4096) TooManyInputs w.left in
    let again = complaint_at Duplicate (again_left [] w.start) in
    record {
      plain = plain;
      once = no_complaint_at Duplicate (again_left [] w.start) (append-nil_right count again (append-nil_right many (count ++ again) e));
      few = not_more (length (firsts [] w.literals)) (no_complaint_if (nat_lt 24 (length (firsts [] w.literals))) InputLiterals w.left (append-nil_left many (count ++ again) e));
    }

pub all_faultless : (number : ℕ) (ws : List WrittenInput) → Each (InputHas IsPlain) ws → inputs_bad number ws ≡ [] → Each IsFaultless ws
all_faultless number [] plain e = tt
all_faultless number (w ∷ ws) plain e = (
  faultless number w plain.0 (append-nil_left (input_bad number w) (inputs_bad (suc number) ws) e),
  all_faultless (suc number) ws plain.1 (append-nil_right (input_bad number w) (inputs_bad (suc number) ws) e),
)

pub all_right : (texts : List (List ℕ)) (ws : List WrittenInput) (xs : List Input) → Each IsFaultless ws → AreFaultless texts ws xs → AreInputs texts ws xs
all_right texts [] [] f z = tt
all_right texts [] (x ∷ xs) f z = absurd z
all_right texts (w ∷ ws) [] f z = absurd z
all_right texts (w ∷ ws) (x ∷ xs) f z = (z.0 f.0, all_right texts ws xs f.1 z.1)

noted_at_is : (c : Option Complaint) (left : Option ℕ) → noted_at c left ≡ all_noted c (complaint_at Variable left)
noted_at_is c None = refl
noted_at_is c (Some n) = refl

-- brackets are closed behind each input, and stand three deep at most
inputs_are_level : level_behind BRACKET_LIMIT 0 inputs_text ≡ Some 0
inputs_are_level = refl

-- nothing is wrong with the inputs of a text without complaints
no_fault : {ts : List Lexeme} (m : Matches flat inputs_text ts []) → file_bad m ≡ [] → Each IsFaultless (inputs_of m)
no_fault {ts} m none =
    let ws = inputs_of m in
    let v = variable_left ts in
    let plain = plain_inputs m (none_left ts (no_complaint_at Variable v (append-nil_right (inputs_bad 0 ws) (complaint_at Variable v) none))) in
    all_faultless 0 ws plain (append-nil_left (inputs_bad 0 ws) (complaint_at Variable v) none)

module _ (bytes : List ℕ) (tokens : List Token) (old texts : List (List ℕ)) where
  abbrev bad : (ts rest : List Lexeme) → Matches flat inputs_text ts rest → List Complaint
  bad ts rest m = file_bad m

  -- inputs by a table, with complaints that were noted behind those from before
  abbrev found : Option Complaint → Option Complaint → (ts rest : List Lexeme) → Matches flat inputs_text ts rest → Inputs → Type 0
  found b c ts rest m is = Apart texts (λ later. (c ≡ all_noted b (inputs_bad 0 (inputs_of m))) × AreFaultless later (inputs_of m) is.items)

  abbrev put : (ts rest : List Lexeme) → Type 0
  put ts rest = Apart texts (λ later. PutsInputs old texts ts rest)

  abbrev right : (ts rest : List Lexeme) → Matches flat inputs_text ts rest → Inputs → Type 0
  right ts rest m is = AreFaultless texts (inputs_of m) is.items × PutsInputs old texts ts rest

  -- all complaints: those of the inputs, and that of the first variable
  all_of : (b c d : Option Complaint) (rest : List Lexeme) (m : Matches flat inputs_text (lexemes bytes tokens) rest) → b ≡ None → d ≡ noted_at c (variable_left (lexemes bytes tokens))
      → c ≡ all_noted b (inputs_bad 0 (inputs_of m)) → d ≡ all_noted None (file_bad m)
  all_of b c d rest m none note is =
      let v = variable_left (lexemes bytes tokens) in
      note ∙ (noted_at_is c v ∙ (ap (λ u. all_noted u (complaint_at Variable v)) (is ∙ ap (λ z. all_noted z (inputs_bad 0 (inputs_of m))) none) ∙ sym (noted_append None (inputs_bad 0 (inputs_of m)) (complaint_at Variable v))))

  module _ (once : NoneTwice texts) (b c d : Option Complaint) (none : b ≡ None) (note : d ≡ noted_at c (variable_left (lexemes bytes tokens))) where
    both : (rest : List Lexeme) (read : Result Inputs Stop) (x : Result Inputs ReadRefusal)
        → Reads flat inputs_text (found b c) (lexemes bytes tokens) rest read → OnOk read (put (lexemes bytes tokens) rest) → IsEnd bytes tokens rest d read x
        → IsFileAnswer flat inputs_text bad right bytes tokens x
    both rest read x r p e =
        let all = lexemes bytes tokens in
        whole_answer inputs_text refl inputs_are_level bytes tokens bad right rest d read x
        (reads_map flat inputs_text (λ ts rest m is. found b c ts rest m is × put ts rest) all rest
        (λ ts rest m is. (d ≡ all_noted None (bad ts rest m)) × right ts rest m is) read
        (λ m is k.
        let f = k.0 texts (Grows-refl texts) once in
        (all_of b c d rest m none note f.0, (f.1, k.1 texts (Grows-refl texts) once)))
        (reads_and flat inputs_text (found b c) all rest put read r p))
        e

    module _ (now rest : List Lexeme) (read : Result Inputs Stop) (x : Result Inputs ReadRefusal) (is : now ≡ lexemes bytes (slice_range tokens 0 (length tokens)))
        (r : Reads flat inputs_text (found b c) now rest read) (p : OnOk read (put now rest)) (e : IsEnd bytes tokens rest d read x) where
      ended : IsFileAnswer flat inputs_text bad right bytes tokens x
      ended =
          let same = all_of_them bytes tokens now is in
          both rest read x (subst (λ z. Reads flat inputs_text (found b c) z rest read) same r) (subst (λ z. OnOk read (put z rest)) same p) e

      pub tokens_answer : IsTokensAnswer bytes tokens texts x
      tokens_answer = answer_map flat inputs_text bytes tokens bad right (λ ts rest m is. AreInputs texts (inputs_of m) is.items) x (λ m is f k. all_right texts (inputs_of m) is.items (no_fault m f) k.0) ended

      pub tokens_table : OnOk x (PutsTokens bytes tokens old texts)
      tokens_table = answer_has flat inputs_text bytes tokens bad right x
          (λ m is f k. record {
            tree = k.1.tree;
            table = k.1.table (subst (λ n. Each IsFaultless (inputs_of n)) (one_tree flat flat_is_system Lexeme-set refl m k.1.tree) (no_fault m f));
          }) ended

-- the answer for the tokens is that for the bytes
pub read_there : (bytes : List ℕ) (tokens : List Token) (old new : List (List ℕ)) (answer : Result Inputs ReadRefusal) → AreTokens bytes tokens → IsTokensAnswer bytes tokens new answer
    → OnOk answer (PutsTokens bytes tokens old new) → IsInputsAnswer bytes old new answer
read_there bytes tokens old new (Ok is) are right puts = (record { tokens = tokens; are = are; right = right }, record { tokens = tokens; are = are; puts = puts })
read_there bytes tokens old new (Err refusal) are right puts = inr (inr (record { tokens = tokens; are = are; right = right }))
