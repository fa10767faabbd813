-- The loop over the inputs of a file.
use Rattle.std.proofs.Common.{◌≡◌, ℕ, suc, ◌+◌, List, [], ◌∷◌, ◌++◌, length, true, false, Option, refl, sym, ◌∙◌, ap, subst, arith, append_assoc, append-nil}
use Rattle.std.proofs.lemmas.Slice.Zip.{AllZip-long, all_zipped_more}
use Rattle.gr_symbols.proofs.NumberLemmas.{Grows-trans}
use Rattle.gr_grammar.specs.Grammars.{begins, Runs, took, tree_of, Rounds, start, round, round_items}
use Rattle.gr_grammar.proofs.Loops.{ended, ended-items}
use Rattle.gr_reader.specs.Lexemes.{Lexeme}
use Rattle.gr_reader.specs.Classes.{flat}
use Rattle.gr_reader.specs.Complaints.{all_noted}
use Rattle.gr_reader.specs.declared.complaints.Complaint.{Complaint}
use Rattle.gr_reader.proofs.ComplaintLemmas.{noted_append}
use Rattle.gr_feats.specs.Passing.{PassesTexts}
use Rattle.gr_feats.proofs.PassingLemmas.{texts_stay, texts_then}
use Rattle.sm_input.specs.declared.input.Input.{Input}
use Rattle.sm_input.specs.Complaints.{input_bad, inputs_bad}
use Rattle.sm_input.specs.Grammars.{WrittenInput, input_text, input_of, inputs_of}
use Rattle.sm_input.specs.Inputs.{IsInput}
use Rattle.sm_input.specs.Reading.{Apart, IsFaultless, AreFaultless, PutsInput, PutsInputs}
use Rattle.sm_input.proofs.TableLemmas.{no_inputs, inputs_more}

pub bad-push : (number : ℕ) (ws : List WrittenInput) (w : WrittenInput) → inputs_bad number (ws ++ w ∷ []) ≡ inputs_bad number ws ++ input_bad (number + length ws) w
bad-push number [] w = append-nil (input_bad number w) ∙ ap (λ n. input_bad n w) (let e : number ≡ number + 0 = omega arith in e)
bad-push number (v ∷ ws) w =
    ap (λ z. input_bad number v ++ z) (bad-push (suc number) ws w ∙ ap (λ n. inputs_bad (suc number) ws ++ input_bad n w) (let e : suc number + length ws ≡ number + suc (length ws) = omega arith in e))
    ∙ sym (append_assoc (input_bad number v) (inputs_bad (suc number) ws) (input_bad (number + length (v ∷ ws)) w))

-- the inputs that were read by then
pub record AreRead (ts : List Lexeme) (old : List (List ℕ)) (b : Option Complaint) (now : List Lexeme) (new : List (List ℕ)) (row : List Input) (c : Option Complaint) : Type 0 where
  pub rounds : Rounds flat input_text ts now
  pub are : Apart new (λ texts. (c ≡ all_noted b (inputs_bad 0 (round_items (λ ts rest m. input_of m) rounds))) × AreFaultless texts (round_items (λ ts rest m. input_of m) rounds) row)
  pub passes : PassesTexts old new ts now
  pub table : Apart new (λ texts. PutsInputs old new ts now)

pub none_read : (ts : List Lexeme) (old : List (List ℕ)) (b : Option Complaint) (row : List Input) → row ≡ [] → AreRead ts old b ts old row b
none_read ts old b row e = record { rounds = start; are = λ later grows apart. (refl, subst (AreFaultless later []) (sym e) tt); passes = texts_stay; table = λ later grows apart. no_inputs }

pub read_more : (ts : List Lexeme) (old : List (List ℕ)) (b : Option Complaint) (now : List Lexeme) (new : List (List ℕ)) (row : List Input) (c : Option Complaint) (rest : List Lexeme) (next : List (List ℕ)) (x : Input) (more : List Input) (d : Option Complaint) (number : ℕ)
    → AreRead ts old b now new row c → begins flat input_text now ≡ true → (r : Runs flat input_text now (took rest)) → PassesTexts new next now rest → number ≡ length row
    → Apart next (λ texts. (d ≡ all_noted c (input_bad number (input_of (tree_of r)))) × (IsFaultless (input_of (tree_of r)) → IsInput texts (input_of (tree_of r)) x)) → Apart next (λ texts. PutsInput new next now rest) → more ≡ row ++ x ∷ []
    → AreRead ts old b rest next more d
read_more ts old b now new row c rest next x more d number on begun r passes is one puts e =
    let ws = round_items (λ ts rest m. input_of m) on.rounds in
    let w = input_of (tree_of r) in
    record {
      rounds = round on.rounds begun r;
      are = λ later grows apart.
          let h = on.are later (Grows-trans new next later passes.grows grows) apart in
          let k = one later grows apart in
          let R : WrittenInput → Input → Type 0 = λ w x. IsFaultless w → IsInput later w x in
          let n : number ≡ 0 + length ws = is ∙ AllZip-long R ws row h.1 ∙ (let z : length ws ≡ 0 + length ws = omega arith in z) in (
            k.0 ∙ ((λ i. all_noted (h.0 i) (input_bad (n i) w)) ∙ (sym (noted_append b (inputs_bad 0 ws) (input_bad (0 + length ws) w)) ∙ ap (all_noted b) (sym (bad-push 0 ws w)))),
            subst (AreFaultless later (ws ++ w ∷ [])) (sym e) (all_zipped_more R ws row w x h.1 k.1),
          );
      passes = texts_then on.passes passes;
      table = λ later grows apart. inputs_more (on.table later (Grows-trans new next later passes.grows grows) apart) (puts later grows apart);
    }

pub all_read : (ts : List Lexeme) (old : List (List ℕ)) (b : Option Complaint) (now : List Lexeme) (new : List (List ℕ)) (row : List Input) (c : Option Complaint)
    → (on : AreRead ts old b now new row c) → (done : begins flat input_text now ≡ false)
    → Apart new (λ texts. (c ≡ all_noted b (inputs_bad 0 (inputs_of (tree_of (ended on.rounds done))))) × AreFaultless texts (inputs_of (tree_of (ended on.rounds done))) row)
all_read ts old b now new row c on done later grows apart =
    subst (λ ws. (c ≡ all_noted b (inputs_bad 0 ws)) × AreFaultless later ws row) (sym (ended-items (λ ts rest m. input_of m) on.rounds done)) (on.are later grows apart)
