-- Where a reading of a whole file stops.
use Rattle.std.proofs.Common.{◌≡◌, ℕ, zero, suc, ◌+◌, ◌<◌, List, [], ◌∷◌, ◌++◌, length, take, drop, refl, ap, sym, ◌∙◌, subst, arith}
use Rattle.std.specs.Prelude.{Option, None, Some, IsNone, IfSome, ◌↔◌, Result, Ok, Err}
use Rattle.gr_base.specs.Lists.{Each}
use Rattle.gr_grammar.specs.Grammars.{End, took, failed, tree_of}
use Rattle.gr_grammar.proofs.Readings.{stop_fault}
use Rattle.gr_text.specs.Cursors.{Progress}
use Rattle.tg_syntax.specs.Breaks.{Notes, none, noted, Obeys, IsFirstBreak}
use Rattle.tg_syntax.specs.Trees.{PROPERTY}
use Rattle.tg_syntax.specs.Files.{system, file}
use Rattle.tg_syntax.specs.Visits.{begun}
use Rattle.tg_syntax.specs.Reading.{Read, Reads}
use Rattle.tg_syntax.specs.Answers.{BreaksAt, at_name, at_byte, IsGrammarFile}
use Rattle.tg_syntax.proofs.FileSystem.{is_system, file_is_clear}

abbrev Stopped : List ℕ → ℕ → Type 0
Stopped bytes n = (at : List ℕ) × BreaksAt bytes at × (n ≡ length at)

some_note : {xs : List (List ℕ)} {n : ℕ} → Notes xs None (Some n) → (at : List ℕ) × IsFirstBreak xs at × (n ≡ length at)
some_note (noted at f) = (at, f, refl)

no_note : {xs : List (List ℕ)} → Notes xs None None → Each Obeys xs
no_note (none o) = o

pub stops_at_name : {bytes : List ℕ} {e : End ℕ} {b : Option ℕ} (n : ℕ) → b ≡ Some n → Read file bytes e None b → Stopped bytes n
stops_at_name {bytes} {e} {b} n i x =
    let f = some_note (subst (λ z. Notes (begun PROPERTY x.run) None z) i x.notes) in
    (f.0, at_name e x.run f.0 f.1, f.2)

pub obeying : {bytes : List ℕ} {e : End ℕ} {b : Option ℕ} → b ≡ None → (x : Read file bytes e None b) → Each Obeys (begun PROPERTY x.run)
obeying {bytes} {e} {b} i x = no_note (subst (λ z. Notes (begun PROPERTY x.run) None z) i x.notes)

pub stops_behind : {bytes rest : List ℕ} {b : Option ℕ} → b ≡ None → (length rest ≡ 0 → ⊥) → Read file bytes (took rest) None b → Stopped bytes (length rest)
stops_behind {bytes} {rest} i l x = (rest, at_byte (took rest) x.run rest (obeying i x) (stop_fault system is_system file file_is_clear (took rest) x.run (refl, omega arith)), refl)

pub stops_there : {bytes rest : List ℕ} {b : Option ℕ} → b ≡ None → Read file bytes (failed rest) None b → Stopped bytes (length rest)
stops_there {bytes} {rest} i x = (rest, at_byte (failed rest) x.run rest (obeying i x) (stop_fault system is_system file file_is_clear (failed rest) x.run refl), refl)

all_taken : {bytes : List ℕ} {b : Option ℕ} (rest : List ℕ) → b ≡ None → length rest ≡ 0 → Read file bytes (took rest) None b → IsGrammarFile bytes
all_taken [] i l x = record { run = x.run; text = tree_of x.run; obey = obeying i x }
all_taken (t ∷ ts) i l x = absurd (omega arith)

pub whole_file : {bytes rest : List ℕ} {b : Option ℕ} → b ≡ None → length rest ≡ 0 → Read file bytes (took rest) None b → IsGrammarFile bytes
whole_file {rest = rest} i l x = all_taken rest i l x

-- a cursor goes over the bytes
one_more : (bytes : List ℕ) (i b : ℕ) (l : List ℕ) → drop i bytes ≡ b ∷ l → (take (suc i) bytes ≡ take i bytes ++ b ∷ []) × (drop (suc i) bytes ≡ l)
one_more [] zero b l e = let k : [] ≡ b ∷ l = e in cc
one_more [] (suc i) b l e = let k : [] ≡ b ∷ l = e in cc
one_more (x ∷ xs) zero b l e = (let k : x ∷ xs ≡ b ∷ l = e in let h : x ≡ b = cc in ap (λ z. z ∷ []) h, let k : x ∷ xs ≡ b ∷ l = e in cc)
one_more (x ∷ xs) (suc i) b l e = let r = one_more xs i b l e in (ap (λ z. x ∷ z) r.0, r.1)

pub steps_on : (bytes : List ℕ) (i : ℕ) (x : Option ℕ) (old new : Progress) → i < length bytes → old.read ≡ take i bytes → old.left ≡ drop i bytes → (IsNone x ↔ (old.left ≡ [])) → IfSome x (λ b. old.left ≡ b ∷ new.left) → IfSome x (λ b. new.read ≡ old.read ++ b ∷ []) →
    (new.read ≡ take (i + 1) bytes) × (new.left ≡ drop (i + 1) bytes)
steps_on bytes i None old new l r d n a b = absurd (nothing bytes i l (sym d ∙ n.0 refl))
  where
    nothing : (bytes : List ℕ) (i : ℕ) → i < length bytes → drop i bytes ≡ [] → ⊥
    nothing [] i l e = absurd (omega arith)
    nothing (x ∷ xs) zero l e = let k : x ∷ xs ≡ [] = e in cc
    nothing (x ∷ xs) (suc i) l e = nothing xs i (omega arith) e
steps_on bytes i (Some b) old new l r d n a h =
    let s = one_more bytes i b new.left (sym d ∙ a) in
    let up : suc i ≡ i + 1 = omega arith in
    (h ∙ (ap (λ z. z ++ b ∷ []) r ∙ (sym s.0 ∙ ap (λ k. take k bytes) up)), sym s.1 ∙ ap (λ k. drop k bytes) up)

pub stops_by_name : {A E : Type 0} {bytes : List ℕ} {b : Option ℕ} (rest : List ℕ) (x : Result A E) (n : ℕ) → b ≡ Some n → Reads file bytes rest None b x → Stopped bytes n
stops_by_name rest (Ok v) n i r = stops_at_name n i r
stops_by_name rest (Err v) n i r = stops_at_name n i r
