-- Each list of tokens is a text of a clear grammar or has a first place, and a reader of it has an answer.
use Rattle.std.proofs.Common.{◌≡◌, ℕ, ◌-◌, List, [], ◌∷◌, length, true, refl, ◌⊎◌, inl, inr, arith}
use Rattle.std.specs.Prelude.{Result, Ok, Err}
use Rattle.gr_grammar.specs.declared.brackets.Turn.{Turn}
use Rattle.gr_grammar.specs.Grammars.{Grammar, System, IsSystem, Matches, IsText, IsFault, is_clear, End, took, failed, Runs, tree_of}
use Rattle.gr_grammar.specs.Depths.{IsCut}
use Rattle.gr_grammar.specs.Readings.{IsReading}
use Rattle.gr_grammar.proofs.Exact.{fault_of, fault_behind}
use Rattle.gr_grammar.proofs.EveryRun.{every_run}
use Rattle.gr_grammar.proofs.Cuts.{cut_at}
use Rattle.gr_grammar.proofs.Answers.{taken, stopped, left_over, at_deep}

module _ {C T : Type 0} (S : System C T) (K : IsSystem S) (g : Grammar C) (clear : is_clear S g ≡ true) where
  text_or_fault : {ts : List T} (e : End T) → Runs S g ts e → IsText S g ts ⊎ ((rest : List T) × IsFault S g ts rest)
  text_or_fault (took []) r = inl (tree_of r)
  text_or_fault (took (t ∷ w)) r = inr (t ∷ w, fault_behind S K t w clear r)
  text_or_fault (failed left) r = inr (left, fault_of S K clear r)

  pub text_or_place : (ts : List T) → IsText S g ts ⊎ ((rest : List T) × IsFault S g ts rest)
  text_or_place ts = let p = every_run S K g clear ts in text_or_fault p.0 p.1

  module _ {A : Type 0} (turn : T → Turn) (limit : ℕ) (value : (ts rest : List T) → Matches S g ts rest → A) where
    reading_of : {ts part : List T} (deep : List T) (e : End T) → IsCut turn limit ts part deep → Runs S g part e → (x : Result A ℕ) × IsReading S turn limit g value ts x
    reading_of {ts} {part} [] (took []) cut r = (Ok (value part [] (tree_of r)), taken S K g clear turn limit value [] cut (omega arith) (omega arith) r refl)
    reading_of {ts} {part} (t ∷ w) (took []) cut r = (Err (length part), at_deep S K g clear turn limit value [] cut r (omega arith) (omega arith))
    reading_of {ts} {part} deep (took (t ∷ w)) cut r = (Err (length part - length (t ∷ w)), left_over S K g clear turn limit value (t ∷ w) cut r (omega arith))
    reading_of {ts} {part} deep (failed left) cut r = (Err (length part - length left), stopped S K g clear turn limit value cut r)

    pub some_reading : (ts : List T) → (x : Result A ℕ) × IsReading S turn limit g value ts x
    some_reading ts =
        let cut = cut_at turn limit ts in
        let p = every_run S K g clear _ in
        reading_of _ p.0 cut p.1
