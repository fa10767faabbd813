-- Rows of parts that are read in a loop.
use Rattle.std.proofs.Common.{◌≡◌, ℕ, List, [], ◌∷◌, ◌++◌, false, refl, sym, subst}
use Rattle.std.specs.List.{AllZip}
use Rattle.gr_symbols.specs.Numbers.{Grows}
use Rattle.gr_grammar.specs.Grammars.{Grammar, star, begins, Matches, Runs, took, tree_of, items}
use Rattle.gr_grammar.proofs.Loops.{ended, ended-items}
use Rattle.gr_reader.specs.Lexemes.{Lexeme}
use Rattle.gr_reader.specs.Classes.{Class, flat}
use Rattle.gr_feats.specs.Numberings.{Numbering}
use Rattle.gr_feats.proofs.ReadingLemmas.{ReadsOn}

-- the whole row, where the loop ends
pub row_ended : {W Y : Type 0} (g : Grammar Class) (f : (ts rest : List Lexeme) → Matches flat g ts rest → W) (R : List (List ℕ) → List W → Y × Numbering → Type 0)
    (ts : List Lexeme) (old : List (List ℕ)) (x : Y × Numbering) (now : List Lexeme) (new : List (List ℕ)) (y : Y × Numbering)
    → ReadsOn g f R ts old x now new y → begins flat g now ≡ false → ((later : List (List ℕ)) → R later [] x)
    → (r : Runs flat (star g) ts (took now)) × ((later : List (List ℕ)) → Grows new later → R later (items f (tree_of r)) y)
row_ended g f R ts old x now new y on b none = (
  ended on.rounds b,
  λ later grows. subst (λ ws. R later ws y) (sym (ended-items f on.rounds b)) (on.reads [] later grows (none later)),
)

pub AllZip-push : {A B : Type 0} (R : A → B → Type 0) (xs : List A) (ys : List B) (x : A) (y : B) → AllZip R xs ys → R x y → AllZip R (xs ++ x ∷ []) (ys ++ y ∷ [])
AllZip-push R [] [] x y h r = (r, tt)
AllZip-push R [] (b ∷ ys) x y h r = absurd h
AllZip-push R (a ∷ xs) [] x y h r = absurd h
AllZip-push R (a ∷ xs) (b ∷ ys) x y h r = (h.0, AllZip-push R xs ys x y h.1 r)

-- the last of a row
pub AllZip-last : {A B : Type 0} (R : A → B → Type 0) (xs : List A) (ys : List B) (y : B) → AllZip R xs (ys ++ y ∷ [])
    → (front : List A) × (x : A) × (xs ≡ front ++ x ∷ []) × AllZip R front ys × R x y
AllZip-last R [] [] y h = absurd h
AllZip-last R [] (b ∷ ys) y h = absurd h
AllZip-last R (a ∷ []) [] y h = ([], a, refl, tt, h.0)
AllZip-last R (a ∷ b ∷ xs) [] y h = absurd h.1
AllZip-last R (a ∷ xs) (b ∷ ys) y h =
    let r = AllZip-last R xs ys y h.1 in
    (a ∷ r.0, r.1, (λ i. a ∷ r.2 i), (h.0, r.3), r.4)
