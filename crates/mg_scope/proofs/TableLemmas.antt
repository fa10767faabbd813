-- Tables: nothing stands in cells of earlier rounds, and what is put stands at its name alone.
use Rattle.std.specs.Prelude.{◌≡◌, ℕ, zero, suc, ◌+◌, ◌-◌, ◌<◌, ◌≤◌, List, [], ◌∷◌, ◌++◌, length, Bool, true, false, Option, Some, None, ◌==◌, if◌then◌else◌, get_or}
use Rattle.std.proofs.Common.{refl, ap, sym, ◌∙◌, subst, arith, true≢false, set, replicate}
use Rattle.std.proofs.lemmas.Bool.{eq-eqb, eqb-true}
use Rattle.std.proofs.lemmas.List.{get_or_past, get_or-set_same, get_or-set_other, get_or_default, get_or-replicate, get_or_append_left}
use Rattle.std.proofs.Math.Seq.{get_or-append_right}
use Rattle.gr_terms.specs.declared.Sym.{Sym}
use Rattle.gr_terms.proofs.ViewLemmas.{same_sym}
use Rattle.mg_scope.specs.declared.table.Cell.{Cell}
use Rattle.mg_scope.specs.Tables.{Cells, no_cell, cell_value, value_at, IsTable, IsBlank, Puts, AreSame}

-- a test of numbers that are equal, and of others
pub same_number : (a b : ℕ) → a ≡ b → (a == b) ≡ true
same_number a b e = eq-eqb a b e

pub other_number : (a b : ℕ) → (a ≡ b → ⊥) → (a == b) ≡ false
other_number a b n = by (a == b) refl
  where
    by : (t : Bool) → (a == b) ≡ t → (a == b) ≡ false
    by true e = absurd (n (eqb-true a b e))
    by false e = e

-- what a cell has in the round, and in another one
pub cell_now : (round : ℕ) (cell : Cell) → cell.round ≡ round → cell_value round cell ≡ Some cell.value
cell_now round cell e = rw (same_number cell.round round e)

pub cell_past : (round : ℕ) (cell : Cell) → (cell.round ≡ round → ⊥) → cell_value round cell ≡ None
cell_past round cell n = rw (other_number cell.round round n)

pub value_at-is : (t : Cells) (x : Sym) → value_at t x ≡ cell_value t.0 (get_or t.1 x.0 no_cell)
unfolding value_at
value_at-is t x = refl

-- where all rounds are past, nothing stands in the table
pub blank : (t : Cells) → ((k : ℕ) → (get_or t.1 k no_cell).round < t.0) → IsBlank t
blank t past x = value_at-is t x ∙ cell_past t.0 (get_or t.1 x.0 no_cell) (λ e. let h = past x.0 in omega (arith, e, h))

pub value_at-past : (t : Cells) (x : Sym) → 0 < t.0 → length t.1 ≤ x.0 → value_at t x ≡ None
value_at-past t x begun beyond =
    value_at-is t x ∙ ap (cell_value t.0) (get_or_past t.1 x.0 no_cell beyond) ∙ cell_past t.0 no_cell (λ e. omega (arith, e, begun))

pub value_at-now : (t : Cells) (x : Sym) (cell : Cell) → x.0 < length t.1 → cell ≡ get_or t.1 x.0 cell → cell.round ≡ t.0 → value_at t x ≡ Some cell.value
value_at-now t x cell within is now =
    value_at-is t x ∙ ap (cell_value t.0) (sym (is ∙ get_or_default t.1 x.0 cell no_cell within)) ∙ cell_now t.0 cell now

pub value_at-other : (t : Cells) (x : Sym) (cell : Cell) → x.0 < length t.1 → cell ≡ get_or t.1 x.0 cell → (cell.round ≡ t.0 → ⊥) → value_at t x ≡ None
value_at-other t x cell within is past =
    value_at-is t x ∙ ap (cell_value t.0) (sym (is ∙ get_or_default t.1 x.0 cell no_cell within)) ∙ cell_past t.0 cell past

-- more cells of no round change nothing
pub get_or-grown : (cells : List Cell) (n k : ℕ) → get_or (cells ++ replicate n no_cell) k no_cell ≡ get_or cells k no_cell
get_or-grown [] n k = filled n k
  where
    filled : (n k : ℕ) → get_or (replicate n no_cell) k no_cell ≡ no_cell
    filled zero k = refl
    filled (suc n) zero = refl
    filled (suc n) (suc k) = filled n k
get_or-grown (c ∷ cells) n zero = refl
get_or-grown (c ∷ cells) n (suc k) = get_or-grown cells n k

-- the cells once there is one at the place
pub get_or-resized : (cells more : List Cell) (n : ℕ) → more ≡ cells ++ replicate n no_cell → (k : ℕ) → get_or more k no_cell ≡ get_or cells k no_cell
get_or-resized cells more n e k = ap (λ (z : List Cell). get_or z k no_cell) e ∙ get_or-grown cells n k

-- what stands at each name after a cell is written
pub puts : (old : Cells) (r : ℕ) (cells : List Cell) (y : Sym) (v : ℕ) → old.0 ≡ r → ((k : ℕ) → get_or cells k no_cell ≡ get_or old.1 k no_cell) → y.0 < length cells
    → Puts old (r, set cells y.0 (record { round = r; value = v })) y v
puts old r cells y v round same within x = by (x.0 == y.0) refl
  where
    new : Cell
    new = record { round = r; value = v }

    by : (t : Bool) → (x.0 == y.0) ≡ t → value_at (r, set cells y.0 new) x ≡ (if x.0 == y.0 then Some v else value_at old x)
    by true e =
        let here : x.0 ≡ y.0 = eqb-true x.0 y.0 e in
        rw e (value_at-is (r, set cells y.0 new) x
        ∙ ap (λ (k : ℕ). cell_value r (get_or (set cells y.0 new) k no_cell)) here
        ∙ ap (cell_value r) (get_or-set_same cells y.0 new no_cell within) ∙ cell_now r new refl)
    by false e =
        let there : x.0 ≡ y.0 → ⊥ = λ h. true≢false (sym (same_number x.0 y.0 h) ∙ e) in
        rw e (value_at-is (r, set cells y.0 new) x
        ∙ ap (cell_value r) (get_or-set_other cells y.0 x.0 new no_cell there ∙ same x.0)
        ∙ ap (λ (k : ℕ). cell_value k (get_or old.1 x.0 no_cell)) (sym round) ∙ sym (value_at-is old x))

-- rounds stay past where the cells are the same, and where one of the round is written
pub past_same : (old new : List Cell) (r : ℕ) → ((k : ℕ) → get_or new k no_cell ≡ get_or old k no_cell) → ((k : ℕ) → (get_or old k no_cell).round ≤ r)
    → (k : ℕ) → (get_or new k no_cell).round ≤ r
past_same old new r same past k = subst (λ (z : Cell). z.round ≤ r) (sym (same k)) (past k)

pub past_set : (old new : List Cell) (r place v : ℕ) → ((k : ℕ) → get_or new k no_cell ≡ get_or old k no_cell) → ((k : ℕ) → (get_or old k no_cell).round ≤ r)
    → (k : ℕ) → (get_or (set new place (record { round = r; value = v })) k no_cell).round ≤ r
past_set old new r place v same past k = each new place k (past_same old new r same past)
  where
    each : (cells : List Cell) (i k : ℕ) → ((j : ℕ) → (get_or cells j no_cell).round ≤ r) → (get_or (set cells i (record { round = r; value = v })) k no_cell).round ≤ r
    each [] i k p = p k
    each (c ∷ cells) zero zero p = omega arith
    each (c ∷ cells) zero (suc k) p = p (suc k)
    each (c ∷ cells) (suc i) zero p = p zero
    each (c ∷ cells) (suc i) (suc k) p = each cells i k (λ j. p (suc j))

-- a name is another one, or the same one
pub data Compared (x y : Sym) : Type 0 where
  same_name : x ≡ y → Compared x y
  other_name : (x ≡ y → ⊥) → Compared x y

pub compared : (x y : Sym) → Compared x y
compared x y = by (x.0 == y.0) refl
  where
    by : (t : Bool) → (x.0 == y.0) ≡ t → Compared x y
    by true e = same_name (same_sym x y (eqb-true x.0 y.0 e))
    by false e = other_name (λ h. true≢false (sym (same_number x.0 y.0 (ap (λ (s : Sym). s.0) h)) ∙ e))

-- what is put stands at its name, and the other names keep what they have
pub puts_here : (old new : Cells) (y : Sym) (v : ℕ) → Puts old new y v → value_at new y ≡ Some v
puts_here old new y v put = put y ∙ ap (λ b. if b then Some v else value_at old y) (same_number y.0 y.0 refl)

pub puts_there : (old new : Cells) (y : Sym) (v : ℕ) (x : Sym) → Puts old new y v → (x ≡ y → ⊥) → value_at new x ≡ value_at old x
puts_there old new y v x put other =
    put x ∙ ap (λ b. if b then Some v else value_at old x) (other_number x.0 y.0 (λ e. other (same_sym x y e)))

-- equal cells have equal values
pub same_values : (r : ℕ) (old new : List Cell) → ((k : ℕ) → get_or new k no_cell ≡ get_or old k no_cell) → AreSame (r, old) (r, new)
same_values r old new same x = value_at-is (r, new) x ∙ ap (cell_value r) (same x.0) ∙ sym (value_at-is (r, old) x)
