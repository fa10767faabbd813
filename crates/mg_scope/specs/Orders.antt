-- Names that are settled, the callers of names, and the fewest steps to a goal, as tables have them.
use Rattle.std.specs.Prelude.{◌≡◌, ℕ, suc, ◌<◌, ◌≤◌, List, [], ◌∷◌, ◌++◌, length, Option, Some, None, ◌==◌, if◌then◌else◌, get_or, unwrap_or, ◌↔◌, ◌⊎◌}
use Rattle.gr_base.specs.Lists.{IsAmong, Each}
use Rattle.gr_terms.specs.declared.Sym.{Sym}
use Rattle.mg_syntax.specs.declared.item.Item.{Item}
use Rattle.mg_scope.specs.Classes.{firsts}
use Rattle.mg_scope.specs.Faults.{StandsIn}
use Rattle.mg_scope.specs.Tables.{Cells, value_at}
use Rattle.mg_scope.specs.Cycles.{LeadsTo}

-- something stands at the name
abbrev pub IsSet : Cells → Sym → Type 0
IsSet t x = (n : ℕ) × (value_at t x ≡ Some n)

-- the rank of a name, or 0
abbrev pub rank_of : Cells → Sym → ℕ
rank_of t x = unwrap_or (value_at t x) 0

-- what a name mentions has no higher rank
abbrev pub AreRanks : (Sym → List Sym) → Cells → Type 0
AreRanks next t = (a b : Sym) → IsAmong (next a) b → rank_of t b ≤ rank_of t a

-- what one of these items' classes mentions has no higher rank
abbrev pub AreRanksIn : (Sym → List Sym) → Cells → List Item → Type 0
AreRanksIn next t items = (a b : Sym) → StandsIn items a → IsAmong (next a) b → rank_of t b ≤ rank_of t a

-- the name is that of an earlier class, or what it mentions has no higher rank
abbrev pub Falls : (Sym → List Sym) → Cells → List Item → Sym → Type 0
Falls next t before a = StandsIn before a ⊎ Each (λ x. rank_of t x ≤ rank_of t a) (next a)

-- rows of callers, and the number of the row of each name
abbrev pub Rows : Type 0
Rows = Cells × List (List Sym)

abbrev pub row_of : Rows → Option ℕ → List Sym
row_of r None = []
row_of r (Some i) = get_or r.1 i []

unfoldable pub callers_of : Rows → Sym → List Sym
callers_of r x = row_of r (value_at r.0 x)

-- each row is that of one name
abbrev pub AreRows : Rows → Type 0
AreRows r =
    ((x : Sym) (i : ℕ) → value_at r.0 x ≡ Some i → i < length r.1)
    × ((x y : Sym) (i : ℕ) → value_at r.0 x ≡ Some i → value_at r.0 y ≡ Some i → x ≡ y)

abbrev pub AddsCaller : Rows → Rows → Sym → Sym → Type 0
AddsCaller old new name caller = (x : Sym) → callers_of new x ≡ (if x.0 == name.0 then callers_of old x ++ caller ∷ [] else callers_of old x)

-- the caller is added to the row of each of the names
abbrev pub AddsToEach : Rows → Rows → List Sym → Sym → Type 0
AddsToEach old new names caller =
    (a b : Sym) → IsAmong (callers_of new b) a ↔ (IsAmong (callers_of old b) a ⊎ ((a ≡ caller) × IsAmong names b))

-- where the item is a class, it is added to the rows of the names that it mentions
abbrev pub AddsItem : (Sym → List Sym) → Rows → Rows → Item → Type 0
AddsItem next old new i =
    (a b : Sym) → IsAmong (callers_of new b) a ↔ (IsAmong (callers_of old b) a ⊎ (IsAmong (next a) b × StandsIn (i ∷ []) a))

-- the rows have just those of these items' classes that mention a name
abbrev pub AreCallersIn : (Sym → List Sym) → Rows → List Item → Type 0
AreCallersIn next r items = (a b : Sym) → IsAmong (callers_of r b) a ↔ (IsAmong (next a) b × StandsIn items a)

-- the rows have just those that mention a name
abbrev pub AreCallers : (Sym → List Sym) → Rows → Type 0
AreCallers next r = (a b : Sym) → IsAmong (callers_of r b) a ↔ IsAmong (next a) b

-- the table has the fewest steps by which each name leads to the goal
abbrev pub AreSteps : (Sym → List Sym) → Sym → Cells → Type 0
AreSteps next goal t =
    ((a : Sym) (n : ℕ) → value_at t a ≡ Some n → LeadsTo next goal n a)
    × ((a : Sym) (n : ℕ) → LeadsTo next goal n a → (i : ℕ) × (value_at t a ≡ Some i) × (i ≤ n))

-- of the names, this is the first one at the fewest steps
abbrev pub IsNearest : Cells → List Sym → ℕ → Sym → Type 0
IsNearest t names n b =
    (before after : List Sym) × (names ≡ before ++ b ∷ after) × (value_at t b ≡ Some n)
    × Each (λ c. (i : ℕ) → value_at t c ≡ Some i → n < i) before × Each (λ c. (i : ℕ) → value_at t c ≡ Some i → n ≤ i) (b ∷ after)

-- the names that had no number got this one, and went into the list of those that were found
pub record MeetsAll (old new : Cells) (names : List Sym) (count : ℕ) (found more : List Sym) : Type 0 where
  pub kept : (a : Sym) (n : ℕ) → value_at old a ≡ Some n → value_at new a ≡ Some n
  pub fresh : (a : Sym) (n : ℕ) → value_at new a ≡ Some n → (value_at old a ≡ Some n) ⊎ ((n ≡ count) × IsAmong names a)
  pub met : (a : Sym) → IsAmong names a → IsSet new a
  pub listed : (a : Sym) → value_at new a ≡ Some count → (value_at old a ≡ Some count) ⊎ IsAmong more a
  pub only : (a : Sym) → IsAmong more a → IsAmong found a ⊎ (value_at new a ≡ Some count)
  pub grows : (a : Sym) → IsAmong found a → IsAmong more a

-- the nearest of the names so far, if one of them leads to the goal
abbrev pub IsBest : Cells → List Sym → Option (ℕ × Sym) → Type 0
IsBest t names None = Each (λ c. value_at t c ≡ None) names
IsBest t names (Some (n, b)) = IsNearest t names n b

-- the table has the names that were seen, and the list has each of them once, by first place
abbrev pub AreFirsts : Cells → List Sym → List Sym → Type 0
AreFirsts met names seen = ((x : Sym) → IsSet met x ↔ IsAmong seen x) × (names ≡ firsts seen)
