-- Lists of attributes with values, by rising attribute, as a `Bag` holds them.
use Rattle.std.specs.Prelude.{◌≡◌, ℕ, ◌<◌, ◌≤◌, List, ◌∷◌, ◌++◌, map, length, take, drop, slice_get, Some}
use Rattle.gr_base.specs.Lists.{IsAmong, Each, IsRising}
use Rattle.gr_terms.specs.declared.Sym.{Sym}

-- the attributes rise, so each stands once
abbrev pub IsListed : {X : Type 0} → List (Sym × X) → Type 0
IsListed pairs = IsRising (map (λ p. p.0.0) pairs)

-- the attribute stands in a pair, and it stands in none
abbrev pub HasAttribute : {X : Type 0} → List (Sym × X) → Sym → Type 0
HasAttribute {X} pairs attr = (value : X) × IsAmong pairs (attr, value)

abbrev pub LacksAttribute : {X : Type 0} → List (Sym × X) → Sym → Type 0
LacksAttribute {X} pairs attr = (value : X) → IsAmong pairs (attr, value) → ⊥

-- the new list is the old one with x at some place more
abbrev pub Puts : {A : Type 0} → List A → List A → A → Type 0
Puts {A} old new x = (front back : List A) × (old ≡ front ++ back) × (new ≡ front ++ x ∷ back)

-- the pair at a place has the attribute
abbrev pub StandsAt : {X : Type 0} → List (Sym × X) → Sym → ℕ → Type 0
StandsAt {X} pairs attr place = (value : X) × (slice_get pairs place ≡ Some (attr, value))

-- the attributes before a place are lower, and those from there on are higher
pub record FitsAt {X : Type 0} (pairs : List (Sym × X)) (attr : Sym) (place : ℕ) : Type 0 where
  pub within : place ≤ length pairs
  pub lower : Each (λ p. p.0.0 < attr.0) (take place pairs)
  pub higher : Each (λ p. attr.0 < p.0.0) (drop place pairs)
