-- Variables numbered by first meeting.
use Rattle.std.specs.Prelude.{◌≡◌, ℕ, ◌+◌, ◌<◌, ◌≤◌, List, [], ◌∷◌, ◌++◌, map, ◌⊎◌}
use Rattle.gr_base.specs.Lists.{IsAmong, Each, NoneTwice, IsRising}

-- the variables with a name that were met, each by the number of its name and with its own number, and how many numbers were given, those of the variables without a name too
pub record Numbering : Type 0 where
  pub named : List (ℕ × ℕ)
  pub given : ℕ

-- the numbering of no variable
abbrev pub none_met : Numbering
none_met = record { named = []; given = 0 }

-- a variable with this name gets the next number
abbrev pub with_name : Numbering → ℕ → Numbering
with_name met name = record { named = met.named ++ (name, met.given) ∷ []; given = met.given + 1 }

-- a variable without a name gets the next number
abbrev pub with_own : Numbering → Numbering
with_own met = record { named = met.named; given = met.given + 1 }

-- the variable with this name has this number: the one that it has already, or where it is new the next one
abbrev pub Meets : Numbering → ℕ → ℕ → Numbering → Type 0
Meets before name number after =
    (IsAmong before.named (name, number) × (after ≡ before))
    ⊎ (((k : ℕ) → IsAmong before.named (name, k) → ⊥) × ((number ≡ before.given) × (after ≡ with_name before name)))

-- each name has one number, and the numbers rise in the order of meeting and were all given
pub record IsNumbering (met : Numbering) : Type 0 where
  pub once : NoneTwice (map (λ p. p.0) met.named)
  pub rising : IsRising (map (λ p. p.1) met.named)
  pub below : Each (λ p. p.1 < met.given) met.named

-- the numbering goes on from the old one, so each variable keeps its number
pub record GoesOnFrom (old new : Numbering) : Type 0 where
  pub more : List (ℕ × ℕ)
  pub named : new.named ≡ old.named ++ more
  pub given : old.given ≤ new.given
