-- Which names lead to which, in how many steps, and the cycle that is printed, where `next` gives what a name mentions.
use Rattle.std.specs.Prelude.{◌≡◌, ℕ, zero, suc, ◌<◌, ◌≤◌, List, [], ◌∷◌, ◌++◌}
use Rattle.gr_base.specs.Lists.{IsAmong, Each}
use Rattle.gr_terms.specs.declared.Sym.{Sym}

module _ (next : Sym → List Sym) where
  -- a leads to the goal by n mentions
  abbrev pub LeadsTo : Sym → ℕ → Sym → Type 0
  LeadsTo goal zero a = a ≡ goal
  LeadsTo goal (suc n) a = (b : Sym) × IsAmong (next a) b × LeadsTo goal n b

  -- no name leads back to itself
  abbrev pub HasNoCycle : Type 0
  HasNoCycle = (c : Sym) (n : ℕ) → LeadsTo c (suc n) c → ⊥

  -- of the names, b leads to the goal by the fewest mentions, and is the first that does by so few
  abbrev pub IsFirstNearest : Sym → List Sym → Sym → Type 0
  IsFirstNearest goal names b =
      (before after : List Sym) × (n : ℕ) × (names ≡ before ++ b ∷ after) × LeadsTo goal n b
      × Each (λ c. (i : ℕ) → LeadsTo goal i c → n < i) before × Each (λ c. (i : ℕ) → LeadsTo goal i c → n ≤ i) (b ∷ after)

  -- the names behind a on the way to the goal, which is left out
  abbrev pub IsWayBack : Sym → Sym → List Sym → Type 0
  IsWayBack goal a [] = IsFirstNearest goal (next a) goal
  IsWayBack goal a (b ∷ bs) = IsFirstNearest goal (next a) b × (b ≡ goal → ⊥) × IsWayBack goal b bs

  -- the names of the shortest way from c back to itself, beginning with c
  abbrev pub IsCycle : Sym → List Sym → Type 0
  IsCycle c names = (others : List Sym) × (names ≡ c ∷ others) × IsWayBack c c others
