-- Bindings of variables to names, oldest first: what they make of a term, and when they solve equations.
use Rattle.std.specs.Prelude.{◌≡◌, ℕ, List, [], ◌∷◌, ◌++◌, Bool, true, false, nat_eq, if◌then◌else◌, Option, Some, None}
use Rattle.gr_base.specs.Lists.{IsAmong}
use Rattle.gr_terms.specs.Networks.{Term, name, variable, Assertion, equate, Agrees}
use Rattle.gr_terms.specs.declared.Sym.{Sym}
use Rattle.td_tree.specs.TreeNetworks.{TreeSlot}
use Rattle.sm_match.specs.declared.bindings.Bound.{Bound}

-- what a tree says, with equations of its terms
abbrev pub TreeNetwork : Type 0
TreeNetwork = List (Assertion ℕ TreeSlot)

-- the name that a variable is bound to first
abbrev pub name_of : List Bound → ℕ → Option Sym
name_of [] v = None
name_of (b ∷ bs) v = if nat_eq b.var v then Some b.name else name_of bs v

-- a name or a variable itself, where there is no name
abbrev pub name_or : ℕ → Option Sym → Term ℕ
name_or v None = variable v
name_or v (Some s) = name s.0

-- what the bindings make of a term
abbrev pub value_by : List Bound → Term ℕ → Term ℕ
value_by bs (name a) = name a
value_by bs (variable v) = name_or v (name_of bs v)

-- the bindings make both sides of each equation one, and each of them is one of the equations
pub record Solves (bs : List Bound) (N : TreeNetwork) : Type 0 where
  pub equations : (e : Assertion ℕ TreeSlot) → IsAmong N e → (x y : Term ℕ) × (e ≡ equate x y)
  pub holds : (x y : Term ℕ) → IsAmong N (equate x y) → value_by bs x ≡ value_by bs y
  pub needed : (v : ℕ) (s : Sym) → name_of bs v ≡ Some s → IsAmong N (equate (variable v) (name s.0))

-- the new bindings stand behind the old ones
abbrev pub GoesOn : List Bound → List Bound → Type 0
GoesOn old new = (more : List Bound) × (new ≡ old ++ more)

-- equations were added to those that the bindings solve, and the new bindings solve all; or together they clash
abbrev pub Equates : TreeNetwork → List Bound → List Bound → Bool → Type 0
Equates E old new true = GoesOn old new × ((N : TreeNetwork) → Solves old N → Solves new (N ++ E))
Equates E old new false = GoesOn old new × ((N : TreeNetwork) → Solves old N → Agrees (N ++ E) → ⊥)
