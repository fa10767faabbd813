-- The canonical bag of a slot in a network.
use Rattle.std.specs.Prelude.{ℕ, ◌≤◌, List, ◌↔◌}
use Rattle.gr_base.specs.Lists.{IsAmong}
use Rattle.gr_terms.specs.declared.Sym.{Sym}
use Rattle.gr_terms.specs.declared.Term.{Term}
use Rattle.gr_terms.specs.declared.Term.TheVariants.{Const, Var}
use Rattle.gr_terms.specs.Networks as net
use Rattle.gr_terms.specs.Networks.{name, variable, AreLinked, HasValue}
use Rattle.gr_terms.specs.Bags.{IsListed, HasAttribute, LacksAttribute}

-- what stands for a value: the name that it is linked with, or where there is none the least variable that it is linked with
abbrev pub StandsFor : List (net.Assertion ℕ ℕ) → net.Term ℕ → Term → Type 0
StandsFor N x (Const p) = AreLinked N x (name p.0)
StandsFor N x (Var v) = ((a : ℕ) → AreLinked N x (name a) → ⊥) × (AreLinked N x (variable v) × ((w : ℕ) → AreLinked N x (variable w) → v ≤ w))

-- the bag has the attributes of the slot and of those linked with it, each once, with what stands for the values
pub record IsCanonicalBag (N : List (net.Assertion ℕ ℕ)) (slot : ℕ) (bag : List (Sym × Term)) : Type 0 where
  pub listed : IsListed bag
  pub pairs : (attr : Sym) (value : Term) → IsAmong bag (attr, value) ↔ ((x : net.Term ℕ) × HasValue N slot attr.0 x × StandsFor N x value)

-- the bag has the attribute, or the slot hasn't
abbrev pub IsDone : List (net.Assertion ℕ ℕ) → ℕ → Sym → List (Sym × Term) → Type 0
IsDone N slot attr bag = (x : net.Term ℕ) → HasValue N slot attr.0 x → HasAttribute bag attr

-- the bag lacks the attribute, and this stands for the values that the slot has
pub record IsMissing (N : List (net.Assertion ℕ ℕ)) (slot : ℕ) (attr : Sym) (bag : List (Sym × Term)) (value : Term) : Type 0 where
  pub lacks : LacksAttribute bag attr
  pub of : net.Term ℕ
  pub has : HasValue N slot attr.0 of
  pub stands : StandsFor N of value
