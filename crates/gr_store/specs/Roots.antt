-- What a list of bindings, oldest first, makes of a term.
use Rattle.std.specs.Prelude.{◌≡◌, ◌≢◌, ◌≤◌, List, [], ◌∷◌, ◌⊎◌, nat_eq, if◌then◌else◌, length, take}
use Rattle.gr_terms.specs.declared.Sym.{Sym}
use Rattle.gr_terms.specs.declared.SlotId.{SlotId}
use Rattle.gr_terms.specs.declared.Term.{Term}
use Rattle.gr_terms.specs.declared.Term.TheVariants.{Const, Var}
use Rattle.gr_store.specs.declared.bindings.Bound.{Bound}

-- the term, but for the bound variable what it is bound to
abbrev pub bound_by : Bound → Term → Term
bound_by e (Const s) = Const s
bound_by e (Var i) = if nat_eq i e.var then e.to else Var i

-- each binding in turn
abbrev pub root_by : List Bound → Term → Term
root_by [] x = x
root_by (e ∷ trail) x = root_by trail (bound_by e x)

-- what bindings of nodes, taken for variables, make of a slot
abbrev pub slot_root : List Bound → SlotId → Term
slot_root trail s = root_by trail (Var s.0)

-- g joins a with b and what is joined with them, beyond what f joins, and nothing else
pub record Joins (f g : Term → Term) (a b : Term) : Type 0 where
  pub keeps : (x y : Term) → f x ≡ f y → g x ≡ g y
  pub joins : g a ≡ g b
  pub only : (x y : Term) → g x ≡ g y → (f x ≡ f y) ⊎ (((f x ≡ f a) ⊎ (f x ≡ f b)) × ((f y ≡ f a) ⊎ (f y ≡ f b)))

-- the two are names, and not the same
pub record AreDifferentNames (x y : Term) : Type 0 where
  pub p : Sym
  pub q : Sym
  pub x_is : x ≡ Const p
  pub y_is : y ≡ Const q
  pub differ : p ≢ q

-- the new trail goes on from the old one
pub record Extends (old new : List Bound) : Type 0 where
  pub longer : length old ≤ length new
  pub earlier : take (length old) new ≡ old
  pub keeps : (x y : Term) → root_by old x ≡ root_by old y → root_by new x ≡ root_by new y
