-- Places of an input, by the predicate of the literal there and its number of arguments.
use Rattle.std.specs.Prelude.{◌≡◌, ℕ, suc, List, [], ◌∷◌, length, Bool, true, false, nat_eq, ◌&&◌, if◌then◌else◌, Option, Some, None}
use Rattle.gr_base.specs.Lists.{Each, IsAmong}
use Rattle.gr_terms.specs.declared.Sym.{Sym}
use Rattle.gr_terms.specs.declared.Term.{Term}
use Rattle.gr_terms.specs.declared.Term.TheVariants.{Const, Var}
use Rattle.gr_terms.specs.declared.Literal.{Literal}
use Rattle.sm_match.specs.declared.index.Index.{Index}
use Rattle.sm_match.specs.declared.index.Row.{Row}

-- the name that a term is; a variable may be any
abbrev pub wanted_name : Term → Option Sym
wanted_name (Const s) = Some s
wanted_name (Var v) = None

-- the term may be this name, or any
abbrev pub may_be : Option Sym → Term → Bool
may_be None x = true
may_be (Some s) (Const p) = nat_eq s.0 p.0
may_be (Some s) (Var v) = false

-- the literal has so many arguments and this predicate, or any
abbrev pub suits : Option Sym → ℕ → Literal → Bool
suits pred arity g = nat_eq arity (length g.args) && may_be pred g.pred

-- the places of the literals that suit, where the first literal has number n
abbrev pub suiting : ℕ → Option Sym → ℕ → List Literal → List ℕ
suiting n pred arity [] = []
suiting n pred arity (g ∷ gs) = if suits pred arity g then (n ∷ suiting (suc n) pred arity gs) else suiting (suc n) pred arity gs

-- the row has the places that suit it
abbrev pub IsRow : List Literal → Row → Type 0
IsRow input r = r.places.items ≡ suiting 0 r.pred r.arity input

-- the predicate that a row is for: any, or the literal's
abbrev pub row_name : Bool → Literal → Option Sym
row_name any g = if any then None else wanted_name g.pred

-- the row is for literals like this one
abbrev pub IsFor : Bool → Literal → Row → Type 0
IsFor any g r = (r.pred ≡ row_name any g) × (r.arity ≡ length g.args)

-- each row is right for the input, and each of some literals has one
pub record AreRows (any : Bool) (input some : List Literal) (rows : List Row) : Type 0 where
  pub right : Each (IsRow input) rows
  pub all : (g : Literal) → IsAmong some g → (r : Row) × IsAmong rows r × IsFor any g r

-- the index of the input
pub record IsIndex (input : List Literal) (index : Index) : Type 0 where
  pub named : AreRows false input input index.named.items
  pub any : AreRows true input input index.any.items
