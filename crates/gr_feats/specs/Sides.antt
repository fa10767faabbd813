-- Terms that are read before their variables have numbers.
use Rattle.std.specs.Prelude.{◌≡◌, ℕ, List, Option, Some, None, ⊤}
use Rattle.gr_terms.specs.declared.Term.{Term}
use Rattle.gr_terms.specs.declared.Term.TheVariants.{Const, Var}
use Rattle.gr_symbols.specs.Numbers.{Names}
use Rattle.gr_feats.specs.declared.terms.Side.{Side}
use Rattle.gr_feats.specs.declared.terms.Side.TheVariants.{Name, Variable}
use Rattle.gr_feats.specs.Grammars.{Written, a_name, a_variable}
use Rattle.gr_feats.specs.Numberings.{Numbering, Meets, with_own}

-- the side has the number of the written name, or that of the variable's name
abbrev pub IsSide : List (List ℕ) → Written → Side → Type 0
IsSide texts (a_name t) (Name s) = Names texts s.0 t
IsSide texts (a_name t) (Variable s) = ⊥
IsSide texts (a_variable t) (Name s) = ⊥
IsSide texts (a_variable t) (Variable s) = Names texts s.0 t

abbrev pub IsPerhapsSide : List (List ℕ) → Option Written → Option Side → Type 0
IsPerhapsSide texts None None = ⊤
IsPerhapsSide texts None (Some s) = ⊥
IsPerhapsSide texts (Some w) None = ⊥
IsPerhapsSide texts (Some w) (Some s) = IsSide texts w s

-- the term of a side
abbrev pub IsNumbered : Numbering → Side → Term → Numbering → Type 0
IsNumbered before (Name s) x after = (x ≡ Const s) × (after ≡ before)
IsNumbered before (Variable s) (Const name) after = ⊥
IsNumbered before (Variable s) (Var k) after = Meets before s.0 k after

-- the handle and the predicate of a literal: of one side the handle is left out
abbrev pub IsHead : Numbering → Side → Option Side → Term × Term → Numbering → Type 0
IsHead before first None x after = (x.0 ≡ Var before.given) × IsNumbered (with_own before) first x.1 after
IsHead before first (Some second) x after = (mid : Numbering) × IsNumbered before first x.0 mid × IsNumbered mid second x.1 after
