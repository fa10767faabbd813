-- The places of the first classes of all names.
use Rattle.std.specs.Prelude.{◌≡◌, ℕ, List, Option, Some, None, nat_eq, if◌then◌else◌}
use Rattle.std.specs.declared.hash.FoldHasher.{FoldHasher}
use Rattle.std.specs.declared.hash.BuildHasherDefault.{BuildHasherDefault}
use Rattle.std.specs.HashMap.{get, HashMap}
use Rattle.gr_terms.specs.declared.Sym.{Sym}
use Rattle.td_canon.specs.declared.tree_set.ClassTrees.{ClassTrees}
use Rattle.tg_grammar.specs.Grammars.{IsFirstNamed, LacksClass}

abbrev pub Places : Type 0
Places = HashMap ℕ ℕ (BuildHasherDefault FoldHasher)

-- a first class of the name stands at the place, or none has the name
abbrev pub IsPlace : List ClassTrees → Sym → Option ℕ → Type 0
IsPlace classes name None = LacksClass classes name
IsPlace classes name (Some at) = (class : ClassTrees) × IsFirstNamed classes name at class

abbrev pub ArePlaces : List ClassTrees → Places → Type 0
ArePlaces classes places = (name : Sym) → IsPlace classes name (get nat_eq places name.0)

abbrev pub or_else : Option ℕ → Option ℕ → Option ℕ
or_else None o = o
or_else (Some k) o = Some k

-- the value is put where nothing stands at the key
abbrev pub PutsFirst : Places → Places → ℕ → ℕ → Type 0
PutsFirst old new key v = (q : ℕ) → get nat_eq new q ≡ or_else (get nat_eq old q) (if nat_eq key q then Some v else None)
