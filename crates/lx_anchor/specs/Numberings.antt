-- Trees with their variables numbered by first meeting.
use Rattle.std.specs.Prelude.{◌≡◌, ℕ, List, map, slice_get, Some}
use Rattle.gr_terms.specs.Views.{term_of}
use Rattle.gr_terms.specs.declared.Term.{Term}
use Rattle.td_tree.specs.declared.Tree.{Tree}
use Rattle.td_canon.specs.Renaming.{rename_tree}
use Rattle.td_canon.specs.Writing.{meet_all}
use Rattle.tg_model.specs.DenseTrees.{IsDense}

-- at its own number, each variable that was met has its place among them
abbrev pub AreKept : List ℕ → List ℕ → Type 0
AreKept places met = (v k : ℕ) → slice_get met k ≡ Some v → slice_get places v ≡ Some k

-- f gives each variable that was met its place among them
abbrev pub Numbers : List ℕ → (ℕ → ℕ) → Type 0
Numbers met f = (v k : ℕ) → slice_get met k ≡ Some v → f v ≡ k

-- The terms were met in this order, and each variable in what holds them was written as its number, which stays when more are met
pub record IsNumbered {A : Type 0} (old new : List ℕ) (terms : List Term) (write : (ℕ → ℕ) → A) (result : A) : Type 0 where
  pub met : new ≡ meet_all old (map term_of terms)
  pub written : (f : ℕ → ℕ) → Numbers new f → result ≡ write f

-- the new tree is the old one with its variables renamed, no two alike, and they are dense
pub record IsNumberedTree (old new : Tree) : Type 0 where
  pub there : ℕ → ℕ
  pub back : ℕ → ℕ
  pub undone : (v : ℕ) → back (there v) ≡ v
  pub renamed : rename_tree there old ≡ new
  pub dense : IsDense new
