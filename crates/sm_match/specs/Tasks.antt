-- What a search of the instances of one lexical tree is for, and where it stands.
use Rattle.std.specs.Prelude.{◌≡◌, ℕ, ◌≤◌, ⊤, List, [], ◌∷◌, ◌++◌, length, Bool, true, false}
use Rattle.gr_base.specs.Lists.{Each, NoneTwice}
use Rattle.gr_terms.specs.LiteralViews.{literals_of, AreConst}
use Rattle.gr_terms.specs.declared.Literal.{Literal}
use Rattle.td_tree.specs.Trees.{AreTreeNodes, HasListedBags}
use Rattle.td_tree.specs.declared.Tree.{Tree}
use Rattle.tg_model.specs.Instances.{FitsPlace, place_equations, MayStandAt}
use Rattle.tg_model.specs.declared.instance.Instance.{Instance}
use Rattle.sm_match.specs.declared.bindings.Bound.{Bound}
use Rattle.sm_match.specs.declared.search.Task.{Task}
use Rattle.sm_match.specs.Bindings.{Solves, GoesOn}
use Rattle.sm_match.specs.Index.{IsIndex}

-- what matching relies on: a tree whose bags have each attribute once, and few literals without variables, with their index
pub record IsTask (task : Task) : Type 0 where
  pub nodes : AreTreeNodes task.tree.now.nodes
  pub bags : HasListedBags task.tree.now
  pub ground : Each AreConst task.input.now
  pub few : length task.input.now ≤ 24
  pub index : IsIndex task.input.now task.index.now

-- the first literals, as many as there are places, fit these
abbrev pub FitFirst : List Literal → List Literal → List ℕ → Type 0
FitFirst input ls [] = ⊤
FitFirst input [] (p ∷ ps) = ⊥
FitFirst input (l ∷ ls) (p ∷ ps) = FitsPlace input l p × FitFirst input ls ps

-- the first literals of a tree stand at these places, all different, and the bindings solve what this equates
pub record IsBegun (input : List Literal) (ls : List Literal) (places : List ℕ) (bs : List Bound) : Type 0 where
  pub fits : FitFirst input ls places
  pub once : NoneTwice places
  pub solved : Solves bs (place_equations input (literals_of ls) places)

-- the instance is one of the tree with this number whose places begin with these
pub record GoesOnFrom (input : List Literal) (t : Tree) (number : ℕ) (places : List ℕ) (i : Instance) : Type 0 where
  pub tree : i.tree ≡ number
  pub stands : MayStandAt input t i.places
  pub rest : List ℕ
  pub begins : i.places ≡ places ++ rest

-- the same of a task
abbrev pub IsFrom : Task → List ℕ → Instance → Type 0
IsFrom task places i = GoesOnFrom task.input.now task.tree.now task.number places i

-- a literal was put at one more place, or it can't stand there; what was there before stands in front
pub record Puts (task : Task) (place : ℕ) (old new : List ℕ) (before after : List Bound) (done : Bool) : Type 0 where
  pub more : List ℕ
  pub places : new ≡ old ++ more
  pub bindings : GoesOn before after
  pub put : done ≡ true → (new ≡ old ++ place ∷ []) × IsBegun task.input.now task.tree.now.sem new after
  pub none : done ≡ false → (i : Instance) → IsFrom task (old ++ place ∷ []) i → ⊥
