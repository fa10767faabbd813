-- What a task keeps of its description.
use Rattle.std.specs.Prelude.{◌≡◌, ℕ, ◌<◌, ◌≤◌, List, length}
use Rattle.gr_base.specs.Lists.{NoneTwice}
use Rattle.gr_base.specs.Forests.{Forest}
use Rattle.td_desc.specs.Conditions.{IsNumbered}
use Rattle.td_desc.specs.Descriptions.{DescribedNode, description_of}
use Rattle.td_desc.specs.declared.Colour.{Colour}
use Rattle.td_desc.specs.declared.Colour.TheVariants.{White, Red}
use Rattle.td_desc.specs.declared.Description.{Description}
use Rattle.td_forest.specs.declared.Step.{Step}
use Rattle.td_colour.specs.Colours.{IsOf, BlacksFirst}
use Rattle.td_solver.specs.Candidates.{IsCandidate}
use Rattle.td_model.specs.CanonicalTrees.{AreAttributes}
use Rattle.td_model.specs.ModelTrees.{IsNamedDescription}
use Rattle.td_solver.specs.declared.task.Task.{Task}
use Rattle.td_solver.specs.Ties.{is_of, is_tight_before, kept_for, ArePlaced, AreKidsTold}

-- reds stand behind whites
abbrev pub RedsLast : {S : Type 0} → List (DescribedNode S) → Type 0
RedsLast nodes = (x y : ℕ) → x < y → IsOf nodes Red x → IsOf nodes White y → ⊥

-- the numbers and the order of the nodes are right, and for each node the relations are there
pub record IsTask (t : Task) : Type 0 where
  pub count : t.count ≡ length t.d.now.nodes
  pub few : t.count ≤ 24
  pub numbered : IsNumbered t.d.now
  pub named : IsNamedDescription (length t.symbols.now) t.d.now
  pub distinct : NoneTwice t.symbols.now
  pub attributes : AreAttributes t.d.now.network t.attributes
  pub first : BlacksFirst (description_of t.d.now).nodes
  pub last : RedsLast (description_of t.d.now).nodes
  pub ties : t.ties ≡ kept_for is_of t.count t.d.now.relations
  pub tight : t.tight ≡ kept_for is_tight_before t.count t.d.now.relations
  pub parents : ArePlaced t.d.now.relations t.count t.parents
  pub kids : AreKidsTold t.d.now.relations t.count t.kids

-- the step is one that the node's colour leaves to it
abbrev pub IsCandidateOf : Description → ℕ → Forest (List ℕ) → Step → Type 0
IsCandidateOf d m F s = (c : Colour) → IsOf (description_of d).nodes c m → IsCandidate F c s
