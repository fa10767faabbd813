-- What a single answer of an expander does to what was found of a class so far.
use Rattle.std.specs.Prelude.{◌≡◌, ℕ, suc, ◌+◌, ◌<◌, ◌≤◌, List, length, Bool, true, false, ◌⊎◌, ⊤}
use Rattle.gr_terms.specs.declared.Sym.{Sym}
use Rattle.td_desc.specs.declared.Description.{Description}
use Rattle.td_desc.specs.Descriptions.{description_of}
use Rattle.td_desc.specs.Conditions.{IsNumbered}
use Rattle.td_forest.specs.Limits.{node_limit}
use Rattle.td_model.specs.ModelTrees.{IsNamedDescription}
use Rattle.td_solver.specs.Solutions.{IsModelTotal, GainsSome, GainsAll}
use Rattle.mg_expand.specs.declared.step.Step.{Step}
use Rattle.mg_expand.specs.declared.step.Step.TheVariants as step
use Rattle.mg_compile.specs.declared.found.Found.{Found}
use Rattle.mg_compile.specs.declared.refusal.CompileRefusal.{CompileRefusal}
use Rattle.mg_compile.specs.declared.refusal.CompileRefusal.TheVariants as refusal

-- one unit was paid
pub record Paid (old new : Found) : Type 0 where
  pub left : old.left.left ≡ suc new.left.left
  pub trees : new.trees ≡ old.trees
  pub cut : new.cut ≡ old.cut

-- there was none, so the class is cut
pub record LacksUnits (old new : Found) : Type 0 where
  pub none : old.left.left ≡ 0
  pub left : new.left.left ≡ 0
  pub trees : new.trees ≡ old.trees
  pub cut : new.cut ≡ true

-- Behind the unit for the expansion, one was paid for each forest model, and all trees were added; or there were more forest models
-- than units, and the class is cut. What was added has texts of minimal models.
pub record FoundAll (texts : List (List ℕ)) (d : Description) (old new : Found) (left : ℕ) : Type 0 where
  pub all : GainsAll texts (description_of d) old.trees new.trees
  pub spent : (total : ℕ) → IsModelTotal (description_of d) (length d.nodes) total → left ≡ new.left.left + total
  pub falls : new.left.left ≤ left
  pub cut : new.cut ≡ old.cut

pub record FoundSome (d : Description) (new : Found) (left : ℕ) : Type 0 where
  pub more : (total : ℕ) → IsModelTotal (description_of d) (length d.nodes) total → left < total
  pub none : new.left.left ≡ 0
  pub cut : new.cut ≡ true

pub record WasSearched (texts : List (List ℕ)) (d : Description) (old new : Found) : Type 0 where
  pub left : ℕ
  pub paid : old.left.left ≡ suc left
  pub some : GainsSome texts (description_of d) old.trees new.trees
  pub search : FoundAll texts d old new left ⊎ FoundSome d new left

-- what an expansion with this description adds
abbrev pub Searched : List (List ℕ) → Description → Found → Found → Type 0
Searched texts d old new = WasSearched texts d old new ⊎ LacksUnits old new

-- a clashing expansion costs its unit
abbrev pub Passed : Found → Found → Type 0
Passed old new = Paid old new ⊎ LacksUnits old new

-- what an answer of an expander adds, and whether another one is to come
abbrev pub Took : List (List ℕ) → Step → Found → Found → Bool → Type 0
Took texts (step.Description d) old new more = (more ≡ true) × (length d.nodes ≤ node_limit) × Searched texts d old new
Took texts step.Clash old new more = (more ≡ true) × Passed old new
Took texts step.TooLarge old new more = ⊥
Took texts step.End old new more = (more ≡ false) × (new ≡ old)
Took texts step.Cut old new more = (more ≡ false) × (new ≡ record old { cut = true })

-- the answer refuses the class
abbrev pub Refuses : Sym → Step → CompileRefusal → Type 0
Refuses c (step.Description d) e = (e ≡ refusal.TooManyNodes c) × (node_limit < length d.nodes)
Refuses c step.Clash e = ⊥
Refuses c step.TooLarge e = e ≡ refusal.TooLarge c
Refuses c step.End e = ⊥
Refuses c step.Cut e = ⊥

-- a description keeps its conditions, and its names are below the number
abbrev pub IsFit : ℕ → Step → Type 0
IsFit count (step.Description d) = IsNumbered d × IsNamedDescription count d
IsFit count step.Clash = ⊤
IsFit count step.TooLarge = ⊤
IsFit count step.End = ⊤
IsFit count step.Cut = ⊤
