-- The tree and the text of a model of a description.
use Rattle.std.specs.Prelude.{ℕ, ◌<◌, List, ⊤}
use Rattle.gr_base.specs.Lists.{Each}
use Rattle.gr_base.specs.Forests.{Forest}
use Rattle.gr_terms.specs.declared.Assertion.{Assertion}
use Rattle.gr_terms.specs.declared.Assertion.TheVariants.{Entry, Equate, Link}
use Rattle.td_tree.specs.declared.Tree.{Tree}
use Rattle.td_canon.specs.CanonicalTexts.{IsCanonicalText, IsNamedLiteral, IsNamedTerm}
use Rattle.td_desc.specs.Descriptions.{Description}
use Rattle.td_desc.specs.declared.Description as code
use Rattle.td_colour.specs.Models.{merged_network, model_tree}
use Rattle.td_model.specs.CanonicalTrees.{IsCanonicalTree}

-- the tree is that of the model: it has the canonical bags of the slots of the tree nodes
abbrev pub IsModelTree : Description ℕ ℕ → Forest (List ℕ) → Tree → Type 0
IsModelTree d F t = IsCanonicalTree (merged_network d F) (model_tree d F) t

-- the bytes are the text of the model: they spell a form that the model has
abbrev pub IsModelText : {V S : Type 0} → (ℕ → List ℕ) → Description V S → Forest (List ℕ) → List ℕ → Type 0
IsModelText text d F bytes = IsCanonicalText text (merged_network d F) (model_tree d F) bytes

-- each name and each attribute of the description has a number below the count
abbrev pub IsNamedAssertion : ℕ → Assertion → Type 0
IsNamedAssertion count (Entry s a x) = (a.0 < count) × IsNamedTerm count x
IsNamedAssertion count (Equate x y) = IsNamedTerm count x × IsNamedTerm count y
IsNamedAssertion count (Link s t) = ⊤

pub record IsNamedDescription (count : ℕ) (d : code.Description) : Type 0 where
  pub network : Each (IsNamedAssertion count) d.network
  pub literals : Each (IsNamedLiteral count) d.sem
