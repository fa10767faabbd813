-- What is said of the texts of a description's minimal models.
use Rattle.std.specs.Prelude.{◌≡◌, ℕ, List}
use Rattle.gr_base.specs.Lists.{IsAmong}
use Rattle.gr_base.specs.Forests.{Forest}
use Rattle.gr_terms.specs.Networks.{Term, entry}
use Rattle.td_desc.specs.Descriptions.{Description}
use Rattle.td_canon.specs.CanonicalTexts.{IsCanonicalText}
use Rattle.td_colour.specs.Models.{IsMinimalModel, merged_network, model_tree}

-- the attributes of a description differ by their texts
abbrev pub DifferByTexts : {V S : Type 0} → (ℕ → List ℕ) → Description V S → Type 0
DifferByTexts {V} {S} text d =
    (p q : ℕ) (s r : S) (x y : Term V) → IsAmong d.network (entry s p x) → IsAmong d.network (entry r q y) → text p ≡ text q → p ≡ q

-- the bytes are the text of the tree of a minimal model
abbrev pub IsTextOfModel : {V S : Type 0} → (ℕ → List ℕ) → Description V S → List ℕ → Type 0
IsTextOfModel text d b = (F : Forest (List ℕ)) × IsMinimalModel d F × IsCanonicalText text (merged_network d F) (model_tree d F) b
