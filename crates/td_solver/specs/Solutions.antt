-- What a solver answers: how many forest models it goes through, and the trees of the minimal models with their texts.
use Rattle.std.specs.Prelude.{◌≡◌, ℕ, zero, suc, ◌+◌, List, ◌⊎◌, ◌↔◌}
use Rattle.gr_base.specs.Lists.{IsAmong, IsWithin, IsCount}
use Rattle.gr_base.specs.Forests.{Forest}
use Rattle.td_desc.specs.Descriptions.{Description}
use Rattle.td_colour.specs.Models.{IsForestModel, IsMinimalModel}
use Rattle.td_canon.specs.CanonicalTexts.{text_in}
use Rattle.td_canon.specs.TreeSets.{Entry, IsWhole, texts_of}
use Rattle.td_model.specs.ModelTrees.{IsModelText}
use Rattle.td_model.specs.ModelEntries.{IsModelEntry}

-- how many forest models the description has for its first node, for its first two, and so on up to its first n
abbrev pub IsModelTotal : {V S : Type 0} → Description V S → ℕ → ℕ → Type 0
IsModelTotal d zero total = total ≡ 0
IsModelTotal d (suc n) total = (below last : ℕ) × IsModelTotal d n below × IsCount (IsForestModel d (suc n)) last × (total ≡ below + last)

-- the bytes are the text of the tree of some minimal model
abbrev pub IsSolutionText : {V S : Type 0} → (ℕ → List ℕ) → Description V S → List ℕ → Type 0
IsSolutionText text d bytes = (F : Forest (List ℕ)) × IsMinimalModel d F × IsModelText text d F bytes

-- the tree and the text beside it are those of some minimal model: they have one canonical form with it
pub record IsSolution {V S : Type 0} (texts : List (List ℕ)) (d : Description V S) (e : Entry) : Type 0 where
  pub forest : Forest (List ℕ)
  pub minimal : IsMinimalModel d forest
  pub entry : IsModelEntry texts d forest e

-- the new set has all of the old one, what is new is the tree of a minimal model beside its text, and a whole set stays whole
pub record GainsSome {V S : Type 0} (texts : List (List ℕ)) (d : Description V S) (old new : List Entry) : Type 0 where
  pub kept : IsWithin old new
  pub only : (e : Entry) → IsAmong new e → IsAmong old e ⊎ IsSolution texts d e
  pub whole : IsWhole texts old → IsWhole texts new

-- the texts of the new set are those of the old one and those of the minimal models
abbrev pub GainsAll : {V S : Type 0} → List (List ℕ) → Description V S → List Entry → List Entry → Type 0
GainsAll texts d old new = (bytes : List ℕ) → IsAmong (texts_of new) bytes ↔ (IsAmong (texts_of old) bytes ⊎ IsSolutionText (text_in texts) d bytes)
