-- The places of node blocks and literals in a deed: a block without a name and a literal without a handle have a variable of
-- their own, which is named by this place.
use Rattle.std.specs.Prelude.{ℕ, ◌+◌, ◌<◌, ◌≤◌, List, [], ◌∷◌, ◌++◌}
use Rattle.gr_base.specs.Lists.{Each, IsRising}
use Rattle.gr_base.specs.Forests.{Forest, empty, tree}
use Rattle.mg_syntax.specs.declared.body.Literal.{Literal}
use Rattle.mg_syntax.specs.declared.block.SynItem.{SynItem}
use Rattle.mg_syntax.specs.declared.block.SynItem.TheVariants as item
use Rattle.mg_deeds.specs.Blocks.{KidHead, Block, block_of}
use Rattle.mg_deeds.specs.Deeds.{Deed, equation, syntax_items, semantics, interface}
use Rattle.mg_deeds.specs.Weights.{head_weight, kids_weight, syntax_weight, literal_weight}

abbrev pub kids_places : ℕ → Forest KidHead → List ℕ
kids_places n empty = []
kids_places n (tree k kids empty) = n ∷ kids_places (n + head_weight k.head + 1) kids
kids_places n (tree k kids (tree next others more)) =
    let after = n + head_weight k.head + 1 + kids_weight kids in
    n ∷ kids_places (n + head_weight k.head + 1) kids ++ kids_places (after + 1) (tree next others more)

abbrev pub block_places : ℕ → Block → List ℕ
block_places n b = n ∷ kids_places (n + head_weight b.head) b.kids

abbrev pub syntax_places : ℕ → SynItem → List ℕ
syntax_places n (item.Node b) = block_places n (block_of b)
syntax_places n (item.Relation r how s) = []

abbrev pub literal_places : ℕ → Literal → List ℕ
literal_places n l = n ∷ []

abbrev pub places_from : {A : Type 0} → (A → ℕ) → (ℕ → A → List ℕ) → ℕ → List A → List ℕ
places_from weight places n [] = []
places_from weight places n (x ∷ xs) = places n x ++ places_from weight places (n + weight x) xs

abbrev pub deed_places : ℕ → Deed → List ℕ
deed_places n (equation r s) = []
deed_places n (syntax_items items) = places_from syntax_weight syntax_places n items
deed_places n (semantics literals) = places_from literal_weight literal_places n literals
deed_places n (interface bag) = []

-- the places rise from n on and stay below m
pub record AreBetween (n m : ℕ) (places : List ℕ) : Type 0 where
  pub rising : IsRising places
  pub low : Each (λ p. n ≤ p) places
  pub high : Each (λ p. p < m) places
