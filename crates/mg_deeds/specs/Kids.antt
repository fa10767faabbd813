-- Kids of a node block one by one: what a kid says, and how it is linked with the one before it.
use Rattle.std.specs.Prelude.{ℕ, ◌+◌, List, [], ◌∷◌, ◌++◌, Option, Some, None}
use Rattle.gr_base.specs.Forests.{Forest}
use Rattle.mg_syntax.specs.declared.block.Kid.{Kid, out-Kid}
use Rattle.mg_syntax.specs.declared.block.NodeBlock.{out-NodeBlock}
use Rattle.mg_facts.specs.declared.variable.Variable.{Variable}
use Rattle.mg_facts.specs.Said.{Said}
use Rattle.mg_deeds.specs.Blocks.{KidHead, kid_head_of, forest_of}
use Rattle.mg_deeds.specs.Weights.{head_weight, kids_weight}
use Rattle.mg_deeds.specs.Sayings.{relation_said, sisters_said, block_variable, head_said, kids_said}

-- the kids of a kid
abbrev pub inner_kids : Kid → Forest KidHead
inner_kids k = forest_of (out-NodeBlock (out-Kid k).node).kids

-- the kid, the relation to its parent, and its kids
abbrev pub kid_weight : Kid → ℕ
kid_weight k = head_weight (kid_head_of k).head + 1 + kids_weight (inner_kids k)

-- the place of a kid, where n is the place behind the one before it, if there is one
abbrev pub kid_place : Option Variable → ℕ → ℕ
kid_place None n = n
kid_place (Some y) n = n + 1

module _ (here : ℕ) where
  abbrev pub kid_variable : ℕ → Kid → Variable
  kid_variable n k = block_variable here n (kid_head_of k).head.name

  -- the relation of the one before the kid to the kid
  abbrev pub link_said : Option Variable → ℕ → Kid → List Said
  link_said None n k = []
  link_said (Some y) n k = sisters_said y (kid_head_of k).loose (kid_variable (n + 1) k) ∷ []

  abbrev pub kid_said : Variable → ℕ → Kid → List Said
  kid_said x n k =
      let h = kid_head_of k in
      let y = kid_variable n k in
      head_said here y h.head ++ relation_said x h.down y ∷ kids_said here y (n + head_weight h.head + 1) (inner_kids k)
