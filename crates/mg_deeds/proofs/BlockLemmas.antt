-- What the parts of a block and of a kid add, one after another.
use Rattle.std.specs.Prelude.{◌≡◌, ℕ, ◌+◌, List, [], ◌∷◌, ◌++◌}
use Rattle.std.proofs.Common.{refl, ap, sym, ◌∙◌, subst}
use Rattle.mg_syntax.specs.declared.block.NodeBlock.{NodeBlock, out-NodeBlock}
use Rattle.mg_syntax.specs.declared.block.Kid.{Kid}
use Rattle.mg_facts.specs.declared.variable.Variable.{Variable}
use Rattle.mg_facts.specs.Said.{Said, own_of, top_of, bottom_of, block}
use Rattle.mg_deeds.specs.Blocks.{Head, Block, block_of, head_of, kid_head_of, forest_of}
use Rattle.mg_deeds.specs.Fronts.{AddsFront}
use Rattle.mg_deeds.specs.Weights.{head_weight}
use Rattle.mg_deeds.specs.Sayings.{relation_said, colour_said, bag_said, head_said, block_variable, kids_said, block_said}
use Rattle.mg_deeds.specs.Kids.{inner_kids, kid_variable, kid_said}
use Rattle.mg_deeds.proofs.FrontLemmas.{none_added, first_failed, second_failed, both_added}
use Rattle.mg_deeds.proofs.WeightLemmas.{block_parts}

-- a head: its block, its colour and its bags
module _ (here : ℕ) (x : Variable) (h : Head) (old : List Said) where
  abbrev start : List Said
  start = block x ∷ []

  abbrev colour : List Said
  colour = colour_said x h.colour

  abbrev own : List Said
  own = bag_said here (own_of x) h.own

  abbrev top : List Said
  top = bag_said here (top_of x) h.top

  abbrev bottom : List Said
  bottom = bag_said here (bottom_of x) h.bottom

  pub colour_failed : (n1 new : List Said) → n1 ≡ old ++ start → AddsFront n1 new colour → AddsFront old new (head_said here x h)
  colour_failed n1 new e1 f =
      first_failed old new (start ++ colour ++ own ++ top) bottom (first_failed old new (start ++ colour ++ own) top (first_failed old new (start ++ colour) own
      (second_failed old n1 new start colour e1 f)))

  pub own_failed : (n1 n2 new : List Said) → n1 ≡ old ++ start → n2 ≡ n1 ++ colour → AddsFront n2 new own → AddsFront old new (head_said here x h)
  own_failed n1 n2 new e1 e2 f =
      first_failed old new (start ++ colour ++ own ++ top) bottom (first_failed old new (start ++ colour ++ own) top
      (second_failed old n2 new (start ++ colour) own (both_added old n1 n2 start colour e1 e2) f))

  pub top_failed : (n1 n2 n3 new : List Said) → n1 ≡ old ++ start → n2 ≡ n1 ++ colour → n3 ≡ n2 ++ own → AddsFront n3 new top → AddsFront old new (head_said here x h)
  top_failed n1 n2 n3 new e1 e2 e3 f =
      first_failed old new (start ++ colour ++ own ++ top) bottom
      (second_failed old n3 new (start ++ colour ++ own) top (both_added old n2 n3 (start ++ colour) own (both_added old n1 n2 start colour e1 e2) e3) f)

  pub bottom_failed : (n1 n2 n3 n4 new : List Said) → n1 ≡ old ++ start → n2 ≡ n1 ++ colour → n3 ≡ n2 ++ own → n4 ≡ n3 ++ top → AddsFront n4 new bottom → AddsFront old new (head_said here x h)
  bottom_failed n1 n2 n3 n4 new e1 e2 e3 e4 f =
      second_failed old n4 new (start ++ colour ++ own ++ top) bottom
      (both_added old n3 n4 (start ++ colour ++ own) top (both_added old n2 n3 (start ++ colour) own (both_added old n1 n2 start colour e1 e2) e3) e4) f

-- a block: its head and its kids, where v is its variable and m the place of its kids
module _ (here n : ℕ) (b : NodeBlock) (v : Variable) (m : ℕ) (named : v ≡ block_variable here n (head_of b).name) (at : m ≡ n + head_weight (head_of b)) (old : List Said) where
  abbrev head : List Said
  head = head_said here v (head_of b)

  abbrev kids : List Said
  kids = kids_said here v m (forest_of (out-NodeBlock b).kids)

  block_said_parts : head ++ kids ≡ block_said here n (block_of b)
  block_said_parts =
      ap (λ w. head_said here w (head_of b) ++ kids_said here w m (forest_of (out-NodeBlock b).kids)) named
      ∙ ap (λ k. let w = block_variable here n (head_of b).name in head_said here w (head_of b) ++ kids_said here w k (forest_of (out-NodeBlock b).kids)) at
      ∙ ap (λ (z : Block). block_said here n z) (sym (block_parts b))

  pub block_head_failed : (new : List Said) → AddsFront old new head → AddsFront old new (block_said here n (block_of b))
  block_head_failed new f = subst (λ z. AddsFront old new z) block_said_parts (first_failed old new head kids f)

  pub block_kids_failed : (now new : List Said) → now ≡ old ++ head → AddsFront now new kids → AddsFront old new (block_said here n (block_of b))
  block_kids_failed now new e f = subst (λ z. AddsFront old new z) block_said_parts (second_failed old now new head kids e f)

  pub block_added : (now new : List Said) → now ≡ old ++ head → new ≡ now ++ kids → new ≡ old ++ block_said here n (block_of b)
  block_added now new e f = both_added old now new head kids e f ∙ ap (λ z. old ++ z) block_said_parts

-- a kid: its head, its relation to the parent, and its kids
module _ (here : ℕ) (x : Variable) (n : ℕ) (k : Kid) (v : Variable) (named : v ≡ kid_variable here n k) (old : List Said) where
  abbrev kid_head : List Said
  kid_head = head_said here v (kid_head_of k).head

  abbrev relation : List Said
  relation = relation_said x (kid_head_of k).down v ∷ []

  abbrev inner : ℕ → List Said
  inner m = kids_said here v (m + 1) (inner_kids k)

  kid_said_parts : (m : ℕ) → m ≡ n + head_weight (kid_head_of k).head → kid_head ++ (relation ++ inner m) ≡ kid_said here x n k
  kid_said_parts m at =
      ap (λ w. head_said here w (kid_head_of k).head ++ relation_said x (kid_head_of k).down w ∷ kids_said here w (m + 1) (inner_kids k)) named
      ∙ ap (λ j. let w = kid_variable here n k in head_said here w (kid_head_of k).head ++ relation_said x (kid_head_of k).down w ∷ kids_said here w (j + 1) (inner_kids k)) at

  pub kid_head_failed : (new : List Said) → AddsFront old new kid_head → AddsFront old new (kid_said here x n k)
  kid_head_failed new f =
      let m = n + head_weight (kid_head_of k).head in
      subst (λ z. AddsFront old new z) (kid_said_parts m refl) (first_failed old new kid_head (relation ++ inner m) f)

  pub kid_relation_failed : (now new : List Said) → now ≡ old ++ kid_head → new ≡ now → AddsFront old new (kid_said here x n k)
  kid_relation_failed now new e same =
      let m = n + head_weight (kid_head_of k).head in
      subst (λ z. AddsFront old new z) (kid_said_parts m refl) (second_failed old now new kid_head (relation ++ inner m) e (none_added now new (relation ++ inner m) same))

  pub kid_kids_failed : (m : ℕ) (now then new : List Said) → m ≡ n + head_weight (kid_head_of k).head → now ≡ old ++ kid_head → then ≡ now ++ relation → AddsFront then new (inner m) → AddsFront old new (kid_said here x n k)
  kid_kids_failed m now then new at e1 e2 f =
      subst (λ z. AddsFront old new z) (kid_said_parts m at) (second_failed old now new kid_head (relation ++ inner m) e1 (second_failed now then new relation (inner m) e2 f))
