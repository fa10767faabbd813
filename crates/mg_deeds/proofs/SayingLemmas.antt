-- What lists of pairs, literals and kids say, as loops state it.
use Rattle.std.specs.Prelude.{◌≡◌, ℕ, ◌+◌, ◌<◌, List, [], ◌∷◌, ◌++◌, length, drop, get_or, true, false, Option, Some, None, is_some}
use Rattle.std.proofs.Common.{refl, ap, sym, ◌∙◌, arith}
use Rattle.std.proofs.lemmas.List.{append-nil}
use Rattle.gr_base.specs.Forests.{Forest, empty, tree}
use Rattle.mg_syntax.specs.declared.block.Kid.{Kid, out-Kid}
use Rattle.mg_facts.specs.declared.variable.Variable.{Variable}
use Rattle.mg_facts.specs.Said.{Said}
use Rattle.mg_deeds.specs.Blocks.{KidHead, Block, kid_head_of, forest_of}
use Rattle.mg_deeds.specs.Weights.{head_weight, kids_weight}
use Rattle.mg_deeds.specs.Sayings.{sisters_said, block_variable, kids_said, said_from}
use Rattle.mg_deeds.specs.Kids.{inner_kids, kid_weight, kid_place, kid_variable, link_said, kid_said}
use Rattle.mg_deeds.proofs.ListLemmas.{drop_item}
use Rattle.mg_deeds.specs.Fronts.{HasLeft, AddsFront}
use Rattle.mg_deeds.proofs.FrontLemmas.{part_added, part_failed}
use Rattle.mg_deeds.proofs.WeightLemmas.{block_parts, block_weight_parts, left_weight, first_kid_weight, next_kid_weight}

-- one element says its part, and then come those behind it
pub said_item : {A : Type 0} (weight : A → ℕ) (said : ℕ → A → List Said) (n : ℕ) (xs : List A) (i : ℕ) (x : A) → i < length xs → x ≡ get_or xs i x
    → said_from weight said n (drop i xs) ≡ said n x ++ said_from weight said (n + weight x) (drop (i + 1) xs)
said_item weight said n xs i x within is = ap (said_from weight said n) (drop_item xs i x within is)

-- kids that are left begin with the next one
pub forest_item : (ks : List Kid) (i : ℕ) (k : Kid) → i < length ks → k ≡ get_or ks i k → forest_of (drop i ks) ≡ tree (kid_head_of k) (inner_kids k) (forest_of (drop (i + 1) ks))
forest_item ks i k within is =
    let o = out-Kid k in
    ap forest_of (drop_item ks i k within is)
    ∙ ap (λ (b : Block). let h : KidHead = record { down = o.down; loose = o.loose; head = b.head } in tree h b.kids (forest_of (drop (i + 1) ks))) (block_parts o.node)

-- the places behind a kid, where n is the place behind the one before it
pub next_place : (sister : Option Variable) (n : ℕ) (ks : List Kid) (i : ℕ) (k : Kid) → i < length ks → k ≡ get_or ks i k
    → n + left_weight (is_some sister) (drop i ks) ≡ kid_place sister n + kid_weight k + left_weight true (drop (i + 1) ks)
next_place None n ks i k within is =
    let at : left_weight false (drop i ks) ≡ left_weight false (k ∷ drop (i + 1) ks) = ap (left_weight false) (drop_item ks i k within is) in
    let first = first_kid_weight k (drop (i + 1) ks) in
    let parts = block_weight_parts (out-Kid k).node in
    omega arith
next_place (Some y) n ks i k within is =
    let at : left_weight true (drop i ks) ≡ left_weight true (k ∷ drop (i + 1) ks) = ap (left_weight true) (drop_item ks i k within is) in
    let next = next_kid_weight k (drop (i + 1) ks) in
    let parts = block_weight_parts (out-Kid k).node in
    omega arith

module _ (here : ℕ) where
  -- what the kids that are left say, where a kid stands before them or none
  abbrev pub left_said : Variable → Option Variable → ℕ → Forest KidHead → List Said
  left_said x None n kids = kids_said here x n kids
  left_said x (Some y) n empty = []
  left_said x (Some y) n (tree next others more) =
      sisters_said y next.loose (block_variable here (n + 1) next.head.name) ∷ kids_said here x (n + 1) (tree next others more)

  first_said : (x : Variable) (n : ℕ) (k : Kid) (more : Forest KidHead) → kids_said here x n (tree (kid_head_of k) (inner_kids k) more)
      ≡ kid_said here x n k ++ left_said x (Some (kid_variable here n k)) (n + head_weight (kid_head_of k).head + 1 + kids_weight (inner_kids k)) more
  first_said x n k empty = sym (append-nil (kid_said here x n k))
  first_said x n k (tree next others more) = refl

  -- the next kid is linked, says its part, and then come those behind it
  left_item : (x : Variable) (sister : Option Variable) (n : ℕ) (k : Kid) (more : Forest KidHead) (v : Variable) (place next : ℕ)
      → place ≡ kid_place sister n → v ≡ kid_variable here place k → next ≡ place + kid_weight k
      → left_said x sister n (tree (kid_head_of k) (inner_kids k) more) ≡ link_said here sister n k ++ (kid_said here x place k ++ left_said x (Some v) next more)
  left_item x sister n k more v place next at named behind =
      by sister ∙ ap (λ m. link_said here sister n k ++ said_at m) (sym at)
      ∙ ap (λ m. link_said here sister n k ++ (kid_said here x place k ++ left_said x (Some (kid_variable here place k)) m more)) (omega arith)
      ∙ ap (λ w. link_said here sister n k ++ (kid_said here x place k ++ left_said x (Some w) next more)) (sym named)
    where
      said_at : ℕ → List Said
      said_at m = kid_said here x m k ++ left_said x (Some (kid_variable here m k)) (m + head_weight (kid_head_of k).head + 1 + kids_weight (inner_kids k)) more

      by : (s : Option Variable) → left_said x s n (tree (kid_head_of k) (inner_kids k) more) ≡ link_said here s n k ++ said_at (kid_place s n)
      by None = first_said x n k more
      by (Some y) = ap (λ z. sisters_said y (kid_head_of k).loose (kid_variable here (n + 1) k) ∷ z) (first_said x (n + 1) k more)

  -- the next kid was linked
  kid_linked : (x : Variable) (sister : Option Variable) (n : ℕ) (ks : List Kid) (i : ℕ) (k : Kid) (v : Variable) (place next : ℕ) (old now linked all : List Said)
      → i < length ks → k ≡ get_or ks i k → HasLeft old now all (left_said x sister n (forest_of (drop i ks)))
      → place ≡ kid_place sister n → v ≡ kid_variable here place k → next ≡ place + kid_weight k → linked ≡ now ++ link_said here sister n k
      → HasLeft old linked all (kid_said here x place k ++ left_said x (Some v) next (forest_of (drop (i + 1) ks)))
  kid_linked x sister n ks i k v place next old now linked all within is has at named behind added =
      part_added old now linked all (left_said x sister n (forest_of (drop i ks))) (link_said here sister n k) (kid_said here x place k ++ left_said x (Some v) next (forest_of (drop (i + 1) ks))) has
      (ap (left_said x sister n) (forest_item ks i k within is) ∙ left_item x sister n k (forest_of (drop (i + 1) ks)) v place next at named behind)
      added

  -- and said its part
  pub kid_added : (x : Variable) (sister : Option Variable) (n : ℕ) (ks : List Kid) (i : ℕ) (k : Kid) (v : Variable) (place next : ℕ) (old now linked new all : List Said)
      → i < length ks → k ≡ get_or ks i k → HasLeft old now all (left_said x sister n (forest_of (drop i ks)))
      → place ≡ kid_place sister n → v ≡ kid_variable here place k → next ≡ place + kid_weight k → linked ≡ now ++ link_said here sister n k → new ≡ linked ++ kid_said here x place k
      → HasLeft old new all (left_said x (Some v) next (forest_of (drop (i + 1) ks)))
  kid_added x sister n ks i k v place next old now linked new all within is has at named behind added said =
      let more = left_said x (Some v) next (forest_of (drop (i + 1) ks)) in
      part_added old linked new all (kid_said here x place k ++ more) (kid_said here x place k) more
      (kid_linked x sister n ks i k v place next old now linked all within is has at named behind added) refl said

  -- or just a front of it
  pub kid_failed : (x : Variable) (sister : Option Variable) (n : ℕ) (ks : List Kid) (i : ℕ) (k : Kid) (place : ℕ) (old now linked new all : List Said)
      → i < length ks → k ≡ get_or ks i k → HasLeft old now all (left_said x sister n (forest_of (drop i ks)))
      → place ≡ kid_place sister n → linked ≡ now ++ link_said here sister n k → AddsFront linked new (kid_said here x place k)
      → AddsFront old new all
  kid_failed x sister n ks i k place old now linked new all within is has at added failed =
      let v = kid_variable here place k in
      let next = place + kid_weight k in
      let more = left_said x (Some v) next (forest_of (drop (i + 1) ks)) in
      part_failed old linked new all (kid_said here x place k ++ more) (kid_said here x place k) more
      (kid_linked x sister n ks i k v place next old now linked all within is has at refl refl added) refl failed
