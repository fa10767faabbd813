-- The places of a deed rise.
use Rattle.std.specs.Prelude.{ℕ, ◌+◌, ◌<◌, ◌≤◌, List, [], ◌∷◌, ◌++◌}
use Rattle.std.proofs.Common.{arith}
use Rattle.gr_base.specs.Lists.{Each, IsRising}
use Rattle.gr_base.specs.Forests.{Forest, empty, tree}
use Rattle.gr_base.proofs.ListLemmas.{Each-append, Each-weaker}
use Rattle.mg_syntax.specs.declared.body.Literal.{Literal}
use Rattle.mg_syntax.specs.declared.block.SynItem.{SynItem}
use Rattle.mg_syntax.specs.declared.block.SynItem.TheVariants as item
use Rattle.mg_deeds.specs.Blocks.{KidHead, Block, block_of}
use Rattle.mg_deeds.specs.Deeds.{Deed, equation, syntax_items, semantics, interface}
use Rattle.mg_deeds.specs.Weights.{total, head_weight, kids_weight, block_weight, syntax_weight, literal_weight, deed_weight}
use Rattle.mg_deeds.specs.Places.{kids_places, block_places, syntax_places, literal_places, places_from, deed_places, AreBetween}

-- rising numbers below those that follow
IsRising-append : (m : ℕ) (xs ys : List ℕ) → IsRising xs → Each (λ p. p < m) xs → IsRising ys → Each (λ p. m ≤ p) ys → IsRising (xs ++ ys)
IsRising-append m [] ys r below s above = s
IsRising-append m (x ∷ xs) ys r below s above =
    (Each-append (λ y. x < y) xs ys r.0 (Each-weaker (λ p. m ≤ p) (λ y. x < y) (λ y h. let b = below.0 in omega arith) ys above), IsRising-append m xs ys r.1 below.1 s above)

pub no_places : (n m : ℕ) → AreBetween n m []
no_places n m = record { rising = tt; low = tt; high = tt }

-- places in a part of the range
pub between_wider : (n m i j : ℕ) (ps : List ℕ) → i ≤ n → m ≤ j → AreBetween n m ps → AreBetween i j ps
between_wider n m i j ps below above b = record {
  rising = b.rising;
  low = Each-weaker (λ p. n ≤ p) (λ p. i ≤ p) (λ p h. omega arith) ps b.low;
  high = Each-weaker (λ p. p < m) (λ p. p < j) (λ p h. omega arith) ps b.high;
}

-- a first place, and places behind it
pub place_first : (n k m : ℕ) (ps : List ℕ) → n < k → n < m → AreBetween k m ps → AreBetween n m (n ∷ ps)
place_first n k m ps before inside b = record {
  rising = (Each-weaker (λ p. k ≤ p) (λ p. n < p) (λ p h. omega arith) ps b.low, b.rising);
  low = (omega arith, Each-weaker (λ p. k ≤ p) (λ p. n ≤ p) (λ p h. omega arith) ps b.low);
  high = (inside, b.high);
}

-- places in two ranges side by side
pub places_joined : (n k m : ℕ) (ps qs : List ℕ) → n ≤ k → k ≤ m → AreBetween n k ps → AreBetween k m qs → AreBetween n m (ps ++ qs)
places_joined n k m ps qs before after b c = record {
  rising = IsRising-append k ps qs b.rising b.high c.rising c.low;
  low = Each-append (λ p. n ≤ p) ps qs b.low (Each-weaker (λ p. k ≤ p) (λ p. n ≤ p) (λ p h. omega arith) qs c.low);
  high = Each-append (λ p. p < m) ps qs (Each-weaker (λ p. p < k) (λ p. p < m) (λ p h. omega arith) ps b.high) c.high;
}

kids_between : (n : ℕ) (f : Forest KidHead) → AreBetween n (n + kids_weight f) (kids_places n f)
kids_between n empty = no_places n (n + 0)
kids_between n (tree k kids empty) =
    let inside = n + head_weight k.head + 1 in
    let end = n + (head_weight k.head + 1 + kids_weight kids) in
    place_first n inside end (kids_places inside kids) (omega arith) (omega arith)
    (between_wider inside (inside + kids_weight kids) inside end (kids_places inside kids) (omega arith) (omega arith) (kids_between inside kids))
kids_between n (tree k kids (tree next others more)) =
    let inside = n + head_weight k.head + 1 in
    let after = inside + kids_weight kids + 1 in
    let rest = kids_weight (tree next others more) in
    let end = n + (head_weight k.head + 1 + kids_weight kids + 1 + rest) in
    places_joined n after end (n ∷ kids_places inside kids) (kids_places after (tree next others more)) (omega arith) (omega arith)
    (place_first n inside after (kids_places inside kids) (omega arith) (omega arith)
    (between_wider inside (inside + kids_weight kids) inside after (kids_places inside kids) (omega arith) (omega arith) (kids_between inside kids)))
    (between_wider after (after + rest) after end (kids_places after (tree next others more)) (omega arith) (omega arith) (kids_between after (tree next others more)))

block_between : (n : ℕ) (b : Block) → AreBetween n (n + block_weight b) (block_places n b)
block_between n b =
    let inside = n + head_weight b.head in
    let end = n + (head_weight b.head + kids_weight b.kids) in
    place_first n inside end (kids_places inside b.kids) (omega arith) (omega arith)
    (between_wider inside (inside + kids_weight b.kids) inside end (kids_places inside b.kids) (omega arith) (omega arith) (kids_between inside b.kids))

syntax_between : (n : ℕ) (s : SynItem) → AreBetween n (n + syntax_weight s) (syntax_places n s)
syntax_between n (item.Node b) = block_between n (block_of b)
syntax_between n (item.Relation r how s) = no_places n (n + 1)

literal_between : (n : ℕ) (l : Literal) → AreBetween n (n + literal_weight l) (literal_places n l)
literal_between n l = place_first n (n + literal_weight l) (n + literal_weight l) [] (omega arith) (omega arith) (no_places (n + literal_weight l) (n + literal_weight l))

places_between : {A : Type 0} (weight : A → ℕ) (places : ℕ → A → List ℕ) → ((n : ℕ) (x : A) → AreBetween n (n + weight x) (places n x)) → (n : ℕ) (xs : List A)
    → AreBetween n (n + total weight xs) (places_from weight places n xs)
places_between weight places each n [] = no_places n (n + 0)
places_between weight places each n (x ∷ xs) =
    let k = n + weight x in
    let end = n + (weight x + total weight xs) in
    let rest = places_from weight places k xs in
    places_joined n k end (places n x) rest (omega arith) (omega arith) (each n x)
    (between_wider k (k + total weight xs) k end rest (omega arith) (omega arith) (places_between weight places each k xs))

pub deed_between : (n : ℕ) (d : Deed) → AreBetween n (n + deed_weight d) (deed_places n d)
deed_between n (equation r s) = no_places n (n + 1)
deed_between n (syntax_items items) = places_between syntax_weight syntax_places syntax_between n items
deed_between n (semantics literals) = places_between literal_weight literal_places literal_between n literals
deed_between n (interface bag) = no_places n (n + deed_weight (interface bag))
