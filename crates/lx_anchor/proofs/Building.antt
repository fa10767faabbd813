-- Nodes that answer those of a tree one by one are a tree of the same shape.
use Rattle.std.specs.Prelude.{◌≡◌, ℕ, suc, ◌+◌, List, [], ◌∷◌, ◌++◌, length, Option, Some, ⊤, refl}
use Rattle.std.proofs.Common.{ap, ap₂, subst, sym, ◌∙◌, arith}
use Rattle.gr_base.specs.Forests.{Forest, empty, tree, map_forest, numbered, size, AreAlike}
use Rattle.gr_base.proofs.ForestLemmas.{size-alike}
use Rattle.gr_terms.specs.Canonical.{Node}
use Rattle.td_tree.specs.Trees.{BagPairs, node_of, preorder}
use Rattle.td_tree.specs.TreeNetworks.{slots_at}
use Rattle.td_tree.specs.TreeViews.{lists_of}
use Rattle.td_tree.specs.declared.TreeNode.{TreeNode}
use Rattle.td_tree.proofs.PreorderLemmas.{length-preorder}
use Rattle.lx_anchor.specs.Networks.{Slot, slots_in}

abbrev pub bags_of : TreeNode → Node BagPairs
bags_of x = record { own = x.own; top = x.top; bottom = x.bot }

-- the slots of the nodes of a forest that are numbered from n on
abbrev pub slots_from : ℕ → Forest (Node BagPairs) → Forest (Node Slot)
slots_from n f = map_forest slots_in (map_forest (λ p. slots_at p.0) (numbered n (map_forest lists_of f)))

size-lists : (f : Forest (Node BagPairs)) → size (map_forest lists_of f) ≡ size f
size-lists empty = refl
size-lists (tree b kids more) = ap₂ (λ i j. suc (i + j)) (size-lists kids) (size-lists more)

module _ (Q : Node Slot → Node BagPairs → Type 0) (K : Node BagPairs → Node BagPairs → Type 0) where
  -- the second nodes answer the first ones, which are numbered from n on
  abbrev pub Matches : ℕ → List TreeNode → List TreeNode → Type 0
  Matches n [] [] = ⊤
  Matches n [] (y ∷ ys) = ⊥
  Matches n (x ∷ xs) [] = ⊥
  Matches n (x ∷ xs) (y ∷ ys) = (y.parent ≡ x.parent) × Q (slots_in (slots_at n)) (bags_of y) × K (bags_of x) (bags_of y) × Matches (suc n) xs ys

  record Splits (n : ℕ) (xs ys zs : List TreeNode) : Type 0 where
    pub front : List TreeNode
    pub rest : List TreeNode
    pub are : zs ≡ front ++ rest
    pub first : Matches n xs front
    pub second : Matches (n + length xs) ys rest

  matches-split : (n : ℕ) (xs ys zs : List TreeNode) → Matches n (xs ++ ys) zs → Splits n xs ys zs
  matches-split n [] ys zs h = record { front = []; rest = zs; are = refl; first = tt; second = subst (λ m. Matches m ys zs) (omega arith) h }
  matches-split n (x ∷ xs) ys [] h = absurd h
  matches-split n (x ∷ xs) ys (z ∷ zs) h =
      let r = matches-split (suc n) xs ys zs h.3 in
      record { front = z ∷ r.front; rest = r.rest; are = ap (λ ws. z ∷ ws) r.are; first = (h.0, h.1, h.2, r.first); second = subst (λ m. Matches m ys r.rest) (omega arith) r.second }

  -- the second nodes are those of a forest that answers the first one
  pub record IsBuilt (n : ℕ) (up : Option ℕ) (f : Forest (Node BagPairs)) (news : List TreeNode) : Type 0 where
    pub forest : Forest (Node BagPairs)
    pub laid : news ≡ preorder n up forest
    pub slots : AreAlike Q (slots_from n f) forest
    pub kept : AreAlike K f forest

  pub built : (n : ℕ) (up : Option ℕ) (f : Forest (Node BagPairs)) (news : List TreeNode) → Matches n (preorder n up f) news → IsBuilt n up f news
  built n up empty [] h = record { forest = empty; laid = refl; slots = tt; kept = tt }
  built n up empty (y ∷ ys) h = absurd h
  built n up (tree b kids more) [] h = absurd h
  built n up (tree b kids more) (y ∷ ys) h =
      let inner = preorder (suc n) (Some n) kids in
      let s = matches-split (suc n) inner (preorder (suc n + size kids) up more) ys h.3 in
      let inside = built (suc n) (Some n) kids s.front s.first in
      let count : suc n + length inner ≡ suc n + size kids = ap (λ k. suc n + k) (length-preorder (suc n) (Some n) kids) in
      let right = built (suc n + size kids) up more s.rest (subst (λ m. Matches m (preorder (suc n + size kids) up more) s.rest) count s.second) in
      let same_size : size kids ≡ size inside.forest = size-alike K kids inside.forest inside.kept in
      let here : y ≡ node_of up (bags_of y) = λ i. record y { parent = h.0 i } in
      let behind : ys ≡ preorder (suc n) (Some n) inside.forest ++ preorder (suc n + size inside.forest) up right.forest =
      s.are ∙ ap₂ (λ us vs. us ++ vs) inside.laid (right.laid ∙ ap (λ k. preorder (suc n + k) up right.forest) same_size)
      in
      record {
        forest = tree (bags_of y) inside.forest right.forest;
        laid = ap₂ (λ z zs. z ∷ zs) here behind;
        slots = (h.1, inside.slots, subst (λ k. AreAlike Q (slots_from (suc n + k) more) right.forest) (sym (size-lists kids)) right.slots);
        kept = (subst (λ z. K z (bags_of y)) refl h.2, inside.kept, right.kept);
      }
