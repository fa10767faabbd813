-- Tree nodes that have the right parents and bags are a tree in preorder.
use Rattle.std.specs.Prelude.{◌≡◌, ℕ, suc, ◌+◌, List, [], ◌∷◌, ◌++◌, length, take, drop, Option, Some, None, slice_get, refl}
use Rattle.std.specs.List.{AllZip}
use Rattle.std.proofs.Common.{ap, ap₂, sym, ◌∙◌, subst, arith, add-one}
use Rattle.std.proofs.lemmas.List.{take-append-drop}
use Rattle.std.proofs.lemmas.Option.{same_Some}
use Rattle.gr_base.specs.Forests.{Forest, empty, tree, labels, map_forest, size, AreAlike}
use Rattle.gr_base.proofs.ForestLemmas.{length-labels, size-alike, size-map}
use Rattle.gr_terms.specs.Canonical.{Node}
use Rattle.gr_terms.specs.Networks as net
use Rattle.td_tree.specs.Trees.{BagPairs, node_of, preorder}
use Rattle.td_tree.specs.declared.TreeNode.{TreeNode}
use Rattle.td_forest.specs.Walks.{parents}
use Rattle.td_forest.proofs.Walking.{length-parents}
use Rattle.td_desc.specs.Descriptions.{Description}
use Rattle.td_colour.specs.Models.{slots_at}
use Rattle.td_model.specs.CanonicalTrees.{HasBags}
use Rattle.td_model.specs.Reading.{AreModelNodes}

-- ---- forests with other labels

parents-map : {A B : Type 0} (f : A → B) (up : Option ℕ) (n : ℕ) (F : Forest A) → parents up n (map_forest f F) ≡ parents up n F
parents-map f up n empty = refl
parents-map f up n (tree a kids more) =
    ap₂ (λ ps qs. up ∷ ps ++ qs) (parents-map f (Some n) (n + 1) kids) (ap (λ k. parents up (n + 1 + k) (map_forest f more)) (size-map f kids) ∙ parents-map f up (n + 1 + size kids) more)

-- ---- lists place by place

zip_places : {A B : Type 0} (R : A → B → Type 0) (xs : List A) (ys : List B) → length xs ≡ length ys → ((i : ℕ) (y : B) → slice_get ys i ≡ Some y → (x : A) × (slice_get xs i ≡ Some x) × R x y) → AllZip R xs ys
zip_places R [] [] e each = tt
zip_places R [] (y ∷ ys) e each = absurd (omega arith)
zip_places R (x ∷ xs) [] e each = absurd (omega arith)
zip_places R (x ∷ xs) (y ∷ ys) e each =
    let first = each 0 y refl in (
      subst (λ z. R z y) (sym (same_Some x first.0 first.1)) first.2,
      zip_places R xs ys (omega arith) (λ i z at. each (suc i) z at),
    )

zip_split : {A B : Type 0} (R : A → B → Type 0) (as' bs : List A) (ys : List B) → AllZip R (as' ++ bs) ys → AllZip R as' (take (length as') ys) × AllZip R bs (drop (length as') ys)
zip_split R [] bs ys h = (tt, h)
zip_split R (a ∷ as') bs [] h = absurd h
zip_split R (a ∷ as') bs (y ∷ ys) h = let r = zip_split R as' bs ys h.1 in ((h.0, r.0), r.1)

-- ---- the nodes laid out

abbrev slots_of : TreeNode → Node BagPairs
slots_of x = record { own = x.own; top = x.top; bottom = x.bot }

module _ (N : List (net.Assertion ℕ ℕ)) where
  abbrev IsUnder : Option ℕ → TreeNode → Type 0
  IsUnder p x = x.parent ≡ p

  abbrev HasSlots : Node ℕ → TreeNode → Type 0
  HasSlots s x = HasBags N s (slots_of x)

  pub record IsLaid (n : ℕ) (up : Option ℕ) (G : Forest (Node ℕ)) (nodes : List TreeNode) : Type 0 where
    pub forest : Forest (Node BagPairs)
    pub laid : nodes ≡ preorder n up forest
    pub bags : AreAlike (HasBags N) G forest

  laid_out : (n : ℕ) (up : Option ℕ) (G : Forest (Node ℕ)) (nodes : List TreeNode) → AllZip IsUnder (parents up n G) nodes → AllZip HasSlots (labels G) nodes → IsLaid n up G nodes
  laid_out n up empty [] p s = record { forest = empty; laid = refl; bags = tt }
  laid_out n up empty (x ∷ xs) p s = absurd p
  laid_out n up (tree a kids more) [] p s = absurd p
  laid_out n up (tree a kids more) (x ∷ xs) p s =
      let k = size kids in
      let ps = zip_split IsUnder (parents (Some n) (n + 1) kids) (parents up (n + 1 + k) more) xs p.1 in
      let ss = zip_split HasSlots (labels kids) (labels more) xs s.1 in
      let p_long : length (parents (Some n) (n + 1) kids) ≡ k = length-parents (Some n) (n + 1) kids in
      let s_long : length (labels kids) ≡ k = length-labels kids in
      let next : n + 1 ≡ suc n = add-one n in
      let under = laid_out (suc n) (Some n) kids (take k xs)
      (subst (λ m. AllZip IsUnder (parents (Some n) m kids) (take k xs)) next (subst (λ m. AllZip IsUnder (parents (Some n) (n + 1) kids) (take m xs)) p_long ps.0))
      (subst (λ m. AllZip HasSlots (labels kids) (take m xs)) s_long ss.0) in
      let behind = laid_out (suc n + k) up more (drop k xs)
      (subst (λ m. AllZip IsUnder (parents up m more) (drop k xs)) (ap (λ m. m + k) next) (subst (λ m. AllZip IsUnder (parents up (n + 1 + k) more) (drop m xs)) p_long ps.1))
      (subst (λ m. AllZip HasSlots (labels more) (drop m xs)) s_long ss.1) in
      let as_many : k ≡ size under.forest = size-alike (HasBags N) kids under.forest under.bags in
      let first : x ≡ node_of up (slots_of x) = let e : x.parent ≡ up = p.0 in λ i. record { parent = e i; own = x.own; top = x.top; bot = x.bot } in
      let rest : xs ≡ preorder (suc n) (Some n) under.forest ++ preorder (suc n + size under.forest) up behind.forest =
      sym (take-append-drop k xs) ∙ ap₂ (λ ys zs. ys ++ zs) under.laid (behind.laid ∙ ap (λ m. preorder (suc n + m) up behind.forest) as_many) in
      record {
        forest = tree (slots_of x) under.forest behind.forest;
        laid = ap₂ (λ y ys. y ∷ ys) first rest;
        bags = (s.0, under.bags, behind.bags);
      }

  module _ (d : Description ℕ ℕ) (F : Forest (List ℕ)) (nodes : List TreeNode) (are : AreModelNodes N d F (size F) nodes) where
    abbrev G : Forest (Node ℕ)
    G = map_forest (slots_at d.nodes d.interface) F

    pub nodes_laid : IsLaid 0 None G nodes
    nodes_laid =
        laid_out 0 None G nodes
        (zip_places IsUnder (parents None 0 G) nodes (length-parents None 0 G ∙ size-map (slots_at d.nodes d.interface) F ∙ sym are.as_many)
        (λ i x at. let h = are.each i x at in (x.parent, ap (λ ps. slice_get ps i) (parents-map (slots_at d.nodes d.interface) None 0 F) ∙ h.parent, refl)))
        (zip_places HasSlots (labels G) nodes (length-labels G ∙ size-map (slots_at d.nodes d.interface) F ∙ sym are.as_many)
        (λ i x at. let h = are.each i x at in (h.slots, h.there, h.bags)))
