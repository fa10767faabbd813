-- The links of nodes that share tree nodes, set by set and node by node.
use Rattle.std.specs.Prelude.{◌≡◌, ℕ, zero, suc, ◌+◌, ◌-◌, ◌*◌, ◌<◌, ◌≤◌, List, [], ◌∷◌, ◌++◌, map, length, take, drop, slice_get, ◌==◌, if◌then◌else◌, Some, None, Option, ◌↔◌, Bool, true, IsTrue, refl}
use Rattle.std.proofs.Common.{inl, inr, ap, ap₂, sym, ◌∙◌, subst, arith, append_assoc, length-append, get_or}
use Rattle.std.proofs.lemmas.Bool.{cases_lt, cases_eq}
use Rattle.std.proofs.lemmas.List.{append-nil, map-append, take_all, take-append-drop, length-take-le}
use Rattle.std.proofs.lemmas.Option.{none-some, same_Some, slice_get_within, slice_get-get_or}
use Rattle.std.specs.Bool.{OnTrue}
use Rattle.gr_base.specs.Lists.{Each, gathered}
use Rattle.gr_base.proofs.ListLemmas.{Each-at, IsAmong-slice_get, take-one_more}
use Rattle.gr_base.proofs.Gathering.{gathered-append}
use Rattle.gr_terms.specs.Networks as net
use Rattle.gr_terms.specs.Networks.{Assertion, Agrees, put_assertion, put_network}
use Rattle.gr_terms.specs.Views.{network_of}
use Rattle.gr_store.specs.Contents.{Contents}
use Rattle.td_desc.specs.Descriptions as described
use Rattle.td_desc.specs.declared.DescribedNode.{DescribedNode}
use Rattle.td_desc.specs.Conditions.{AreSlotsBelow}
use Rattle.td_forest.proofs.SetLemmas.{eqb-same, eqb-other}
use Rattle.td_colour.specs.Models.{node_links, set_links}
use Rattle.td_check.specs.Sets.{SendsTo, sent_from, sent_to}
use Rattle.td_check.specs.Shifts.{Gains, later_var, later_slot, moved}
use Rattle.td_check.specs.Places.{IsFirstSent, next_links, links_from, nodes_of, set_list}
use Rattle.td_check.proofs.Onto.{sent_first, sent_other, set_list-more}
use Rattle.td_check.proofs.Gaining.{HasGained, moved-append, length-moved, gained_none, gained_then, gained_stop, yes_to}

abbrev Net : Type 0
Net = List (Assertion ℕ ℕ)

-- what one node adds
pub next_other : {V S : Type 0} (nodes : List (described.DescribedNode S)) (to head x s : ℕ) → (s ≡ to → ⊥) → next_links {V = V} nodes to head x s ≡ []
next_other nodes to head x s ne = rw (eqb-other s to (λ e. ne (sym e))) refl

pub next_head : {V S : Type 0} (nodes : List (described.DescribedNode S)) (to head x s : ℕ) → s ≡ to → x ≡ head → next_links {V = V} nodes to head x s ≡ []
next_head {V = V} nodes to head x s e h =
    subst (λ z. next_links {V = V} nodes to head x z ≡ []) (sym e) (subst (λ z. next_links {V = V} nodes to head z to ≡ []) (sym h) (rw (eqb-same to, eqb-same head) refl))

pub next_node : {V S : Type 0} (nodes : List (described.DescribedNode S)) (to head x s : ℕ) → s ≡ to → (x ≡ head → ⊥)
    → next_links {V = V} nodes to head x s ≡ node_links {V = V} (slice_get nodes head) (slice_get nodes x)
next_node {V = V} nodes to head x s e ne =
    subst (λ z. next_links {V = V} nodes to head x z ≡ node_links {V = V} (slice_get nodes head) (slice_get nodes x)) (sym e) (rw (eqb-same to, eqb-other x head (λ q. ne (sym q))) refl)

-- where the links are none, and where they are others
pub skip_agrees : (c : Contents) (slots : ℕ) (L : Net) → L ≡ [] → Agrees (network_of c.accepted) → IsTrue true ↔ Agrees (network_of c.accepted ++ moved 0 slots L)
skip_agrees c slots L e agrees = yes_to (Agrees (network_of c.accepted ++ moved 0 slots L)) (subst (λ z. Agrees (network_of c.accepted ++ moved 0 slots z)) (sym e) (gained_none c agrees).agrees)

pub skip_gains : (c : Contents) (slots : ℕ) (L : Net) → L ≡ [] → Agrees (network_of c.accepted) → Gains c c (moved 0 slots L)
skip_gains c slots L e agrees = subst (λ z. Gains c c (moved 0 slots z)) (sym e) (gained_none c agrees).gains

pub same_agrees : (c : Contents) (slots : ℕ) (L M : Net) (r : Bool) → L ≡ M → IsTrue r ↔ Agrees (network_of c.accepted ++ moved 0 slots M) → IsTrue r ↔ Agrees (network_of c.accepted ++ moved 0 slots L)
same_agrees c slots L M r e h = subst (λ z. IsTrue r ↔ Agrees (network_of c.accepted ++ moved 0 slots z)) (sym e) h

pub same_gains : (c new : Contents) (slots : ℕ) (L M : Net) (r : Bool) → L ≡ M → OnTrue r (Gains c new (moved 0 slots M)) → OnTrue r (Gains c new (moved 0 slots L))
same_gains c new slots L M r e h = subst (λ z. OnTrue r (Gains c new (moved 0 slots z))) (sym e) h

-- the links of two nodes of the code
pub nodes_linked : (nodes : List DescribedNode) (to head x s : ℕ) (n m : DescribedNode) → s ≡ to → (x ≡ head → ⊥) → slice_get nodes head ≡ Some n → slice_get nodes x ≡ Some m
    → next_links {V = ℕ} (nodes_of nodes) to head x s ≡ node_links (Some (described.node_of n)) (Some (described.node_of m))
nodes_linked nodes to head x s n m e ne at other =
    next_node {V = ℕ} (nodes_of nodes) to head x s e ne
    ∙ ap₂ (λ a b. node_links {V = ℕ} a b) (read_at nodes head n at) (read_at nodes x m other)
  where
    read_at : (nodes : List DescribedNode) (k : ℕ) (n : DescribedNode) → slice_get nodes k ≡ Some n → slice_get (nodes_of nodes) k ≡ Some (described.node_of n)
    read_at [] k n e = absurd (none-some n e)
    read_at (y ∷ ys) zero n e = ap (λ z. Some (described.node_of z)) (same_Some y n e)
    read_at (y ∷ ys) (suc k) n e = read_at ys k n e

pub slots_made : (bound : ℕ) (nodes : List DescribedNode) (k : ℕ) (n : DescribedNode) → Each (AreSlotsBelow bound) nodes → slice_get nodes k ≡ Some n → AreSlotsBelow bound n
slots_made bound nodes k n all at = Each-at (AreSlotsBelow bound) nodes n all (IsAmong-slice_get nodes k n at)

pub slots_still : (slots old now : ℕ) (nodes : List DescribedNode) → now ≡ old → Each (AreSlotsBelow (old - slots)) nodes → Each (AreSlotsBelow (now - slots)) nodes
slots_still slots old now nodes e all = subst (λ z. Each (AreSlotsBelow (z - slots)) nodes) (sym e) all

-- behind the first node of the set, each node of it is linked
links_behind : {V S : Type 0} (nodes : List (described.DescribedNode S)) (to head x : ℕ) (map : List ℕ) → head < x
    → links_from {V = V} nodes to head x map ≡ gathered (λ y. node_links {V = V} (slice_get nodes head) (slice_get nodes y)) (sent_from x to map)
links_behind nodes to head x [] h = refl
links_behind {V = V} nodes to head x (s ∷ map) h = elim (cases_eq s to) [
  | inl e ↦
      let ne : x ≡ head → ⊥ = λ q. omega arith in
      ap₂ (λ a b. a ++ b) (next_node {V = V} nodes to head x s e ne) (links_behind {V = V} nodes to head (suc x) map (omega arith))
      ∙ ap (λ ys. gathered (λ y. node_links {V = V} (slice_get nodes head) (slice_get nodes y)) ys) (sym (sent_first x to s map e))
  | inr ne ↦
      ap₂ (λ a b. a ++ b) (next_other {V = V} nodes to head x s ne) (links_behind {V = V} nodes to head (suc x) map (omega arith))
      ∙ ap (λ ys. gathered (λ y. node_links {V = V} (slice_get nodes head) (slice_get nodes y)) ys) (sym (sent_other x to s map ne))
]

-- the links of all nodes with the first one of the set are those of the set
links_set : {V S : Type 0} (nodes : List (described.DescribedNode S)) (to head x i : ℕ) (map : List ℕ) → head ≡ x + i → slice_get map i ≡ Some to
    → ((j : ℕ) → j < i → slice_get map j ≡ Some to → ⊥) → links_from {V = V} nodes to head x map ≡ set_links {V = V} nodes (sent_from x to map)
links_set nodes to head x i [] e at least = absurd (none-some to at)
links_set {V = V} nodes to head x zero (s ∷ map) e at least =
    let q : s ≡ to = same_Some s to at in
    let here : x ≡ head = omega arith in
    let first : sent_from x to (s ∷ map) ≡ x ∷ sent_from (suc x) to map = sent_first x to s map q in
    ap₂ (λ a b. a ++ b) (next_head {V = V} nodes to head x s q here) (links_behind {V = V} nodes to head (suc x) map (omega arith))
    ∙ ap (λ z. gathered (λ y. node_links {V = V} (slice_get nodes z) (slice_get nodes y)) (sent_from (suc x) to map)) (sym here)
    ∙ ap (λ ys. set_links {V = V} nodes ys) (sym first)
links_set {V = V} nodes to head x (suc i) (s ∷ map) e at least =
    let ne : s ≡ to → ⊥ = λ q. least zero (omega arith) (ap Some q) in
    ap₂ (λ a b. a ++ b) (next_other {V = V} nodes to head x s ne)
    (links_set {V = V} nodes to head (suc x) i map (omega arith) at (λ j l p. least (suc j) (omega arith) p))
    ∙ ap (λ ys. set_links {V = V} nodes ys) (sym (sent_other x to s map ne))

pub links_are : {V S : Type 0} (nodes : List (described.DescribedNode S)) (map : List ℕ) (to head : ℕ) → IsFirstSent map to head → links_from {V = V} nodes to head 0 map ≡ set_links {V = V} nodes (sent_to map to)
links_are {V = V} nodes map to head first = links_set {V = V} nodes to head 0 head map (omega arith) first.sent first.least

-- a map in two parts
links-split : {V S : Type 0} (nodes : List (described.DescribedNode S)) (to head x y : ℕ) (xs ys : List ℕ) → y ≡ x + length xs
    → links_from {V = V} nodes to head x (xs ++ ys) ≡ links_from {V = V} nodes to head x xs ++ links_from {V = V} nodes to head y ys
links-split {V = V} nodes to head x y [] ys e = let q : x ≡ y = omega arith in ap (λ z. links_from {V = V} nodes to head z ys) q
links-split {V = V} nodes to head x y (s ∷ xs) ys e =
    ap (λ z. next_links {V = V} nodes to head x s ++ z) (links-split {V = V} nodes to head (suc x) y xs ys (omega arith))
    ∙ sym (append_assoc (next_links {V = V} nodes to head x s) (links_from {V = V} nodes to head (suc x) xs) (links_from {V = V} nodes to head y ys))

sent-split : (to x y : ℕ) (xs ys : List ℕ) → y ≡ x + length xs → sent_from x to (xs ++ ys) ≡ sent_from x to xs ++ sent_from y to ys
sent-split to x y [] ys e = let q : x ≡ y = omega arith in ap (λ z. sent_from z to ys) q
sent-split to x y (s ∷ xs) ys e = elim (cases_eq s to) [
  | inl p ↦
      sent_first x to s (xs ++ ys) p ∙ ap (λ z. x ∷ z) (sent-split to (suc x) y xs ys (omega arith))
      ∙ ap (λ z. z ++ sent_from y to ys) (sym (sent_first x to s xs p))
  | inr ne ↦
      sent_other x to s (xs ++ ys) ne ∙ sent-split to (suc x) y xs ys (omega arith)
      ∙ ap (λ z. z ++ sent_from y to ys) (sym (sent_other x to s xs ne))
]

length_first : (map : List ℕ) (k : ℕ) → k < length map → k ≡ 0 + length (take k map)
length_first map k l = let e : length (take k map) ≡ k = length-take-le k map (omega arith) in omega arith

-- how many links there are
length_next : (nodes : List (described.DescribedNode ℕ)) (head x : ℕ) → length (node_links {V = ℕ} (slice_get nodes head) (slice_get nodes x)) ≤ 3
length_next nodes head x = by (slice_get nodes head) (slice_get nodes x)
  where
    by : (n m : Option (described.DescribedNode ℕ)) → length (node_links {V = ℕ} n m) ≤ 3
    by None m = omega arith
    by (Some n) None = omega arith
    by (Some n) (Some m) = omega arith

length_links : (nodes : List (described.DescribedNode ℕ)) (to head x : ℕ) (map : List ℕ) → length (links_from {V = ℕ} nodes to head x map) ≤ 3 * length (sent_from x to map)
length_links nodes to head x [] = omega arith
length_links nodes to head x (s ∷ map) =
    let rest : length (links_from {V = ℕ} nodes to head (suc x) map) ≤ 3 * length (sent_from (suc x) to map) = length_links nodes to head (suc x) map in
    let both : length (next_links {V = ℕ} nodes to head x s ++ links_from {V = ℕ} nodes to head (suc x) map) ≡ length (next_links {V = ℕ} nodes to head x s) + length (links_from {V = ℕ} nodes to head (suc x) map) =
    length-append (next_links {V = ℕ} nodes to head x s) (links_from {V = ℕ} nodes to head (suc x) map) in
    elim (cases_eq s to) [
      | inl e ↦
          let n : length (sent_from x to (s ∷ map)) ≡ suc (length (sent_from (suc x) to map)) = ap length (sent_first x to s map e) in
          elim (cases_eq x head) [
            | inl h ↦ let z : length (next_links {V = ℕ} nodes to head x s) ≡ 0 = ap length (next_head {V = ℕ} nodes to head x s e h) in omega (arith, n, both, z, rest)
            | inr h ↦
                let z : length (next_links {V = ℕ} nodes to head x s) ≡ length (node_links {V = ℕ} (slice_get nodes head) (slice_get nodes x)) = ap length (next_node {V = ℕ} nodes to head x s e h) in
                let w : length (node_links {V = ℕ} (slice_get nodes head) (slice_get nodes x)) ≤ 3 = length_next nodes head x in
                omega (arith, n, both, z, w, rest)
          ]
      | inr ne ↦
          let n : length (sent_from x to (s ∷ map)) ≡ length (sent_from (suc x) to map) = ap length (sent_other x to s map ne) in
          let z : length (next_links {V = ℕ} nodes to head x s) ≡ 0 = ap length (next_other {V = ℕ} nodes to head x s ne) in
          omega (arith, n, both, z, rest)
    ]

-- ---- a set, as far as its first nodes

module _ (slots : ℕ) (nodes : List (described.DescribedNode ℕ)) (map : List ℕ) (to head : ℕ) where
  abbrev pub set_moved : ℕ → Net
  set_moved k = moved 0 slots (links_from nodes to head 0 (take k map))

  abbrev pub next_moved : ℕ → ℕ → Net
  next_moved k s = moved 0 slots (next_links nodes to head k s)

  one_link : (k s : ℕ) → links_from {V = ℕ} nodes to head k (s ∷ []) ≡ next_links {V = ℕ} nodes to head k s
  one_link k s = append-nil (next_links {V = ℕ} nodes to head k s)

  pub set_more : (k s : ℕ) → slice_get map k ≡ Some s → set_moved (k + 1) ≡ set_moved k ++ next_moved k s
  set_more k s at =
      ap (λ z. moved 0 slots (links_from nodes to head 0 z)) (take-one_more map k s at)
      ∙ ap (λ z. moved 0 slots z) (links-split {V = ℕ} nodes to head 0 k (take k map) (s ∷ []) (length_first map k (slice_get_within map k s at)) ∙ ap (λ z. links_from {V = ℕ} nodes to head 0 (take k map) ++ z) (one_link k s))
      ∙ moved-append 0 slots (links_from {V = ℕ} nodes to head 0 (take k map)) (next_links {V = ℕ} nodes to head k s)

  -- the links of the nodes behind the first k + 1
  abbrev pub rest_moved : ℕ → Net
  rest_moved k = moved 0 slots (links_from nodes to head (k + 1) (drop (k + 1) map))

  pub set_rest : (k s : ℕ) → slice_get map k ≡ Some s → moved 0 slots (links_from {V = ℕ} nodes to head 0 map) ≡ set_moved k ++ (next_moved k s ++ rest_moved k)
  set_rest k s at =
      let l : k < length map = slice_get_within map k s at in
      let n : k + 1 ≡ 0 + length (take (k + 1) map) = (let e : length (take (k + 1) map) ≡ k + 1 = length-take-le (k + 1) map (omega arith) in omega arith) in
      ap (λ z. moved 0 slots (links_from {V = ℕ} nodes to head 0 z)) (sym (take-append-drop (k + 1) map))
      ∙ ap (λ z. moved 0 slots z) (links-split {V = ℕ} nodes to head 0 (k + 1) (take (k + 1) map) (drop (k + 1) map) n)
      ∙ moved-append 0 slots (links_from {V = ℕ} nodes to head 0 (take (k + 1) map)) (links_from {V = ℕ} nodes to head (k + 1) (drop (k + 1) map))
      ∙ ap (λ z. z ++ rest_moved k) (set_more k s at)
      ∙ append_assoc (set_moved k) (next_moved k s) (rest_moved k)

  -- room is left for the links of one more node of the set
  pub set_room : (old now : Contents) (k : ℕ) → slice_get map k ≡ Some to → Gains old now (set_moved k) → 3 * length (sent_to map to) ≤ old.spare.assertions → 3 ≤ now.spare.assertions
  set_room old now k at gains room =
      let l : k < length map = slice_get_within map k to at in
      let a : length (links_from {V = ℕ} nodes to head 0 (take k map)) ≤ 3 * length (sent_from 0 to (take k map)) = length_links nodes to head 0 (take k map) in
      let b : length (set_moved k) ≡ length (links_from {V = ℕ} nodes to head 0 (take k map)) = length-moved 0 slots (links_from {V = ℕ} nodes to head 0 (take k map)) in
      let e : sent_from 0 to map ≡ sent_from 0 to (take k map) ++ sent_from k to (drop k map) =
      ap (λ z. sent_from 0 to z) (sym (take-append-drop k map)) ∙ sent-split to 0 k (take k map) (drop k map) (length_first map k l) in
      let c : length (sent_from 0 to map) ≡ length (sent_from 0 to (take k map)) + length (sent_from k to (drop k map)) =
      ap length e ∙ length-append (sent_from 0 to (take k map)) (sent_from k to (drop k map)) in
      let d : 0 < length (sent_from k to (drop k map)) = some_sent k (drop k map) (drop-first map k to at) in
      let g : old.spare.assertions ≤ now.spare.assertions + length (set_moved k) = gains.assertions in
      omega (arith, a, b, c, d, g)
    where
      drop-first : (map : List ℕ) (k to : ℕ) → slice_get map k ≡ Some to → slice_get (drop k map) 0 ≡ Some to
      drop-first [] k to at = absurd (none-some to at)
      drop-first (s ∷ map) zero to at = at
      drop-first (s ∷ map) (suc k) to at = drop-first map k to at

      some_sent : (x : ℕ) (ys : List ℕ) → slice_get ys 0 ≡ Some to → 0 < length (sent_from x to ys)
      some_sent x [] at = absurd (none-some to at)
      some_sent x (s ∷ ys) at = let n : length (sent_from x to (s ∷ ys)) ≡ suc (length (sent_from (suc x) to ys)) = ap length (sent_first x to s ys (same_Some s to at)) in omega (arith, n)

  -- the loop over the nodes
  pub set_none : (c : Contents) → Agrees (network_of c.accepted) → HasGained c c (set_moved 0)
  set_none c agrees = gained_none c agrees

  pub set_next : (old now new : Contents) (k : ℕ) → k < length map → HasGained old now (set_moved k) → Gains now new (next_moved k (get_or map k 0)) → Agrees (network_of now.accepted ++ next_moved k (get_or map k 0))
      → HasGained old new (set_moved (k + 1))
  set_next old now new k l h g agrees =
      subst (λ L. HasGained old new L) (sym (set_more k (get_or map k 0) (slice_get-get_or map k 0 l))) (gained_then old now new (set_moved k) (next_moved k (get_or map k 0)) h g agrees)

  pub set_stop : IsFirstSent map to head → (old now : Contents) (k : ℕ) → k < length map → HasGained old now (set_moved k) → (Agrees (network_of now.accepted ++ next_moved k (get_or map k 0)) → ⊥)
      → Agrees (network_of old.accepted ++ moved 0 slots (set_links nodes (sent_to map to))) → ⊥
  set_stop first old now k l h none agrees =
      gained_stop old now (set_moved k) (next_moved k (get_or map k 0)) (rest_moved k) h.gains none
      (subst (λ L. Agrees (network_of old.accepted ++ L)) (ap (λ z. moved 0 slots z) (sym (links_are {V = ℕ} nodes map to head first)) ∙ set_rest k (get_or map k 0) (slice_get-get_or map k 0 l)) agrees)

  pub set_all : IsFirstSent map to head → (old now : Contents) (k : ℕ) → length map ≤ k → HasGained old now (set_moved k) → HasGained old now (moved 0 slots (set_links nodes (sent_to map to)))
  set_all first old now k high h =
      subst (λ L. HasGained old now L) (ap (λ z. moved 0 slots (links_from {V = ℕ} nodes to head 0 z)) (take_all k map high) ∙ ap (λ z. moved 0 slots z) (links_are {V = ℕ} nodes map to head first)) h

-- ---- all sets, as far as the first tree nodes

-- how many elements the sets have together
abbrev total : List (List ℕ) → ℕ
total [] = 0
total (xs ∷ xss) = length xs + total xss

total-append : (xs ys : List (List ℕ)) → total (xs ++ ys) ≡ total xs + total ys
total-append [] ys = omega arith
total-append (x ∷ xs) ys = let e : total (xs ++ ys) ≡ total xs + total ys = total-append xs ys in omega (arith, e)

-- nodes of different sets are different, so the sets have no more elements than the map
abbrev totals : ℕ → ℕ → ℕ → List ℕ → ℕ
totals x n zero map = 0
totals x n (suc k) map = length (sent_from x n map) + totals x (suc n) k map

totals_none : (x n k : ℕ) → totals x n k [] ≡ 0
totals_none x n zero = refl
totals_none x n (suc k) = let e : totals x (suc n) k [] ≡ 0 = totals_none x (suc n) k in omega (arith, e)

totals_other : (x n k s : ℕ) (map : List ℕ) → s < n → totals x n k (s ∷ map) ≡ totals (suc x) n k map
totals_other x n zero s map l = refl
totals_other x n (suc k) s map l =
    let ne : s ≡ n → ⊥ = λ e. omega arith in
    ap₂ (λ a b. a + b) (ap length (sent_other x n s map ne)) (totals_other x (suc n) k s map (omega arith))

totals_more : (x n k s : ℕ) (map : List ℕ) → totals x n k (s ∷ map) ≤ suc (totals (suc x) n k map)
totals_more x n zero s map = omega arith
totals_more x n (suc k) s map = elim (cases_eq s n) [
  | inl e ↦
      let a : length (sent_from x n (s ∷ map)) ≡ suc (length (sent_from (suc x) n map)) = ap length (sent_first x n s map e) in
      let b : totals x (suc n) k (s ∷ map) ≡ totals (suc x) (suc n) k map = totals_other x (suc n) k s map (omega arith) in
      omega (arith, a, b)
  | inr ne ↦
      let a : length (sent_from x n (s ∷ map)) ≡ length (sent_from (suc x) n map) = ap length (sent_other x n s map ne) in
      let b : totals x (suc n) k (s ∷ map) ≤ suc (totals (suc x) (suc n) k map) = totals_more x (suc n) k s map in
      omega (arith, a, b)
]

totals_few : (x n k : ℕ) (map : List ℕ) → totals x n k map ≤ length map
totals_few x n k [] = let e : totals x n k [] ≡ 0 = totals_none x n k in omega (arith, e)
totals_few x n k (s ∷ map) =
    let a : totals x n k (s ∷ map) ≤ suc (totals (suc x) n k map) = totals_more x n k s map in
    let b : totals (suc x) n k map ≤ length map = totals_few (suc x) n k map in
    omega (arith, a, b)

total_sets : (map : List ℕ) (n k : ℕ) → total (set_list map n k) ≡ totals 0 n k map
total_sets map n zero = refl
total_sets map n (suc k) = ap (λ z. length (sent_to map n) + z) (total_sets map (suc n) k)

length_set : (nodes : List (described.DescribedNode ℕ)) (set : List ℕ) → length (set_links {V = ℕ} nodes set) ≤ 3 * length set
length_set nodes [] = omega arith
length_set nodes (x ∷ xs) = by xs
  where
    by : (ys : List ℕ) → length (gathered (λ y. node_links {V = ℕ} (slice_get nodes x) (slice_get nodes y)) ys) ≤ 3 * suc (length ys)
    by [] = omega arith
    by (y ∷ ys) =
        let a : length (gathered (λ y. node_links {V = ℕ} (slice_get nodes x) (slice_get nodes y)) ys) ≤ 3 * suc (length ys) = by ys in
        let b : length (node_links {V = ℕ} (slice_get nodes x) (slice_get nodes y)) ≤ 3 = length_next nodes x y in
        let c : length (node_links {V = ℕ} (slice_get nodes x) (slice_get nodes y) ++ gathered (λ y. node_links {V = ℕ} (slice_get nodes x) (slice_get nodes y)) ys)
        ≡ length (node_links {V = ℕ} (slice_get nodes x) (slice_get nodes y)) + length (gathered (λ y. node_links {V = ℕ} (slice_get nodes x) (slice_get nodes y)) ys) =
        length-append (node_links {V = ℕ} (slice_get nodes x) (slice_get nodes y)) (gathered (λ y. node_links {V = ℕ} (slice_get nodes x) (slice_get nodes y)) ys) in
        omega (arith, a, b, c)

length_sets : (nodes : List (described.DescribedNode ℕ)) (xss : List (List ℕ)) → length (gathered (set_links {V = ℕ} nodes) xss) ≤ 3 * total xss
length_sets nodes [] = omega arith
length_sets nodes (xs ∷ xss) =
    let a : length (set_links {V = ℕ} nodes xs) ≤ 3 * length xs = length_set nodes xs in
    let b : length (gathered (set_links {V = ℕ} nodes) xss) ≤ 3 * total xss = length_sets nodes xss in
    let c : length (set_links {V = ℕ} nodes xs ++ gathered (set_links {V = ℕ} nodes) xss) ≡ length (set_links {V = ℕ} nodes xs) + length (gathered (set_links {V = ℕ} nodes) xss) =
    length-append (set_links {V = ℕ} nodes xs) (gathered (set_links {V = ℕ} nodes) xss) in
    omega (arith, a, b, c)

set_list-rest : (map : List ℕ) (n k j : ℕ) → set_list map n (k + j) ≡ set_list map n k ++ set_list map (n + k) j
set_list-rest map n zero j = let a : zero + j ≡ j = omega arith in let b : n ≡ n + zero = omega arith in ap₂ (λ x y. set_list map x y) b a
set_list-rest map n (suc k) j =
    let a : suc k + j ≡ suc (k + j) = omega arith in
    let b : suc n + k ≡ n + suc k = omega arith in
    ap (λ y. set_list map n y) a ∙ ap (λ z. sent_to map n ∷ z) (set_list-rest map (suc n) k j ∙ ap (λ x. set_list map (suc n) k ++ set_list map x j) b)

module _ (slots : ℕ) (nodes : List (described.DescribedNode ℕ)) (map : List ℕ) where
  abbrev pub sets_moved : ℕ → Net
  sets_moved k = moved 0 slots (gathered (set_links nodes) (set_list map 0 k))

  abbrev pub this_moved : ℕ → Net
  this_moved k = moved 0 slots (set_links nodes (sent_to map k))

  pub sets_more : (k : ℕ) → sets_moved (k + 1) ≡ sets_moved k ++ this_moved k
  sets_more k =
      ap (λ z. moved 0 slots (gathered (set_links nodes) z)) (set_list-more map k)
      ∙ ap (λ z. moved 0 slots z) (gathered-append (set_links nodes) (set_list map 0 k) (sent_to map k ∷ []) ∙ ap (λ z. gathered (set_links nodes) (set_list map 0 k) ++ z) (append-nil (set_links nodes (sent_to map k))))
      ∙ moved-append 0 slots (gathered (set_links nodes) (set_list map 0 k)) (set_links nodes (sent_to map k))

  abbrev pub later_moved : ℕ → ℕ → Net
  later_moved k count = moved 0 slots (gathered (set_links nodes) (set_list map (k + 1) (count - (k + 1))))

  pub sets_rest : (k count : ℕ) → k < count → sets_moved count ≡ sets_moved k ++ (this_moved k ++ later_moved k count)
  sets_rest k count l =
      let e : count ≡ (k + 1) + (count - (k + 1)) = omega arith in
      let z : 0 + (k + 1) ≡ k + 1 = omega arith in
      ap sets_moved e
      ∙ ap (λ w. moved 0 slots (gathered (set_links nodes) w)) (set_list-rest map 0 (k + 1) (count - (k + 1)) ∙ ap (λ x. set_list map 0 (k + 1) ++ set_list map x (count - (k + 1))) z)
      ∙ ap (λ w. moved 0 slots w) (gathered-append (set_links nodes) (set_list map 0 (k + 1)) (set_list map (k + 1) (count - (k + 1))))
      ∙ moved-append 0 slots (gathered (set_links nodes) (set_list map 0 (k + 1))) (gathered (set_links nodes) (set_list map (k + 1) (count - (k + 1))))
      ∙ ap (λ w. w ++ later_moved k count) (sets_more k)
      ∙ append_assoc (sets_moved k) (this_moved k) (later_moved k count)

  pub sets_room : (old now : Contents) (k : ℕ) → Gains old now (sets_moved k) → 3 * length map ≤ old.spare.assertions → 3 * length (sent_to map k) ≤ now.spare.assertions
  sets_room old now k gains room =
      let a : length (sets_moved k) ≡ length (gathered (set_links {V = ℕ} nodes) (set_list map 0 k)) = length-moved 0 slots (gathered (set_links nodes) (set_list map 0 k)) in
      let b : length (gathered (set_links {V = ℕ} nodes) (set_list map 0 k)) ≤ 3 * total (set_list map 0 k) = length_sets nodes (set_list map 0 k) in
      let c : total (set_list map 0 (k + 1)) ≡ total (set_list map 0 k) + total (sent_to map k ∷ []) = ap total (set_list-more map k) ∙ total-append (set_list map 0 k) (sent_to map k ∷ []) in
      let d : total (set_list map 0 (k + 1)) ≡ totals 0 0 (k + 1) map = total_sets map 0 (k + 1) in
      let e : totals 0 0 (k + 1) map ≤ length map = totals_few 0 0 (k + 1) map in
      let g : old.spare.assertions ≤ now.spare.assertions + length (sets_moved k) = gains.assertions in
      omega (arith, a, b, c, d, e, g)

  -- the loop over the tree nodes
  pub sets_next : (old now new : Contents) (k : ℕ) → HasGained old now (sets_moved k) → Gains now new (this_moved k) → Agrees (network_of now.accepted ++ this_moved k) → HasGained old new (sets_moved (k + 1))
  sets_next old now new k h g agrees = subst (λ L. HasGained old new L) (sym (sets_more k)) (gained_then old now new (sets_moved k) (this_moved k) h g agrees)

  pub sets_stop : (old now : Contents) (k count : ℕ) → k < count → HasGained old now (sets_moved k) → (Agrees (network_of now.accepted ++ this_moved k) → ⊥) → Agrees (network_of old.accepted ++ sets_moved count) → ⊥
  sets_stop old now k count l h none agrees =
      gained_stop old now (sets_moved k) (this_moved k) (later_moved k count) h.gains none (subst (λ L. Agrees (network_of old.accepted ++ L)) (sets_rest k count l) agrees)

  pub sets_upto : (old now : Contents) (k count : ℕ) → k ≡ count → HasGained old now (sets_moved k) → HasGained old now (sets_moved count)
  sets_upto old now k count e h = subst (λ z. HasGained old now (sets_moved z)) e h
