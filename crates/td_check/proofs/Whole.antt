-- The store with the whole description: its network with the links of sets is the merged network behind what the store had.
use Rattle.std.specs.Prelude.{◌≡◌, ℕ, suc, ◌+◌, ◌<◌, ◌≤◌, List, [], ◌∷◌, ◌++◌, map, length, slice_get, ◌⊎◌, ◌↔◌, Option, Some, None, IsTrue, true, false, refl}
use Rattle.std.proofs.Common.{inl, inr, ap, ap₂, sym, ◌∙◌, subst, arith, append_assoc}
use Rattle.gr_base.specs.Lists.{IsAmong, gathered}
use Rattle.gr_base.specs.Forests.{Forest, labels, size}
use Rattle.gr_base.proofs.ListLemmas.{IsAmong-append, IsAmong-append_left, IsAmong-map_from}
use Rattle.gr_terms.specs.Canonical.{Node}
use Rattle.gr_terms.specs.Networks.{Term, Assertion, entry, equate, link, HasValue, Agrees, put_assertion}
use Rattle.gr_terms.specs.Views.{term_of, assertion_of, network_of}
use Rattle.gr_terms.specs.declared.Sym.{Sym}
use Rattle.gr_terms.specs.declared.SlotId.{SlotId}
use Rattle.gr_terms.specs.declared.Term as code_term
use Rattle.gr_terms.specs.declared.Assertion as code_assertion
use Rattle.gr_terms.specs.declared.Assertion.TheVariants.{Entry, Equate, Link}
use Rattle.gr_terms.proofs.NetworkLemmas.{Agrees-part}
use Rattle.gr_store.specs.Contents.{MentionsAll}
use Rattle.td_desc.specs.Descriptions as described
use Rattle.td_desc.specs.Descriptions.{description_of}
use Rattle.td_desc.specs.declared.Description.{Description}
use Rattle.td_tree.specs.Trees.{BagPairs}
use Rattle.td_tree.specs.declared.TreeNode.{TreeNode}
use Rattle.td_colour.specs.Models.{node_links, set_links, merged_network}
use Rattle.td_check.specs.Sets.{sets_of}
use Rattle.td_check.specs.Shifts.{later_var, later_slot, moved}
use Rattle.td_check.specs.Places.{AreLaid, HasAttributesOf, nodes_of, set_list}
use Rattle.td_check.proofs.Ends.{length-laid}
use Rattle.td_check.proofs.Onto.{labels-sets}
use Rattle.td_check.proofs.Gaining.{moved-append}
use Rattle.td_check.proofs.Renumbering.{agrees_loaded, value_loaded}

-- ---- links of sets are links

record IsLink (e : Assertion ℕ ℕ) : Type 0 where
  pub one : ℕ
  pub other : ℕ
  pub is : e ≡ link one other

among_gathered : {A B : Type 0} (f : A → List B) (xs : List A) (y : B) → IsAmong (gathered f xs) y → (x : A) × IsAmong (f x) y
among_gathered f [] y i = absurd i
among_gathered f (x ∷ xs) y i = elim (IsAmong-append (f x) (gathered f xs) y i) [ inl j ↦ (x, j) | inr j ↦ among_gathered f xs y j ]

node_is_link : (n m : Option (described.DescribedNode ℕ)) (e : Assertion ℕ ℕ) → IsAmong (node_links n m) e → IsLink e
node_is_link None m e i = absurd i
node_is_link (Some n) None e i = absurd i
node_is_link (Some n) (Some m) e (inl q) = record { one = n.slots.own; other = m.slots.own; is = q }
node_is_link (Some n) (Some m) e (inr (inl q)) = record { one = n.slots.top; other = m.slots.top; is = q }
node_is_link (Some n) (Some m) e (inr (inr (inl q))) = record { one = n.slots.bottom; other = m.slots.bottom; is = q }
node_is_link (Some n) (Some m) e (inr (inr (inr i))) = absurd i

set_is_link : (nodes : List (described.DescribedNode ℕ)) (set : List ℕ) (e : Assertion ℕ ℕ) → IsAmong (set_links nodes set) e → IsLink e
set_is_link nodes [] e i = absurd i
set_is_link nodes (x ∷ xs) e i =
    let r = among_gathered (λ y. node_links {V = ℕ} (slice_get nodes x) (slice_get nodes y)) xs e i in
    node_is_link (slice_get nodes x) (slice_get nodes r.0) e r.1

sets_are_links : (nodes : List (described.DescribedNode ℕ)) (xss : List (List ℕ)) (e : Assertion ℕ ℕ) → IsAmong (gathered (set_links nodes) xss) e → IsLink e
sets_are_links nodes xss e i = let r = among_gathered (set_links {V = ℕ} nodes) xss e i in set_is_link nodes r.0 e r.1

-- so variables play no part in them
moved_link : (vars slots : ℕ) (e : Assertion ℕ ℕ) → IsLink e → put_assertion (later_var vars) (later_slot slots) e ≡ put_assertion (later_var 0) (later_slot slots) e
moved_link vars slots e l =
    ap (λ z. put_assertion (later_var vars) (later_slot slots) z) l.is ∙ ap (λ z. put_assertion (later_var 0) (later_slot slots) z) (sym l.is)

moved_links : (vars slots : ℕ) (L : List (Assertion ℕ ℕ)) → ((e : Assertion ℕ ℕ) → IsAmong L e → IsLink e) → moved vars slots L ≡ moved 0 slots L
moved_links vars slots [] all = refl
moved_links vars slots (e ∷ L) all = ap₂ (λ a b. a ∷ b) (moved_link vars slots e (all e (inl refl))) (moved_links vars slots L (λ x i. all x (inr i)))

-- ---- the merged network

module _ (d : Description) (nodes : List TreeNode) (sends : List ℕ) (f : Forest (Node BagPairs)) (laid : AreLaid nodes f) where
  abbrev pub SetLinks : List (Assertion ℕ ℕ)
  SetLinks = gathered (set_links (nodes_of d.nodes)) (set_list sends 0 (length nodes))

  merged_is : merged_network (description_of d) (sets_of sends f) ≡ network_of d.network ++ SetLinks
  merged_is =
      ap (λ z. network_of d.network ++ gathered (set_links (nodes_of d.nodes)) z)
      (labels-sets 0 sends f ∙ ap (λ k. set_list sends 0 k) (sym (length-laid nodes f laid)))

  pub loaded_is : (vars slots : ℕ) (before : List (Assertion ℕ ℕ))
      → before ++ moved vars slots (merged_network (description_of d) (sets_of sends f)) ≡ (before ++ moved vars slots (network_of d.network)) ++ moved 0 slots SetLinks
  loaded_is vars slots before =
      ap (λ z. before ++ z)
      (ap (λ z. moved vars slots z) merged_is ∙ moved-append vars slots (network_of d.network) SetLinks
      ∙ ap (λ z. moved vars slots (network_of d.network) ++ z) (moved_links vars slots SetLinks (sets_are_links (nodes_of d.nodes) (set_list sends 0 (length nodes)))))
      ∙ sym (append_assoc before (moved vars slots (network_of d.network)) (moved 0 slots SetLinks))

  -- an entry of the merged network is one of the description's
  record IsEntryOf (a : Sym) : Type 0 where
    pub slot : SlotId
    pub value : code_term.Term
    pub there : IsAmong d.network (Entry slot a value)

  from_code : (t a : ℕ) (x : Term ℕ) (e : code_assertion.Assertion) → entry t a x ≡ assertion_of e → IsAmong d.network e → IsEntryOf (record { 0 = a })
  from_code t a x (Entry s b y) q i =
      let p : a ≡ b.0 = cc in
      record { slot = s; value = y; there = subst (λ (z : Sym). IsAmong d.network (Entry s z y)) (ap (λ n. record { 0 = n }) (sym p)) i }
  from_code t a x (Equate y z) q i = let bad : ⊥ = cc in absurd bad
  from_code t a x (Link s r) q i = let bad : ⊥ = cc in absurd bad

  entry_of : (t a : ℕ) (x : Term ℕ) → IsAmong (merged_network (description_of d) (sets_of sends f)) (entry t a x) → IsEntryOf (record { 0 = a })
  entry_of t a x i = elim (IsAmong-append (network_of d.network) (gathered (set_links (nodes_of d.nodes)) (labels (sets_of sends f))) (entry t a x) i) [
    | inl j ↦ let r = IsAmong-map_from assertion_of d.network (entry t a x) j in from_code t a x r.0 r.2 r.1
    | inr j ↦ let l = sets_are_links (nodes_of d.nodes) (labels (sets_of sends f)) (entry t a x) j in absurd (not_link t a x l.one l.other l.is)
  ]
    where
      not_link : (t a : ℕ) (x : Term ℕ) (s r : ℕ) → ◌≡◌ {A = Assertion ℕ ℕ} (entry t a x) (link s r) → ⊥
      not_link t a x s r q = cc

  module _ (vars slots : ℕ) (list : List code_assertion.Assertion) (mentions : MentionsAll vars slots list) where
    abbrev Merged : List (Assertion ℕ ℕ)
    Merged = merged_network (description_of d) (sets_of sends f)

    pub attributes_of : (Q : List (Assertion ℕ ℕ)) → Q ≡ network_of list ++ moved vars slots Merged → HasAttributesOf d Q slots
    attributes_of Q is s a z has =
        let v = value_loaded vars slots list mentions Merged s a.0 z (subst (λ N. HasValue N (slots + s) a.0 z) is has) in
        let e = entry_of v.has.0 a.0 v.value v.has.2 in
        (e.slot, e.value, e.there)

    -- the merged network agrees where the store does with it, and only there
    pub loaded_agrees : Agrees (network_of list) → Agrees Merged → Agrees ((network_of list ++ moved vars slots (network_of d.network)) ++ moved 0 slots SetLinks)
    loaded_agrees agrees own = subst (λ N. Agrees N) (loaded_is vars slots (network_of list)) ((agrees_loaded vars slots list mentions Merged agrees).1 own)

    pub network_agrees : Agrees (network_of list) → Agrees Merged → Agrees (network_of list ++ moved vars slots (network_of d.network))
    network_agrees agrees own =
        Agrees-part (network_of list ++ moved vars slots (network_of d.network)) ((network_of list ++ moved vars slots (network_of d.network)) ++ moved 0 slots SetLinks)
        (λ x i. IsAmong-append_left (network_of list ++ moved vars slots (network_of d.network)) (moved 0 slots SetLinks) x i) (loaded_agrees agrees own)

    pub merged_agrees : Agrees (network_of list) → Agrees ((network_of list ++ moved vars slots (network_of d.network)) ++ moved 0 slots SetLinks) → Agrees Merged
    merged_agrees agrees all = (agrees_loaded vars slots list mentions Merged agrees).0 (subst (λ N. Agrees N) (sym (loaded_is vars slots (network_of list))) all)
