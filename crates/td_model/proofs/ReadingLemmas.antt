-- Attributes, canonical bags, terms and tree nodes, read one by one.
use Rattle.std.specs.Prelude.{◌≡◌, ℕ, zero, suc, ◌+◌, ◌<◌, ◌≤◌, Bool, true, false, List, [], ◌∷◌, ◌++◌, map, length, take, ◌⊎◌, Some, slice_get, option_map, Result, Ok, Err, IfOk, refl}
use Rattle.std.specs.Bool.{OnTrue, OnFalse}
use Rattle.std.specs.List.{AllZip}
use Rattle.std.proofs.Common.{inl, inr, ap, sym, ◌∙◌, subst}
use Rattle.std.proofs.lemmas.List.{take_all, map-append, length-append}
use Rattle.std.proofs.lemmas.Option.{none-some, same_Some, slice_get-map}
use Rattle.gr_base.specs.Lists.{IsAmong, IsRising}
use Rattle.gr_base.specs.declared.Memory.{Memory}
use Rattle.gr_base.specs.Forests.{Forest, labels, map_forest}
use Rattle.gr_base.proofs.ListLemmas.{IsAmong-one_more, IsWithin-one_more, IsAmong-new_one, IsAmong-map, IsAmong-map_from, take-one_more}
use Rattle.gr_base.proofs.ForestLemmas.{labels-map}
use Rattle.gr_base.proofs.Zips.{AllZip-append}
use Rattle.gr_terms.specs.Bags.{HasAttribute, IsListed, LacksAttribute, Puts}
use Rattle.gr_terms.proofs.BagLemmas.{IsAmong-puts, IsAmong-puts_new, IsAmong-puts_old}
use Rattle.gr_terms.specs.Networks as net
use Rattle.gr_terms.specs.Networks.{Agrees, HasValue}
use Rattle.gr_terms.specs.Views.{network_of, term_of}
use Rattle.gr_terms.specs.declared.Assertion.{Assertion}
use Rattle.gr_terms.specs.declared.Assertion.TheVariants.{Entry, Equate, Link}
use Rattle.gr_terms.specs.declared.SlotId.{SlotId}
use Rattle.gr_terms.specs.declared.Sym.{Sym}
use Rattle.gr_terms.specs.declared.Term.{Term}
use Rattle.gr_terms.proofs.ViewLemmas.{IsAmong-network_of, term_from, term_of-term_from}
use Rattle.gr_store.specs.Contents.{IsFirstValue, rank}
use Rattle.gr_store.proofs.Values.{HasValue-first}
use Rattle.gr_feats.specs.CanonicalBags.{IsCanonicalBag}
use Rattle.gr_feats.proofs.CanonicalLemmas.{IsCollected, IsCollected-all, IsCollected-done, IsCollected-missing, least_stands}
use Rattle.td_tree.specs.Trees.{BagPairs}
use Rattle.td_tree.specs.declared.TreeNode.{TreeNode}
use Rattle.td_forest.specs.Nodes.{IsForestOf}
use Rattle.td_forest.specs.Walks.{IsHeadAt}
use Rattle.td_forest.proofs.Heading.{place_head}
use Rattle.td_forest.proofs.Naming.{head_in}
use Rattle.td_desc.specs.Descriptions.{description_of, node_of}
use Rattle.td_desc.specs.declared.DescribedNode.{DescribedNode}
use Rattle.td_desc.specs.declared.Description as code
use Rattle.td_colour.specs.Models.{merged_network, slots_at}
use Rattle.td_model.specs.CanonicalTrees.{AreAttributes}
use Rattle.td_model.specs.Carrying.{Carries}
use Rattle.td_model.specs.Reading.{AreModelNodes, CoverAttributes, HasAttributesOf, IsModelNode}
use Rattle.td_model.proofs.CarryLemmas.{node_at_place}
use Rattle.td_model.proofs.ModelLemmas.{merged_entry}

-- ---- the attributes of a network

abbrev HasEntry : List Assertion → Sym → Type 0
HasEntry list a = (s : SlotId) × (x : Term) × IsAmong list (Entry s a x)

entry_later : (list : List Assertion) (e : Assertion) (a : Sym) → HasEntry list a → HasEntry (list ++ e ∷ []) a
entry_later list e a h = (h.0, h.1, IsWithin-one_more list e (Entry h.0 a h.1) h.2)

pub attributes_none : HasAttributesOf [] []
attributes_none = record { listed = tt; entries = λ a. (λ h. absurd h.1, λ h. absurd h.2) }

pub attributes_skip : (list : List Assertion) (e : Assertion) (bag : BagPairs) → HasAttributesOf list bag → ((s : SlotId) (a : Sym) (x : Term) → e ≡ Entry s a x → ⊥) → HasAttributesOf (list ++ e ∷ []) bag
attributes_skip list e bag h none = record {
  listed = h.listed;
  entries = λ a. (
    λ has. entry_later list e a ((h.entries a).0 has),
    λ (s, x, i). elim (IsAmong-one_more list e (Entry s a x) i) [
      | inl j ↦ (h.entries a).1 (s, x, j)
      | inr same ↦ absurd (none s a x (sym same))
    ],
  );
}

pub attributes_entry : (list : List Assertion) (s : SlotId) (a : Sym) (x : Term) (old new : BagPairs) (added : Bool) → HasAttributesOf list old → OnTrue added (Puts old new (a, x))
    → OnFalse added (HasAttribute old a) → OnFalse added (new ≡ old) → IsListed new → HasAttributesOf (list ++ Entry s a x ∷ []) new
attributes_entry list s a x old new added h put there stays listed = record {
  listed = listed;
  entries = λ b. (λ has. from b added put stays has, λ has. to b added put there stays has);
}
  where
    from : (b : Sym) (added : Bool) → OnTrue added (Puts old new (a, x)) → OnFalse added (new ≡ old) → HasAttribute new b → HasEntry (list ++ Entry s a x ∷ []) b
    from b true put stays (v, i) = elim (IsAmong-puts old new (a, x) put (b, v) i) [
      | inl e ↦ let same : b ≡ a = ap (λ (p : Sym × Term). p.0) e in subst (λ c. HasEntry (list ++ Entry s a x ∷ []) c) (sym same) (s, x, IsAmong-new_one list (Entry s a x))
      | inr j ↦ entry_later list (Entry s a x) b ((h.entries b).0 (v, j))
    ]
    from b false put stays has = entry_later list (Entry s a x) b ((h.entries b).0 (subst (λ bag. HasAttribute bag b) stays has))

    to_one : (b : Sym) (added : Bool) → OnTrue added (Puts old new (a, x)) → OnFalse added (HasAttribute old a) → OnFalse added (new ≡ old) → HasAttribute new a
    to_one b true put there stays = (x, IsAmong-puts_new old new (a, x) put)
    to_one b false put there stays = subst (λ bag. HasAttribute bag a) (sym stays) there

    to_old : (b : Sym) (added : Bool) → OnTrue added (Puts old new (a, x)) → OnFalse added (new ≡ old) → HasAttribute old b → HasAttribute new b
    to_old b true put stays (v, i) = (v, IsAmong-puts_old old new (a, x) put (b, v) i)
    to_old b false put stays has = subst (λ bag. HasAttribute bag b) (sym stays) has

    to : (b : Sym) (added : Bool) → OnTrue added (Puts old new (a, x)) → OnFalse added (HasAttribute old a) → OnFalse added (new ≡ old) → HasEntry (list ++ Entry s a x ∷ []) b → HasAttribute new b
    to b added put there stays (t, y, i) = elim (IsAmong-one_more list (Entry s a x) (Entry t b y) i) [
      | inl j ↦ to_old b added put stays ((h.entries b).1 (t, y, j))
      | inr e ↦ let same : b ≡ a = cc in subst (λ c. HasAttribute new c) (sym same) (to_one b added put there stays)
    ]

pub first_entry : (network : List Assertion) (place : ℕ) (e : Assertion) (s : SlotId) (a : Sym) (x : Term) (old new : BagPairs) (added : Bool) → slice_get network place ≡ Some e → e ≡ Entry s a x → HasAttributesOf (take place network) old
    → OnTrue added (Puts old new (a, x)) → OnFalse added (HasAttribute old a) → OnFalse added (new ≡ old) → IsListed new → HasAttributesOf (take (place + 1) network) new
first_entry network place e s a x old new added at is h put there stays listed =
    subst (λ list. HasAttributesOf list new) (sym (take-one_more network place e at ∙ ap (λ z. take place network ++ z ∷ []) is)) (attributes_entry (take place network) s a x old new added h put there stays listed)

pub first_other : (network : List Assertion) (place : ℕ) (e : Assertion) (bag : BagPairs) → slice_get network place ≡ Some e → ((s : SlotId) (a : Sym) (x : Term) → e ≡ Entry s a x → ⊥) → HasAttributesOf (take place network) bag
    → HasAttributesOf (take (place + 1) network) bag
first_other network place e bag at none h = subst (λ list. HasAttributesOf list bag) (sym (take-one_more network place e at)) (attributes_skip (take place network) e bag h none)

pub no_entry_equate : (e : Assertion) (y z : Term) → e ≡ Equate y z → (s : SlotId) (a : Sym) (x : Term) → e ≡ Entry s a x → ⊥
no_entry_equate e y z is s a x h = cc

pub no_entry_link : (e : Assertion) (t r : SlotId) → e ≡ Link t r → (s : SlotId) (a : Sym) (x : Term) → e ≡ Entry s a x → ⊥
no_entry_link e t r is s a x h = cc

-- the attributes of a bag of those of the network
numbers_same : (bag : BagPairs) → map (λ (a : Sym). a.0) (map (λ (p : Sym × Term). p.0) bag) ≡ map (λ p. p.0.0) bag
numbers_same [] = refl
numbers_same (p ∷ bag) = ap (λ ns. p.0.0 ∷ ns) (numbers_same bag)

pub attributes_all : (network : List Assertion) (bag : BagPairs) (keys : List Sym) → HasAttributesOf network bag → keys ≡ map (λ (p : Sym × Term). p.0) bag → AreAttributes network keys
attributes_all network bag keys h e = subst (λ ks. AreAttributes network ks) (sym e) (record {
  rising = subst (λ ns. IsRising ns) (sym (numbers_same bag)) h.listed;
  entries = λ a. (
    λ i. let p = IsAmong-map_from (λ (p : Sym × Term). p.0) bag a i in (h.entries a).0 (subst (λ b. HasAttribute bag b) (sym p.2) (p.0.1, p.1)),
    λ has. let v = (h.entries a).1 has in IsAmong-map (λ (p : Sym × Term). p.0) bag (a, v.0) v.1,
  );
})

pub attributes_ok : (network : List Assertion) (bag : BagPairs) (r : Result (List Sym) Memory) → HasAttributesOf network bag → IfOk r (λ keys. keys ≡ map (λ (p : Sym × Term). p.0) bag) → IfOk r (AreAttributes network)
attributes_ok network bag (Ok keys) h e = attributes_all network bag keys h e
attributes_ok network bag (Err m) h e = tt

pub keys_more : (bag : BagPairs) (place : ℕ) (pair : Sym × Term) (old new : List Sym) → slice_get bag place ≡ Some pair → old ≡ map (λ (p : Sym × Term). p.0) (take place bag) → new ≡ old ++ pair.0 ∷ []
    → new ≡ map (λ (p : Sym × Term). p.0) (take (place + 1) bag)
keys_more bag place pair old new at so_far e =
    e ∙ ap (λ ks. ks ++ pair.0 ∷ []) so_far ∙ sym (map-append (λ (p : Sym × Term). p.0) (take place bag) (pair ∷ [])) ∙ ap (map (λ (p : Sym × Term). p.0)) (sym (take-one_more bag place pair at))

-- a store that carries a description's network has no other attributes
pub covers : (d : code.Description) (F : Forest (List ℕ)) (accepted : List Assertion) (attributes : List Sym) → AreAttributes d.network attributes → Carries accepted (merged_network (description_of d) F)
    → CoverAttributes accepted attributes
covers d F accepted attributes are carries s a x i =
    let j : IsAmong (network_of accepted) (net.entry s.0 a.0 (term_of x)) = (IsAmong-network_of accepted (Entry s a x)).1 i in
    let k : IsAmong (network_of d.network) (net.entry s.0 a.0 (term_of x)) = merged_entry (description_of d) F s.0 a.0 (term_of x) (carries.only (net.entry s.0 a.0 (term_of x)) j) in
    (are.entries a).1 (s, x, (IsAmong-network_of d.network (Entry s a x)).0 k)

-- ---- a canonical bag

pub bag_step : (N : List (net.Assertion ℕ ℕ)) (slot : SlotId) (attributes : List Sym) (attr : Sym) (old new : BagPairs) (value least : Term) (added : Bool)
    → IsCollected N slot.0 attributes old → IsFirstValue N slot.0 attr.0 (term_of value) → net.AreLinked N (term_of value) (term_of least) → ((u : Term) → net.AreLinked N (term_of value) (term_of u) → rank least ≤ rank u)
    → OnTrue added (LacksAttribute old attr) → OnTrue added (Puts old new (attr, least)) → OnFalse added (HasAttribute old attr) → OnFalse added (new ≡ old) → IsListed new
    → IsCollected N slot.0 (attributes ++ attr ∷ []) new
bag_step N slot attributes attr old new value least true so_far first l low lacks put there stays listed =
    IsCollected-missing N slot.0 attributes attr old new least so_far
    (record { lacks = lacks; of = term_of value; has = HasValue-first N slot.0 attr.0 (term_of value) first; stands = least_stands N (term_of value) least l low }) put listed
bag_step N slot attributes attr old new value least false so_far first l low lacks put there stays listed =
    subst (λ bag. IsCollected N slot.0 (attributes ++ attr ∷ []) bag) (sym stays) (IsCollected-done N slot.0 attributes attr old so_far (λ x has. there))

pub bag_skip : (N : List (net.Assertion ℕ ℕ)) (slot : SlotId) (attributes : List Sym) (attr : Sym) (bag : BagPairs) → IsCollected N slot.0 attributes bag → ((x : net.Term ℕ) → HasValue N slot.0 attr.0 x → ⊥)
    → IsCollected N slot.0 (attributes ++ attr ∷ []) bag
bag_skip N slot attributes attr bag so_far none = IsCollected-done N slot.0 attributes attr bag so_far (λ x has. absurd (none x has))

pub bag_all : (accepted : List Assertion) (slot : ℕ) (attributes : List Sym) (bag : BagPairs) → Agrees (network_of accepted) → CoverAttributes accepted attributes
    → IsCollected (network_of accepted) slot attributes bag → IsCanonicalBag (network_of accepted) slot bag
bag_all accepted slot attributes bag agrees cover h =
    IsCollected-all accepted slot bag agrees (record {
      listed = h.listed;
      only = h.only;
      all = λ attr i x has.
          let y = term_from x in
          let e : net.entry has.0 attr.0 x ≡ net.entry has.0 attr.0 (term_of y) = ap (net.entry has.0 attr.0) (sym (term_of-term_from x)) in
          let there : IsAmong accepted (Entry (record { 0 = has.0 }) attr y) = (IsAmong-network_of accepted (Entry (record { 0 = has.0 }) attr y)).0 (subst (λ z. IsAmong (network_of accepted) z) e has.2) in
          h.all attr (cover (record { 0 = has.0 }) attr y there) x has;
    })

-- ---- lists of what stands for terms

pub zip_push : {A B C : Type 0} (R : C → B → Type 0) (f : A → C) (xs : List A) (place : ℕ) (x : A) (old new : List B) (y : B) → slice_get xs place ≡ Some x → AllZip R (map f (take place xs)) old → R (f x) y
    → new ≡ old ++ y ∷ [] → AllZip R (map f (take (place + 1) xs)) new
zip_push R f xs place x old new y at so_far one e =
    let upto : map f (take (place + 1) xs) ≡ map f (take place xs) ++ f x ∷ [] = ap (map f) (take-one_more xs place x at) ∙ map-append f (take place xs) (x ∷ []) in
    subst (λ cs. AllZip R cs new) (sym upto)
    (subst (λ bs. AllZip R (map f (take place xs) ++ f x ∷ []) bs) (sym e) (AllZip-append R (map f (take place xs)) (f x ∷ []) old (y ∷ []) so_far (one, tt)))

pub zip_all : {A B C : Type 0} (R : C → B → Type 0) (f : A → C) (xs : List A) (place : ℕ) (ys : List B) → length xs ≤ place → AllZip R (map f (take place xs)) ys → AllZip R (map f xs) ys
zip_all R f xs place ys h z = subst (λ zs. AllZip R (map f zs) ys) (take_all place xs h) z

-- ---- tree nodes

pub head_there : (d : code.Description) (F : Forest (List ℕ)) (place head : ℕ) → IsForestOf (length d.nodes) F → IsHeadAt F place head → head < length d.nodes
head_there d F place head f h = (f.nodes head).0 (head_in F head (place_head F place head h))

pub slots_there : (d : code.Description) (F : Forest (List ℕ)) (place head : ℕ) (n : DescribedNode) → IsHeadAt F place head → slice_get d.nodes head ≡ Some n
    → slice_get (labels (map_forest (slots_at (description_of d).nodes (description_of d).interface) F)) place ≡ Some (node_of n).slots
slots_there d F place head n (rest, at) here =
    let D = description_of d in
    let g = slots_at D.nodes D.interface in
    let one : g (head ∷ rest) ≡ (node_of n).slots = rw (node_at_place d head n here, slots_at) refl in
    ap (λ ls. slice_get ls place) (labels-map g F) ∙ slice_get-map g (labels F) place ∙ ap (option_map g) at ∙ ap Some one

pushed_at : {A : Type 0} (xs : List A) (x : A) (i : ℕ) (y : A) → slice_get (xs ++ x ∷ []) i ≡ Some y → (slice_get xs i ≡ Some y) ⊎ ((i ≡ length xs) × (x ≡ y))
pushed_at [] x zero y at = inr (refl, same_Some x y at)
pushed_at [] x (suc i) y at = absurd (none-some y at)
pushed_at (z ∷ xs) x zero y at = inl at
pushed_at (z ∷ xs) x (suc i) y at = elim (pushed_at xs x i y at) [ inl h ↦ inl h | inr h ↦ inr (ap suc h.0, h.1) ]

pub nodes_push : (N : List (net.Assertion ℕ ℕ)) (d : code.Description) (F : Forest (List ℕ)) (place : ℕ) (old new : List TreeNode) (x : TreeNode) → AreModelNodes N (description_of d) F place old
    → IsModelNode N (description_of d) F place x → new ≡ old ++ x ∷ [] → AreModelNodes N (description_of d) F (place + 1) new
nodes_push N d F place old new x so_far here e = subst (λ ns. AreModelNodes N (description_of d) F (place + 1) ns) (sym e) (record {
  as_many = length-append old (x ∷ []) ∙ ap (λ n. n + 1) so_far.as_many;
  each = λ i y at. one i y at;
})
  where
    one : (i : ℕ) (y : TreeNode) → slice_get (old ++ x ∷ []) i ≡ Some y → IsModelNode N (description_of d) F i y
    one i y at = elim (pushed_at old x i y at) [
      | inl h ↦ so_far.each i y h
      | inr h ↦
          let same_place : place ≡ i = sym (h.0 ∙ so_far.as_many) in
          subst (λ k. IsModelNode N (description_of d) F k y) same_place (subst (λ z. IsModelNode N (description_of d) F place z) h.1 here)
    ]
