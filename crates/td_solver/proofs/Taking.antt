-- One step of the search: what it keeps in the store, and when a forest model comes of it.
use Rattle.std.specs.Prelude.{◌≡◌, ℕ, suc, ◌+◌, ◌*◌, ◌-◌, ◌<◌, ◌≤◌, List, ◌++◌, ◌↔◌, Option, Some, length, map, slice_get, refl}
use Rattle.std.proofs.Common.{inl, inr, subst, sym, ap, ◌∙◌, arith, zero-add}
use Rattle.std.specs.Option.{option_map}
use Rattle.std.proofs.lemmas.Option.{slice_get-map}
use Rattle.gr_base.specs.Lists.{IsAmong}
use Rattle.gr_base.specs.Forests.{Forest}
use Rattle.gr_base.proofs.ListLemmas.{IsAmong-append, IsAmong-append_left, IsAmong-append_right, IsAmong-slice_get, Each-at}
use Rattle.gr_terms.specs.Networks.{Agrees, link}
use Rattle.gr_terms.specs.Networks as net
use Rattle.gr_terms.specs.Views.{network_of}
use Rattle.gr_terms.specs.declared.Assertion.{Assertion}
use Rattle.gr_terms.proofs.NetworkLemmas.{Agrees-part}
use Rattle.gr_terms.proofs.ViewLemmas.{network_of-append}
use Rattle.gr_store.specs.Contents.{Contents}
use Rattle.td_desc.specs.declared.DescribedNode as code_node
use Rattle.td_desc.specs.declared.Description as code
use Rattle.td_desc.specs.Conditions.{IsNumbered, AreSlotsBelow}
use Rattle.td_desc.specs.Descriptions.{Description, node_of, description_of}
use Rattle.td_forest.specs.declared.Step.{Step}
use Rattle.td_forest.specs.declared.Step.TheVariants.{Merge, Insert}
use Rattle.td_forest.specs.Nodes.{IsForestOf}
use Rattle.td_forest.specs.Steps.{after_step, IsStep}
use Rattle.td_forest.specs.Names.{IsHead, IsNamedStep}
use Rattle.td_forest.specs.Without.{without}
use Rattle.td_forest.proofs.Naming.{head_in}
use Rattle.td_forest.proofs.Forming.{forest_is}
use Rattle.td_forest.proofs.OneStep.{named_step, step_taken_back, step_below, last_new}
use Rattle.td_colour.specs.Colours.{IsAllowed}
use Rattle.td_colour.specs.Models.{node_links, merged_network, AllHold, IsForestModel}
use Rattle.td_colour.proofs.Linking.{links_kept, insert_links, merge_adds, merge_links}
use Rattle.td_colour.proofs.Modelling.{step_decides}
use Rattle.td_model.specs.Carrying.{Carries}
use Rattle.td_model.specs.Loads.{AreSlotsMade, slot_links, with_links}
use Rattle.td_model.proofs.CarryLemmas.{carries_agrees}
use Rattle.td_solver.specs.Turns.{Keeps}

links_are : (a b : code_node.DescribedNode) → network_of (slot_links 0 a b) ≡ node_links (Some (node_of a)) (Some (node_of b))
links_are a b = rw (zero-add a.own.0, zero-add b.own.0, zero-add a.top.0, zero-add b.top.0, zero-add a.bot.0, zero-add b.bot.0) refl

node_at : (nodes : List code_node.DescribedNode) (x : ℕ) (n : code_node.DescribedNode) → slice_get nodes x ≡ Some n → slice_get (map node_of nodes) x ≡ Some (node_of n)
node_at nodes x n e = slice_get-map node_of nodes x ∙ ap (option_map node_of) e

module _ (dd : code.Description) (m : ℕ) (F : Forest (List ℕ)) (f : IsForestOf m F) (low : m < length dd.nodes) where
  abbrev d : Description ℕ ℕ
  d = description_of dd

  insert_carries : (under : Option ℕ) (from to : ℕ) (accepted : List Assertion) → IsStep F (Insert under from to) → Carries accepted (merged_network d F)
      → Carries accepted (merged_network d (after_step m (Insert under from to) F))
  insert_carries under from to accepted step c = record {
    all = λ x i. c.all x (insert_links d m F f under from to step x i);
    only = λ x i. links_kept d m F f (Insert under from to) step x (c.only x i);
  }

  pub insert_keeps : (under : Option ℕ) (from to : ℕ) (c : Contents) → IsStep F (Insert under from to) → Keeps dd m F c → Keeps dd (m + 1) (after_step m (Insert under from to) F) c
  insert_keeps under from to c step k = record {
    slots = k.slots;
    carries = insert_carries under from to c.accepted step k.carries;
    room = let r : 3 * (length dd.nodes - m) ≤ c.spare.assertions = k.room in omega arith;
  }

  module _ (at : ℕ) (head : IsHead F at) (a b : code_node.DescribedNode) (a_is : slice_get dd.nodes at ≡ Some a) (b_is : slice_get dd.nodes m ≡ Some b) where
    links_so : node_links (slice_get d.nodes at) (slice_get d.nodes m) ≡ network_of (slot_links 0 a b)
    links_so =
        let e = node_at dd.nodes at a a_is in
        let g = node_at dd.nodes m b b_is in
        ap (λ o. node_links o (slice_get d.nodes m)) e ∙ ap (λ o. node_links (Some (node_of a)) o) g ∙ sym (links_are a b)

    pub merge_carries : (accepted : List Assertion) → Carries accepted (merged_network d F) → Carries (accepted ++ slot_links 0 a b) (merged_network d (after_step m (Merge at) F))
    merge_carries accepted c = record {
      all = λ x i. subst (λ zs. IsAmong zs x) (sym (network_of-append accepted (slot_links 0 a b)))
          (elim (IsAmong-append (merged_network d F) (node_links (slice_get d.nodes at) (slice_get d.nodes m)) x (merge_links d m F f at head x i)) [
            | inl j ↦ IsAmong-append_left (network_of accepted) (network_of (slot_links 0 a b)) x (c.all x j)
            | inr j ↦ IsAmong-append_right (network_of accepted) (network_of (slot_links 0 a b)) x (subst (λ zs. IsAmong zs x) links_so j)
          ]);
      only = λ x i. elim (IsAmong-append (network_of accepted) (network_of (slot_links 0 a b)) x (subst (λ zs. IsAmong zs x) (network_of-append accepted (slot_links 0 a b)) i)) [
        | inl j ↦ links_kept d m F f (Merge at) (head_in F at head) x (c.only x j)
        | inr j ↦ merge_adds d m F f at head x (subst (λ zs. IsAmong zs x) (sym links_so) j)
      ];
    }

    pub merge_keeps : (c : Contents) → Keeps dd m F c → Keeps dd (m + 1) (after_step m (Merge at) F) (with_links c (slot_links 0 a b))
    merge_keeps c k = record {
      slots = k.slots;
      carries = merge_carries c.accepted k.carries;
      room = let r : 3 * (length dd.nodes - m) ≤ c.spare.assertions = k.room in omega arith;
    }

-- a step of a model to one node more
module _ (d : Description ℕ ℕ) (m : ℕ) (F : Forest (List ℕ)) (model : IsForestModel d m F) (s : Step) (named : IsNamedStep F s) where
  there : IsStep F s
  there = named_step F s named

  later : m + 1 ≡ suc m
  later = omega arith

  pub forest_later : IsForestOf (m + 1) (after_step m s F)
  forest_later = subst (λ k. IsForestOf k (after_step m s F)) (sym later) (step_below m F s model.nodes there)

  pub hold_before : AllHold d.relations m (without m (after_step m s F))
  hold_before = subst (λ G. AllHold d.relations m G) (sym (step_taken_back F m s (forest_is F model.nodes.forest) (last_new m F model.nodes) there)) model.relations

  pub model_later : IsAllowed d.nodes (after_step m s F) m → AllHold d.relations (m + 1) (after_step m s F) → Agrees (merged_network d (after_step m s F)) → IsForestModel d (m + 1) (after_step m s F)
  model_later allowed hold agrees =
      subst (λ k. IsForestModel d k (after_step m s F)) (sym later)
      ((step_decides d m F s model there).1 (subst (λ k. AllHold d.relations k (after_step m s F)) later hold, allowed, agrees))

  pub later_hold : IsForestModel d (m + 1) (after_step m s F) → AllHold d.relations (m + 1) (after_step m s F)
  later_hold h = h.relations

-- the same of a step that is known by its kind
module _ (dd : code.Description) (m : ℕ) (F : Forest (List ℕ)) (model : IsForestModel (description_of dd) m F) (low : m < length dd.nodes) (s : Step) where
  pub insert_agrees : {under : Option ℕ} {from to : ℕ} → s ≡ Insert under from to → IsNamedStep F s → Agrees (merged_network (description_of dd) (after_step m s F))
  insert_agrees {under} {from} {to} e named =
      let there : IsStep F (Insert under from to) = named_step F (Insert under from to) (subst (λ t. IsNamedStep F t) e named) in
      subst (λ t. Agrees (merged_network (description_of dd) (after_step m t F))) (sym e)
      (Agrees-part (merged_network (description_of dd) (after_step m (Insert under from to) F)) (merged_network (description_of dd) F)
      (insert_links (description_of dd) m F model.nodes under from to there) model.network)

  pub insert_kept : {under : Option ℕ} {from to : ℕ} → s ≡ Insert under from to → IsNamedStep F s → (c : Contents) → Keeps dd m F c → Keeps dd (m + 1) (after_step m s F) c
  insert_kept {under} {from} {to} e named c k =
      let there : IsStep F (Insert under from to) = named_step F (Insert under from to) (subst (λ t. IsNamedStep F t) e named) in
      subst (λ t. Keeps dd (m + 1) (after_step m t F) c) (sym e) (insert_keeps dd m F model.nodes low under from to c there k)

  pub merge_head : (at : ℕ) → s ≡ Merge at → IsNamedStep F s → IsHead F at
  merge_head at e named = subst (λ t. IsNamedStep F t) e named

  pub merge_low : (at : ℕ) → s ≡ Merge at → IsNamedStep F s → at < m
  merge_low at e named = (model.nodes.nodes at).0 (head_in F at (merge_head at e named))

  module _ (at : ℕ) (e : s ≡ Merge at) (named : IsNamedStep F s) (a b : code_node.DescribedNode) (a_is : slice_get dd.nodes at ≡ Some a) (b_is : slice_get dd.nodes m ≡ Some b) (c : Contents) (k : Keeps dd m F c) where
    pub merge_agrees : Agrees (network_of (c.accepted ++ slot_links 0 a b)) ↔ Agrees (merged_network (description_of dd) (after_step m s F))
    merge_agrees =
        subst (λ t. Agrees (network_of (c.accepted ++ slot_links 0 a b)) ↔ Agrees (merged_network (description_of dd) (after_step m t F))) (sym e)
        (carries_agrees (c.accepted ++ slot_links 0 a b) (merged_network (description_of dd) (after_step m (Merge at) F))
        (merge_carries dd m F model.nodes low at (merge_head at e named) a b a_is b_is c.accepted k.carries))

    pub merge_kept : (new : Contents) → new ≡ with_links c (slot_links 0 a b) → Keeps dd (m + 1) (after_step m s F) new
    merge_kept new is =
        subst (λ t. Keeps dd (m + 1) (after_step m t F) new) (sym e)
        (subst (λ x. Keeps dd (m + 1) (after_step m (Merge at) F) x) (sym is) (merge_keeps dd m F model.nodes low at (merge_head at e named) a b a_is b_is c k))

-- the slots of a node are there
pub slots_made : (dd : code.Description) (slots x : ℕ) (n : code_node.DescribedNode) → slots ≡ dd.slots → IsNumbered dd → slice_get dd.nodes x ≡ Some n → AreSlotsMade 0 slots n
slots_made dd slots x n e numbered at =
    let h = Each-at (AreSlotsBelow dd.slots) dd.nodes n numbered.nodes (IsAmong-slice_get dd.nodes x n at) in
    let a : n.own.0 < dd.slots = h.0 in
    let b : n.top.0 < dd.slots = h.1 in
    let c : n.bot.0 < dd.slots = h.2 in
    record { own = omega arith; top = omega arith; bot = omega arith }
