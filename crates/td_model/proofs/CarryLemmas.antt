-- What a store's assertions carry, from loading on and after each step.
use Rattle.std.specs.Prelude.{◌≡◌, ℕ, ◌+◌, List, [], ◌∷◌, ◌++◌, ◌↔◌, Option, Some, slice_get, refl}
use Rattle.std.proofs.Common.{inl, inr, ap, sym, subst, arith}
use Rattle.std.proofs.lemmas.Option.{slice_get-map}
use Rattle.gr_base.specs.Lists.{IsAmong}
use Rattle.gr_base.specs.Forests.{Forest, empty}
use Rattle.gr_base.proofs.ListLemmas.{IsAmong-append, IsAmong-append_left, IsAmong-append_right}
use Rattle.gr_terms.specs.Networks as net
use Rattle.gr_terms.specs.Networks.{Agrees, link}
use Rattle.gr_terms.specs.Views.{network_of}
use Rattle.gr_terms.specs.declared.Assertion.{Assertion}
use Rattle.gr_terms.proofs.NetworkLemmas.{Agrees-part}
use Rattle.gr_terms.proofs.ViewLemmas.{network_of-append}
use Rattle.gr_store.specs.Contents.{Contents}
use Rattle.td_forest.specs.Names.{IsHead}
use Rattle.td_forest.specs.Nodes.{IsForestOf}
use Rattle.td_forest.specs.Steps.{IsStep, after_step}
use Rattle.td_forest.specs.declared.Step.TheVariants.{Merge, Insert}
use Rattle.td_forest.proofs.Naming.{head_in}
use Rattle.td_desc.specs.Descriptions.{Description, description_of, node_of}
use Rattle.td_desc.specs.declared.DescribedNode.{DescribedNode}
use Rattle.td_desc.specs.declared.Description as code
use Rattle.td_colour.specs.Models.{merged_network, node_links}
use Rattle.td_colour.proofs.Linking.{links_kept, insert_links, merge_adds, merge_links}
use Rattle.td_model.specs.Carrying.{Carries}
use Rattle.td_model.specs.Loads.{IsLoaded, slot_links}

pub carries_agrees : (accepted : List Assertion) (N : List (net.Assertion ℕ ℕ)) → Carries accepted N → Agrees (network_of accepted) ↔ Agrees N
carries_agrees accepted N h = (Agrees-part N (network_of accepted) h.all, Agrees-part (network_of accepted) N h.only)

pub loaded_carries : (d : code.Description) (c : Contents) → IsLoaded d c → Carries c.accepted (merged_network (description_of d) empty)
loaded_carries d c h =
    let N = network_of d.network in
    let same : network_of c.accepted ≡ N = ap network_of h.accepted in
    record {
      all = λ x i. subst (λ M. IsAmong M x) (sym same) (elim (IsAmong-append N [] x i) [ inl j ↦ j | inr j ↦ absurd j ]);
      only = λ x i. IsAmong-append_left N [] x (subst (λ M. IsAmong M x) same i);
    }

pub insert_carries : (d : Description ℕ ℕ) (m : ℕ) (F : Forest (List ℕ)) (under : Option ℕ) (from to : ℕ) (accepted : List Assertion)
    → IsForestOf m F → IsStep F (Insert under from to) → Carries accepted (merged_network d F) → Carries accepted (merged_network d (after_step m (Insert under from to) F))
insert_carries d m F under from to accepted f step h = record {
  all = λ x i. h.all x (insert_links d m F f under from to step x i);
  only = λ x i. links_kept d m F f (Insert under from to) step x (h.only x i);
}

-- the links of the code's nodes are those of the nodes at numbers
links_same : (n o : DescribedNode) → network_of (slot_links 0 n o) ≡ node_links (Some (node_of n)) (Some (node_of o))
links_same n o =
    let a : 0 + n.own.0 ≡ n.own.0 = omega arith in
    let b : 0 + o.own.0 ≡ o.own.0 = omega arith in
    let c : 0 + n.top.0 ≡ n.top.0 = omega arith in
    let d : 0 + o.top.0 ≡ o.top.0 = omega arith in
    let e : 0 + n.bot.0 ≡ n.bot.0 = omega arith in
    let f : 0 + o.bot.0 ≡ o.bot.0 = omega arith in
    λ i. link (a i) (b i) ∷ link (c i) (d i) ∷ link (e i) (f i) ∷ []

pub node_at_place : (d : code.Description) (at : ℕ) (n : DescribedNode) → slice_get d.nodes at ≡ Some n → slice_get (description_of d).nodes at ≡ Some (node_of n)
node_at_place d at n e = rw (slice_get-map node_of d.nodes at, e) refl

module _ (d : code.Description) (m at : ℕ) (F : Forest (List ℕ)) (n o : DescribedNode) (accepted : List Assertion) (f : IsForestOf m F) (head : IsHead F at)
    (here : slice_get d.nodes at ≡ Some n) (there : slice_get d.nodes m ≡ Some o) (h : Carries accepted (merged_network (description_of d) F)) where
  abbrev D : Description ℕ ℕ
  D = description_of d

  more_is : node_links (slice_get D.nodes at) (slice_get D.nodes m) ≡ network_of (slot_links 0 n o)
  more_is = rw (node_at_place d at n here, node_at_place d m o there) (sym (links_same n o))

  split : network_of (accepted ++ slot_links 0 n o) ≡ network_of accepted ++ network_of (slot_links 0 n o)
  split = network_of-append accepted (slot_links 0 n o)

  pub merge_carries : Carries (accepted ++ slot_links 0 n o) (merged_network D (after_step m (Merge at) F))
  merge_carries = record {
    all = λ x i.
        subst (λ M. IsAmong M x) (sym split)
        (elim (IsAmong-append (merged_network D F) (node_links (slice_get D.nodes at) (slice_get D.nodes m)) x (merge_links D m F f at head x i)) [
          | inl j ↦ IsAmong-append_left (network_of accepted) (network_of (slot_links 0 n o)) x (h.all x j)
          | inr j ↦ IsAmong-append_right (network_of accepted) (network_of (slot_links 0 n o)) x (subst (λ M. IsAmong M x) more_is j)
        ]);
    only = λ x i.
        elim (IsAmong-append (network_of accepted) (network_of (slot_links 0 n o)) x (subst (λ M. IsAmong M x) split i)) [
          | inl j ↦ links_kept D m F f (Merge at) (head_in F at head) x (h.only x j)
          | inr j ↦ merge_adds D m F f at head x (subst (λ M. IsAmong M x) (sym more_is) j)
        ];
  }
