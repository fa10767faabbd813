-- The texts of the minimal models, each the only one of its model.
use Rattle.std.specs.Prelude.{◌≡◌, ℕ, ◌<◌, List, [], ◌∷◌, Option, Some, None, length, map, slice_get, ◌↔◌}
use Rattle.std.proofs.Common.{inl, inr, subst, sym, ◌∙◌, arith}
use Rattle.std.proofs.lemmas.List.{length-map}
use Rattle.gr_base.specs.Lists.{IsAmong, NoneTwice, gathered}
use Rattle.gr_base.specs.Forests.{Forest, empty, labels}
use Rattle.gr_base.proofs.ListLemmas.{IsAmong-append, IsAmong-map, IsAmong-map_from, Each-at}
use Rattle.gr_terms.specs.Networks as net
use Rattle.gr_terms.specs.Networks.{entry, link, HasValue}
use Rattle.gr_terms.specs.Views.{assertion_of}
use Rattle.gr_terms.specs.declared.Assertion.{Assertion}
use Rattle.gr_terms.specs.declared.Assertion.TheVariants.{Entry, Equate, Link}
use Rattle.td_canon.specs.CanonicalTexts.{text_in, TellsAttributesApart}
use Rattle.td_canon.specs.TreeSets as sets
use Rattle.td_canon.proofs.TellingLemmas.{one_network_text}
use Rattle.td_canon.specs.TreeSets.{texts_of}
use Rattle.td_canon.proofs.OrderLemmas.{texts_apart}
use Rattle.td_desc.specs.declared.Description as code
use Rattle.td_desc.specs.Descriptions.{Description, DescribedNode, node_of, description_of}
use Rattle.td_forest.specs.Without.{without}
use Rattle.td_desc.specs.Likeness.{SayTheSame}
use Rattle.td_colour.proofs.Likening.{same_minimal}
use Rattle.td_colour.specs.Models.{node_links, set_links, merged_network, model_tree, IsForestModel, IsMinimalModel}
use Rattle.td_model.specs.ModelTrees.{IsNamedAssertion, IsNamedDescription}
use Rattle.td_model.proofs.EntryLemmas.{entry_text, same_entries}
use Rattle.td_solver.specs.Searches.{Below}
use Rattle.td_solver.specs.Solutions.{GainsSome, GainsAll, IsSolution, IsSolutionText}
use Rattle.td_solver.specs.Turns.{HasTextOf, HasAllBelow}

-- a solution has the text of a minimal model
pub solution_text : {V S : Type 0} (texts : List (List ℕ)) (d : Description V S) (e : sets.Entry) → IsSolution texts d e → IsSolutionText (text_in texts) d e.text
solution_text texts d e s = (s.forest, s.minimal, entry_text texts d s.forest e s.entry)

-- descriptions that say the same have the same solutions
pub same_solutions : {V S W R : Type 0} (a : Description V S) (b : Description W R) → SayTheSame a b → (texts : List (List ℕ)) (e : sets.Entry) → IsSolution texts a e ↔ IsSolution texts b e
same_solutions a b same texts e = (
  (λ s. record { forest = s.forest; minimal = (same_minimal a b same s.forest).0 s.minimal; entry = (same_entries a b same texts s.forest e).0 s.entry }),
  (λ s. record { forest = s.forest; minimal = (same_minimal a b same s.forest).1 s.minimal; entry = (same_entries a b same texts s.forest e).1 s.entry }),
)

-- what a network of nodes that share tree nodes has more is links
link_of_nodes : (a b : Option (DescribedNode ℕ)) (x : net.Assertion ℕ ℕ) → IsAmong (node_links a b) x → (s t : ℕ) × (x ≡ link s t)
link_of_nodes None b x i = absurd i
link_of_nodes (Some a) None x i = absurd i
link_of_nodes (Some a) (Some b) x (inl e) = (a.slots.own, b.slots.own, e)
link_of_nodes (Some a) (Some b) x (inr (inl e)) = (a.slots.top, b.slots.top, e)
link_of_nodes (Some a) (Some b) x (inr (inr (inl e))) = (a.slots.bottom, b.slots.bottom, e)
link_of_nodes (Some a) (Some b) x (inr (inr (inr k))) = absurd k

link_of_rest : (nodes : List (DescribedNode ℕ)) (y : ℕ) (set : List ℕ) (x : net.Assertion ℕ ℕ) → IsAmong (gathered (λ z. node_links (slice_get nodes y) (slice_get nodes z)) set) x → (s t : ℕ) × (x ≡ link s t)
link_of_rest nodes y [] x i = absurd i
link_of_rest nodes y (z ∷ zs) x i =
    elim (IsAmong-append (node_links (slice_get nodes y) (slice_get nodes z)) (gathered (λ w. node_links (slice_get nodes y) (slice_get nodes w)) zs) x i) [
      | inl j ↦ link_of_nodes (slice_get nodes y) (slice_get nodes z) x j
      | inr j ↦ link_of_rest nodes y zs x j
    ]

link_of_set : (nodes : List (DescribedNode ℕ)) (set : List ℕ) (x : net.Assertion ℕ ℕ) → IsAmong (set_links nodes set) x → (s t : ℕ) × (x ≡ link s t)
link_of_set nodes [] x i = absurd i
link_of_set nodes (y ∷ ys) x i = link_of_rest nodes y ys x i

link_of_sets : (nodes : List (DescribedNode ℕ)) (sets : List (List ℕ)) (x : net.Assertion ℕ ℕ) → IsAmong (gathered (set_links nodes) sets) x → (s t : ℕ) × (x ≡ link s t)
link_of_sets nodes [] x i = absurd i
link_of_sets nodes (set ∷ more) x i = elim (IsAmong-append (set_links nodes set) (gathered (set_links nodes) more) x i) [
  | inl j ↦ link_of_set nodes set x j
  | inr j ↦ link_of_sets nodes more x j
]

entry_no_link : (s a t u : ℕ) (x : net.Term ℕ) → entry s a x ≡ link t u → ⊥
entry_no_link s a t u x e = cc

entry_of_network : (d : Description ℕ ℕ) (F : Forest (List ℕ)) (s a : ℕ) (x : net.Term ℕ) → IsAmong (merged_network d F) (entry s a x) → IsAmong d.network (entry s a x)
entry_of_network d F s a x i = elim (IsAmong-append d.network (gathered (set_links d.nodes) (labels F)) (entry s a x) i) [
  | inl j ↦ j
  | inr j ↦ let l = link_of_sets d.nodes (labels F) (entry s a x) j in absurd (entry_no_link s a l.0 l.1 x l.2)
]

attribute_named : (count s a : ℕ) (x : net.Term ℕ) (c : Assertion) → IsNamedAssertion count c → entry s a x ≡ assertion_of c → a < count
attribute_named count s a x (Entry t p v) named e = let q : a ≡ p.0 = same e in let l : p.0 < count = named.0 in omega arith
  where
    same : entry s a x ≡ assertion_of (Entry t p v) → a ≡ p.0
    same f = cc
attribute_named count s a x (Equate u v) named e = absurd (differ e)
  where
    differ : entry s a x ≡ assertion_of (Equate u v) → ⊥
    differ f = cc
attribute_named count s a x (Link t u) named e = absurd (differ e)
  where
    differ : entry s a x ≡ assertion_of (Link t u) → ⊥
    differ f = cc

module _ (dd : code.Description) (texts : List (List ℕ)) (once : NoneTwice texts) (named : IsNamedDescription (length texts) dd) where
  abbrev d : Description ℕ ℕ
  d = description_of dd

  attribute_below : (F : Forest (List ℕ)) (s a : ℕ) (x : net.Term ℕ) → HasValue (merged_network d F) s a x → a < length texts
  attribute_below F s a x h =
      let r = IsAmong-map_from assertion_of dd.network (entry h.0 a x) (entry_of_network d F h.0 a x h.2) in
      attribute_named (length texts) h.0 a x r.0 (Each-at (IsNamedAssertion (length texts)) dd.network r.0 named.network r.1) r.2

  tells_apart : (F : Forest (List ℕ)) → TellsAttributesApart (text_in texts) (merged_network d F) (model_tree d F)
  tells_apart F p q s r x y i j hp hq e = texts_apart texts p q once (attribute_below F s p x hp) (attribute_below F r q y hq) e

  -- all texts of all minimal models were gained
  pub gains_all : (old new : List sets.Entry) → GainsSome texts d old new → ((F : Forest (List ℕ)) → IsMinimalModel d F → HasTextOf (text_in texts) d F new) → GainsAll texts d old new
  gains_all old new g all bytes = (
    (λ i.
        let r = IsAmong-map_from (λ (e : sets.Entry). e.text) new bytes i in
        elim (g.only r.0 r.1) [
          | inl j ↦ inl (subst (λ t. IsAmong (texts_of old) t) (sym r.2) (IsAmong-map (λ (e : sets.Entry). e.text) old r.0 j))
          | inr s ↦ inr (subst (λ t. IsSolutionText (text_in texts) d t) (sym r.2) (solution_text texts d r.0 s))
        ]),
    (λ i. elim i [
      | inl j ↦
          let r = IsAmong-map_from (λ (e : sets.Entry). e.text) old bytes j in
          subst (λ t. IsAmong (texts_of new) t) (sym r.2) (IsAmong-map (λ (e : sets.Entry). e.text) new r.0 (g.kept r.0 r.1))
      | inr s ↦
          let h = all s.0 s.1 in
          let e : h.0 ≡ bytes = one_network_text (text_in texts) (merged_network d s.0) (model_tree d s.0) h.0 bytes (tells_apart s.0) h.1 s.2 in
          subst (λ t. IsAmong (texts_of new) t) e h.2
    ]),
  )

  -- from the empty forest on
  pub all_gained : (old new : List sets.Entry) (count : ℕ) → count ≡ length dd.nodes → GainsSome texts d old new → ((F : Forest (List ℕ)) → IsForestModel d count F → Below (IsForestModel d) without count 0 empty F)
      → HasAllBelow (text_in texts) d count 0 empty new → GainsAll texts d old new
  all_gained old new count e g below all = gains_all old new g (λ F h.
      let n : length (map node_of dd.nodes) ≡ count = length-map dd.nodes node_of ∙ sym e in
      all F (below F (subst (λ k. IsForestModel d k F) n h.model)) h.one)

-- where nothing is a model, nothing is to be gained
pub none_gained : (dd : code.Description) (texts : List (List ℕ)) (set : List sets.Entry) → ((m : ℕ) (F : Forest (List ℕ)) → IsForestModel (description_of dd) m F → ⊥) → GainsAll texts (description_of dd) set set
none_gained dd texts set none bytes = (
  (λ i. inl i),
  (λ i. elim i [ inl j ↦ j | inr s ↦ absurd (none (length (description_of dd).nodes) s.0 s.1.model) ]),
)
