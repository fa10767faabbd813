-- The steps that the colour of a node leaves to it, as the code finds them.
use Rattle.std.specs.Prelude.{◌≡◌, ℕ, suc, ◌<◌, List, map, ◌↔◌, Bool, true, IsTrue, Option, Some, None, length, slice_get, refl}
use Rattle.std.proofs.Common.{subst, sym, ap, ◌∙◌, arith}
use Rattle.std.specs.Option.{option_map}
use Rattle.std.proofs.lemmas.Option.{slice_get-map, same_Some}
use Rattle.gr_base.specs.Lists.{IsAmong}
use Rattle.gr_base.specs.Forests.{Forest}
use Rattle.gr_base.proofs.ListLemmas.{Each-at, slice_get-some}
use Rattle.td_forest.specs.declared.Step.{Step}
use Rattle.td_forest.specs.Nodes.{IsForestOf}
use Rattle.td_forest.specs.Names.{IsNamedStep}
use Rattle.td_forest.specs.Steps.{after_step}
use Rattle.td_desc.specs.declared.Colour.{Colour}
use Rattle.td_desc.specs.declared.Colour.TheVariants.{Black, White, Red}
use Rattle.td_desc.specs.declared.DescribedNode as code_node
use Rattle.td_desc.specs.declared.Description as code
use Rattle.td_desc.specs.Descriptions.{DescribedNode, node_of, description_of}
use Rattle.td_desc.specs.Conditions.{colour_rank}
use Rattle.td_colour.specs.Colours.{IsOf, IsAllowed, BlacksFirst}
use Rattle.td_colour.specs.Models.{IsForestModel}
use Rattle.td_colour.proofs.Colouring.{one_colour, colour_of}
use Rattle.td_solver.specs.Candidates.{IsCandidate, IsEnough, IsMergeBelow, IsUnderBelow}
use Rattle.td_solver.specs.Choices.{Suffices}
use Rattle.td_solver.specs.Tasks.{RedsLast, IsCandidateOf}
use Rattle.td_solver.proofs.Listed.{enough_as, merges_all, under_all}
use Rattle.td_solver.proofs.Suiting.{by_candidate, suits_allowed}

of_colour : (nodes : List code_node.DescribedNode) (m : ℕ) (n : code_node.DescribedNode) (c : Colour) → slice_get nodes m ≡ Some n → n.colour ≡ c → IsOf (map node_of nodes) c m
of_colour nodes m n c at e = subst (λ k. IsOf (map node_of nodes) k m) e (colour_of nodes m n at)

-- what is no white stands first
pub first_test : (nodes : List code_node.DescribedNode) (m : ℕ) (n : code_node.DescribedNode) (b : Bool) → slice_get nodes m ≡ Some n → (b ≡ true → n.colour ≡ White → ⊥) → ((n.colour ≡ White → ⊥) → b ≡ true)
    → IsTrue b ↔ (IsOf (map node_of nodes) White m → ⊥)
first_test nodes m n b at yes_ no_ = (
  (λ t white. yes_ t (one_colour (map node_of nodes) m n.colour White (colour_of nodes m n at) white)),
  (λ dark. no_ (λ e. dark (of_colour nodes m n White at e))),
)

module _ (dd : code.Description) (m : ℕ) (F : Forest (List ℕ)) where
  -- a candidate of the node's colour is one of the node
  of_node : (c : Colour) (s : Step) → IsOf (description_of dd).nodes c m → IsCandidate F c s → IsCandidateOf dd m F s
  of_node c s is h k other = subst (λ j. IsCandidate F j s) (one_colour (description_of dd).nodes m c k is other) h

  module _ (f : IsForestOf m F) (n : code_node.DescribedNode) (at : slice_get dd.nodes m ≡ Some n) where
    abbrev Chosen : (Step → Type 0) → List Step → List Step → Type 0
    Chosen P old new = IsEnough (description_of dd) m F P old new

    pub white_candidates : n.colour ≡ White → (old new : List Step) → Chosen (IsMergeBelow F m) old new → Chosen (IsCandidateOf dd m F) old new
    white_candidates e old new p =
        let is = of_colour dd.nodes m n White at e in
        enough_as (description_of dd) m F (IsCandidate F White) (IsCandidateOf dd m F) old new (merges_all (description_of dd) F m f old new p) (λ s h. of_node White s is h) (λ s h l. h White is)

    pub black_candidates : n.colour ≡ Black → (old new : List Step) → Chosen (IsUnderBelow F m) old new → Chosen (IsCandidateOf dd m F) old new
    black_candidates e old new p =
        let is = of_colour dd.nodes m n Black at e in
        enough_as (description_of dd) m F (IsCandidate F Black) (IsCandidateOf dd m F) old new (under_all (description_of dd) F m f Black old new (λ q. cc) p) (λ s h. of_node Black s is h) (λ s h l. h Black is)

    pub red_candidates : n.colour ≡ Red → (old new : List Step) → Chosen (IsUnderBelow F m) old new → Chosen (IsCandidateOf dd m F) old new
    red_candidates e old new p =
        let is = of_colour dd.nodes m n Red at e in
        enough_as (description_of dd) m F (IsCandidate F Red) (IsCandidateOf dd m F) old new (under_all (description_of dd) F m f Red old new (λ q. cc) p) (λ s h. of_node Red s is h) (λ s h l. h Red is)

module _ (dd : code.Description) (m : ℕ) (low : m < length dd.nodes) where
  node : (n : code_node.DescribedNode) × (slice_get dd.nodes m ≡ Some n)
  node = slice_get-some dd.nodes m low

  coloured : IsOf (description_of dd).nodes node.0.colour m
  coloured = colour_of dd.nodes m node.0 node.1

  pub candidate_named : (F : Forest (List ℕ)) (s : Step) → IsCandidateOf dd m F s → IsNamedStep F s
  candidate_named F s h = (h node.0.colour coloured).0

  pub candidate_allowed : (F : Forest (List ℕ)) (s : Step) → BlacksFirst (description_of dd).nodes → RedsLast (description_of dd).nodes → IsForestModel (description_of dd) m F → IsCandidateOf dd m F s
      → IsAllowed (description_of dd).nodes (after_step m s F) m
  candidate_allowed F s first last model h = let k = h node.0.colour coloured in suits_allowed (description_of dd) first last m F model node.0.colour s coloured k.0 k.1

  -- steps that are enough are all that is to be tried
  pub suffices : (F : Forest (List ℕ)) (old new : List Step) → BlacksFirst (description_of dd).nodes → RedsLast (description_of dd).nodes → IsForestModel (description_of dd) m F
      → (p : IsEnough (description_of dd) m F (IsCandidateOf dd m F) old new) → Suffices (description_of dd) m F (IsAmong p.more)
  suffices F old new first last model p = record {
    named = λ s i. candidate_named F s (Each-at (IsCandidateOf dd m F) p.more s p.only i);
    all = λ H h parent.
        let r = by_candidate (description_of dd) first last m F model node.0.colour coloured H h parent in
        let here : IsCandidateOf dd m F r.0 = of_node dd m F node.0.colour r.0 coloured r.1 in
        (r.0, p.all r.0 here (subst (λ G. IsForestModel (description_of dd) (suc m) G) r.2 h), r.2);
  }

-- reds stand behind whites
module _ (nodes : List code_node.DescribedNode)
    (stands : (x y : ℕ) (n m : code_node.DescribedNode) → slice_get nodes x ≡ Some n → slice_get nodes y ≡ Some m → colour_rank n.colour < colour_rank m.colour → x < y) where
  code_of : (x : ℕ) (c : Colour) → IsOf (map node_of nodes) c x → (n : code_node.DescribedNode) × (slice_get nodes x ≡ Some n) × (n.colour ≡ c)
  code_of x c is = at (slice_get nodes x) refl
    where
      at : (o : Option code_node.DescribedNode) → slice_get nodes x ≡ o → (n : code_node.DescribedNode) × (slice_get nodes x ≡ Some n) × (n.colour ≡ c)
      at None e =
          let f : ◌≡◌ {A = Option (DescribedNode ℕ)} None (Some is.0) = sym (slice_get-map node_of nodes x ∙ ap (option_map node_of) e) ∙ is.1 in absurd (differ f)
        where
          differ : ◌≡◌ {A = Option (DescribedNode ℕ)} None (Some is.0) → ⊥
          differ q = cc
      at (Some n) e =
          let f : ◌≡◌ {A = Option (DescribedNode ℕ)} (Some (node_of n)) (Some is.0) = sym (slice_get-map node_of nodes x ∙ ap (option_map node_of) e) ∙ is.1 in
          (n, e, ap (λ (k : DescribedNode ℕ). k.colour) (same_Some (node_of n) is.0 f) ∙ is.2)

  pub reds_last : RedsLast (map node_of nodes)
  reds_last x y less red white =
      let n = code_of x Red red in
      let m = code_of y White white in
      let a : colour_rank n.0.colour ≡ 2 = ap colour_rank n.2 in
      let b : colour_rank m.0.colour ≡ 1 = ap colour_rank m.2 in
      let back : y < x = stands y x m.0 n.0 m.1 n.1 (omega arith) in
      omega arith
