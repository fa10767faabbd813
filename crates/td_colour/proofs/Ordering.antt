-- In search order blacks stand first.
use Rattle.std.specs.Prelude.{◌≡◌, ℕ, ◌<◌, List, map, length, Option, Some, None, slice_get, get_or, refl}
use Rattle.std.proofs.Common.{ap, sym, ◌∙◌, subst, arith}
use Rattle.std.specs.Option.{option_map}
use Rattle.std.proofs.lemmas.Option.{slice_get-map, slice_get-get_or, slice_get_within, same_Some}
use Rattle.td_desc.specs.declared.Colour.{Colour}
use Rattle.td_desc.specs.declared.Colour.TheVariants.{Black, White, Red}
use Rattle.td_desc.specs.declared.DescribedNode as code_node
use Rattle.td_desc.specs.Descriptions.{DescribedNode, node_of}
use Rattle.td_desc.specs.Conditions.{colour_rank}
use Rattle.td_colour.specs.Colours.{IsOf, BlacksFirst}
use Rattle.td_colour.proofs.Colouring.{colour_of}

black_or_late : (P : Colour → Type 0) (c : Colour) → P c → (colour_rank Black < colour_rank c → ⊥) → P Black
black_or_late P Black p late = p
black_or_late P White p late = absurd (late (omega arith))
black_or_late P Red p late = absurd (late (omega arith))

module _ (nodes : List code_node.DescribedNode)
    (stands : (x y : ℕ) (n m : code_node.DescribedNode) → slice_get nodes x ≡ Some n → slice_get nodes y ≡ Some m → colour_rank n.colour < colour_rank m.colour → x < y) where
  -- the node of the code with a colour
  code_of : (x : ℕ) (c : Colour) → IsOf (map node_of nodes) c x → (n : code_node.DescribedNode) × (slice_get nodes x ≡ Some n) × (n.colour ≡ c)
  code_of x c is = at (slice_get nodes x) refl
    where
      at : (o : Option code_node.DescribedNode) → slice_get nodes x ≡ o → (n : code_node.DescribedNode) × (slice_get nodes x ≡ Some n) × (n.colour ≡ c)
      at None e =
          let f : ◌≡◌ {A = Option (DescribedNode ℕ)} None (Some is.0) = sym (slice_get-map node_of nodes x ∙ ap (option_map node_of) e) ∙ is.1 in absurd (differ f)
        where
          differ : ◌≡◌ {A = Option (DescribedNode ℕ)} None (Some is.0) → ⊥
          differ q = cc
      at (Some n) e =
          let f : ◌≡◌ {A = Option (DescribedNode ℕ)} (Some (node_of n)) (Some is.0) = sym (slice_get-map node_of nodes x ∙ ap (option_map node_of) e) ∙ is.1 in
          (n, e, ap (λ (k : DescribedNode ℕ). k.colour) (same_Some (node_of n) is.0 f) ∙ is.2)

  pub first_blacks : BlacksFirst (map node_of nodes)
  first_blacks x y less is =
      let m = code_of y Black is in
      let high : y < length nodes = slice_get_within nodes y m.0 m.1 in
      let n = get_or nodes x m.0 in
      let at : slice_get nodes x ≡ Some n = slice_get-get_or nodes x m.0 (omega arith) in
      black_or_late (λ c. IsOf (map node_of nodes) c x) n.colour (colour_of nodes x n at)
      (λ late. let back : y < x = stands y x m.0 n m.1 at (subst (λ c. colour_rank c < colour_rank n.colour) (sym m.2) late) in omega arith)
