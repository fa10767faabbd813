-- Facts have a description. A node that is given two colours may show either.
use Rattle.std.specs.Prelude.{◌≡◌, ℕ, List, [], ◌∷◌, ◌++◌, ◌⊎◌, refl}
use Rattle.std.specs.List.{AllZip}
use Rattle.std.proofs.Common.{inl, inr, sym, subst}
use Rattle.gr_base.specs.Lists.{IsAmong, gathered}
use Rattle.gr_base.proofs.ListLemmas.{IsAmong-append_left, IsAmong-append_right, IsAmong-gathered, IsAmong-gathered_from, slice_get-IsAmong}
use Rattle.td_desc.specs.declared.Colour.{Colour}
use Rattle.td_desc.specs.declared.Colour.TheVariants.{Black, White, Red}
use Rattle.td_desc.specs.declared.Dominance.{Dominance}
use Rattle.td_desc.specs.declared.Related.{Related}
use Rattle.td_desc.specs.Descriptions.{Description, DescribedNode}
use Rattle.gr_base.specs.Decisions.{IsDecided}
use Rattle.gr_base.proofs.Deciding.{decided_by, decided_both, decided_either, decided_not, decided_some}
use Rattle.mg_facts.specs.declared.variable.Variable.{Variable}
use Rattle.mg_facts.specs.Said.{Slot, own_of, top_of, bottom_of, the_interface, Said, block, related, one_node, identified, is_name, coloured, paired, says}
use Rattle.mg_facts.specs.Meanings.{AreIdentified, itself, network, stands, standing, relation_of, literal_of, HasColour, IsColour, AreFirsts, IsPartOfColour, AreNodes, IsPlaceOf, IsRelation, IsNode, IsDescribed}
use Rattle.mg_count.proofs.Telling.{decided_paint}
use Rattle.mg_count.proofs.Identified.{decided_identified}
use Rattle.mg_count.proofs.Clashing.{decided_colours, decided_colour}

-- a list beside the list, where each member has something beside it
zipped : {A B : Type 0} (R : A → B → Type 0) → (xs : List A) → ((x : A) → IsAmong xs x → (y : B) × R x y) → (ys : List B) × AllZip R xs ys
zipped R [] f = ([], tt)
zipped R (x ∷ xs) f =
    let y = f x (inl refl) in
    let rest = zipped R xs (λ z i. f z (inr i)) in
    (y.0 ∷ rest.0, (y.1, rest.1))

module _ (all : List Said) where
  -- ---- colours

  decided_none : (x : Variable) → IsDecided ((d : Colour) → HasColour all x d → ⊥)
  decided_none x =
      decided_by (((d : Colour) × HasColour all x d) → ⊥) ((d : Colour) → HasColour all x d → ⊥) (λ n d h. n (d, h)) (λ n h. n h.0 h.1)
      (decided_not ((d : Colour) × HasColour all x d) (decided_colours (HasColour all x) (decided_colour all x)))

  decided_shown : (c : Colour) (x : Variable) → IsDecided (IsColour all x c)
  decided_shown c x =
      decided_either (HasColour all x c) ((c ≡ Red) × ((d : Colour) → HasColour all x d → ⊥)) (decided_colour all x c)
      (decided_both (c ≡ Red) ((d : Colour) → HasColour all x d → ⊥) (decided_paint c Red) (decided_none x))

  shown_by : (x : Variable) → IsDecided ((d : Colour) × HasColour all x d) → (c : Colour) × IsColour all x c
  shown_by x (inl h) = (h.0, inl h.1)
  shown_by x (inr n) = (Red, inr (refl, λ d h. n (d, h)))

  -- each variable shows a colour
  shown : (x : Variable) → (c : Colour) × IsColour all x c
  shown x = shown_by x (decided_colours (HasColour all x) (decided_colour all x))

  -- ---- the first variables

  abbrev StoodBefore : List Variable → Variable → Type 0
  StoodBefore seen x = (y : Variable) × IsAmong seen y × AreIdentified all x y

  abbrev Firsts : List Variable → List Variable → Type 0
  Firsts seen xs = (fs : List Variable) × AreFirsts all seen xs fs

  firsts : (seen xs : List Variable) → Firsts seen xs
  firsts seen [] = ([], refl)
  firsts seen (x ∷ xs) = by_decision (decided_some (AreIdentified all x) seen (λ y i. decided_identified all x y)) (firsts seen xs) (firsts (x ∷ seen) xs)
    where
      by_decision : IsDecided (StoodBefore seen x) → Firsts seen xs → Firsts (x ∷ seen) xs → Firsts seen (x ∷ xs)
      by_decision (inl h) old new = (old.0, inl (h, old.1))
      by_decision (inr n) old new = (x ∷ new.0, inr ((λ y i k. n (y, i, k)), (new.0, refl, new.1)))

  -- each of the variables is one with a first one, or with one that stood before
  has_first : (seen xs fs : List Variable) → AreFirsts all seen xs fs → (x : Variable) → IsAmong xs x → StoodBefore seen x ⊎ StoodBefore fs x
  has_first seen [] fs h x i = absurd i
  has_first seen (z ∷ xs) fs (inl h) x (inl e) = inl (subst (λ v. StoodBefore seen v) (sym e) h.0)
  has_first seen (z ∷ xs) fs (inl h) x (inr i) = has_first seen xs fs h.1 x i
  has_first seen (z ∷ xs) fs (inr h) x (inl e) = inr (z, subst (λ l. IsAmong l z) (sym h.1.1) (inl refl), subst (λ v. AreIdentified all v z) (sym e) (itself z))
  has_first seen (z ∷ xs) fs (inr h) x (inr i) = elim (has_first (z ∷ seen) xs h.1.0 h.1.2 x i) [
    | inl k ↦ behind k
    | inr k ↦ inr (k.0, subst (λ l. IsAmong l k.0) (sym h.1.1) (inr k.1), k.2)
  ]
    where
      behind : StoodBefore (z ∷ seen) x → StoodBefore seen x ⊎ StoodBefore fs x
      behind (y, inl e, k) = inr (z, subst (λ l. IsAmong l z) (sym h.1.1) (inl refl), subst (λ v. AreIdentified all x v) e k)
      behind (y, inr j, k) = inl (y, j, k)

  -- ---- the nodes

  part : (c : Colour) (xs : List Variable) → (ys : List Variable) × IsPartOfColour all c xs ys
  part c [] = ([], record { order = refl; only = tt; whole = λ x i h. i })
  part c (x ∷ xs) = by_decision (decided_shown c x) (part c xs)
    where
      by_decision : IsDecided (IsColour all x c) → ((ys : List Variable) × IsPartOfColour all c xs ys) → (ys : List Variable) × IsPartOfColour all c (x ∷ xs) ys
      by_decision (inl h) (ys, p) = (x ∷ ys, record { order = inr (ys, refl, p.order); only = (h, p.only); whole = λ z i k. elim i [ inl e ↦ inl e | inr j ↦ inr (p.whole z j k) ] })
      by_decision (inr n) (ys, p) = (ys, record { order = inl p.order; only = p.only; whole = λ z i k. elim i [ inl e ↦ absurd (n (subst (λ v. IsColour all v c) e k)) | inr j ↦ p.whole z j k ] })

  nodes : (ns : List Variable) × AreNodes all ns
  nodes =
      let fs = firsts [] (standing all) in
      let blacks = part Black fs.0 in
      let whites = part White fs.0 in
      let reds = part Red fs.0 in (
        blacks.0 ++ whites.0 ++ reds.0,
        record {
          firsts = fs.0;
          blacks = blacks.0;
          whites = whites.0;
          reds = reds.0;
          are_firsts = fs.1;
          are_black = blacks.1;
          are_white = whites.1;
          are_red = reds.1;
          parts = refl;
        },
      )

  module _ (ns : List Variable) (h : AreNodes all ns) where
    stands_among : (x : Variable) → IsAmong h.firsts x → (c : Colour) → IsColour all x c → IsAmong (h.blacks ++ h.whites ++ h.reds) x
    stands_among x i Black k = IsAmong-append_left (h.blacks ++ h.whites) h.reds x (IsAmong-append_left h.blacks h.whites x (h.are_black.whole x i k))
    stands_among x i White k = IsAmong-append_left (h.blacks ++ h.whites) h.reds x (IsAmong-append_right h.blacks h.whites x (h.are_white.whole x i k))
    stands_among x i Red k = IsAmong-append_right (h.blacks ++ h.whites) h.reds x (h.are_red.whole x i k)

    node_among : (x : Variable) → IsAmong h.firsts x → IsAmong ns x
    node_among x i = let c = shown x in subst (λ l. IsAmong l x) (sym h.parts) (stands_among x i c.0 c.1)

    -- a variable that stands has a place
    placed : (x : Variable) → IsAmong (standing all) x → (n : ℕ) × IsPlaceOf all ns n x
    placed x i = elim (has_first [] (standing all) h.firsts h.are_firsts x i) [
      | inl k ↦ absurd k.1
      | inr k ↦ let p = slice_get-IsAmong ns k.0 (node_among k.0 k.1) in (p.0, (k.0, p.1, k.2))
    ]

    abbrev Ends : Said → Variable × Dominance × Variable → Type 0
    Ends s r = IsAmong (stands s) r.0 × IsAmong (stands s) r.2

    ends_stand : (s : Said) (r : Variable × Dominance × Variable) → IsAmong (relation_of s) r → Ends s r
    ends_stand (block x) r i = absurd i
    ends_stand (related x how y) r (inl e) = subst (Ends (related x how y)) (sym e) (inl refl, inr (inl refl))
    ends_stand (related x how y) r (inr i) = absurd i
    ends_stand (one_node x y) r i = absurd i
    ends_stand (identified x y) r i = absurd i
    ends_stand (is_name x a) r i = absurd i
    ends_stand (coloured x c) r i = absurd i
    ends_stand (paired s a t) r i = absurd i
    ends_stand (says l) r i = absurd i

    placed_relation : (r : Variable × Dominance × Variable) → IsAmong (gathered relation_of all) r → (q : Related) × IsRelation all ns r q
    placed_relation r i =
        let s = IsAmong-gathered_from relation_of all r i in
        let ends = ends_stand s.0 r s.2 in
        let from = placed r.0 (IsAmong-gathered stands all s.0 r.0 s.1 ends.0) in
        let to = placed r.2 (IsAmong-gathered stands all s.0 r.2 s.1 ends.1) in
        (record { from = from.0; how = r.1; to = to.0 }, (from.1, refl, to.1))

    shown_node : (x : Variable) → (n : DescribedNode Slot) × IsNode all x n
    shown_node x = let c = shown x in (record { colour = c.0; slots = record { own = own_of x; top = top_of x; bottom = bottom_of x } }, (c.1, refl))

    description : (d : Description Variable Slot) × IsDescribed all d
    description =
        let ds = zipped (IsNode all) ns (λ x i. shown_node x) in
        let rs = zipped (IsRelation all ns) (gathered relation_of all) placed_relation in (
          record { nodes = ds.0; relations = rs.0; network = network all; interface = the_interface; literals = gathered literal_of all },
          record {
            variables = ns;
            are_nodes = h;
            nodes = ds.1;
            relations = rs.1;
            network = refl;
            interface = refl;
            literals = refl;
          },
        )

  pub described : (d : Description Variable Slot) × IsDescribed all d
  described = let n = nodes in description n.0 n.1
