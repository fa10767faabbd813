-- Descriptions that say the same have the same models, and the trees of these have the same canonical forms.
use Rattle.std.specs.Prelude.{◌≡◌, ℕ, zero, suc, ◌<◌, List, [], ◌∷◌, ◌↔◌, Option, Some, None, ⊤, length, slice_get, refl}
use Rattle.std.specs.List.{AllZip}
use Rattle.std.proofs.Common.{inl, inr, ap, sym, ◌∙◌, subst}
use Rattle.std.proofs.lemmas.Option.{same_Some}
use Rattle.std.proofs.lemmas.Slice.Zip.{AllZip-long}
use Rattle.gr_base.specs.Lists.{IsAmong, IsWithin, IsListing, IsCount, gathered}
use Rattle.gr_base.specs.Forests.{Forest, empty, tree, labels, map_forest, AreAlike}
use Rattle.gr_base.proofs.ListLemmas.{Each-at, Each-members, IsAmong-append, IsAmong-append_left, IsAmong-append_right}
use Rattle.gr_base.proofs.Zips.{AllZip-weaker}
use Rattle.gr_terms.specs.Networks.{Term, Assertion, link, linked, AreLinkedSlots, back_slot, next_slot, put_assertion, Follows}
use Rattle.gr_terms.specs.Interpretations.{Interprets}
use Rattle.gr_terms.specs.Canonical.{Node, Literal, Decorated, Pairs, Label, literal_terms}
use Rattle.gr_terms.proofs.NetworkLemmas.{Follows-part, Agrees-from, AreLinkedSlots-part}
use Rattle.td_desc.specs.declared.Colour.{Colour}
use Rattle.td_desc.specs.declared.Colour.TheVariants.{Black, White, Red}
use Rattle.td_desc.specs.declared.Related.{Related}
use Rattle.td_desc.specs.Descriptions.{Description, DescribedNode}
use Rattle.td_desc.specs.Likeness.{AreInterpreted, AreSlotsOf, AreTermsOf, AreNodesOf, AreLiteralsOf, SayTheSame}
use Rattle.td_colour.specs.Relations.{Holds}
use Rattle.td_colour.specs.Colours.{IsOf, IsLawful}
use Rattle.td_colour.specs.Models.{node_links, set_links, merged_network, IsForestModel, IsMinimalModel, slots_at, model_tree, HasModelForm, IsModelSpelling}
use Rattle.td_colour.proofs.Interpreting.{turned, slots_turned, terms_turned, widened, slots_widened, terms_widened}
use Rattle.td_colour.proofs.Answering.{AllZip-turned, AreThreeOf, AreTreesOf, form_there}

-- both are there and answer each other, or neither is there
abbrev AreBoth : {A B : Type 0} → (A → B → Type 0) → Option A → Option B → Type 0
AreBoth P None None = ⊤
AreBoth P None (Some y) = ⊥
AreBoth P (Some x) None = ⊥
AreBoth P (Some x) (Some y) = P x y

both_at : {A B : Type 0} (P : A → B → Type 0) (xs : List A) (ys : List B) (k : ℕ) → AllZip P xs ys → AreBoth P (slice_get xs k) (slice_get ys k)
both_at P [] [] k h = tt
both_at P [] (y ∷ ys) k h = absurd h
both_at P (x ∷ xs) [] k h = absurd h
both_at P (x ∷ xs) (y ∷ ys) zero h = h.0
both_at P (x ∷ xs) (y ∷ ys) (suc k) h = both_at P xs ys k h.1

-- the three slots of a node, or the one of nothing
abbrev slots_or : {S : Type 0} → S → Option (DescribedNode S) → Node S
slots_or none o = elim o [ None ↦ record { own = none; top = none; bottom = none } | Some n ↦ n.slots ]

-- what is gathered has a property, where each part that is gathered beside a part of K has it
gathered_each : {A B C : Type 0} (f : A → List B) (g : A → List C) (K : List C) (P : B → Type 0) → ((x : A) → IsWithin (g x) K → (y : B) → IsAmong (f x) y → P y)
    → (xs : List A) → IsWithin (gathered g xs) K → (y : B) → IsAmong (gathered f xs) y → P y
gathered_each f g K P one [] within y i = absurd i
gathered_each f g K P one (x ∷ xs) within y i = elim (IsAmong-append (f x) (gathered f xs) y i) [
  | inl j ↦ one x (λ z k. within z (IsAmong-append_left (g x) (gathered g xs) z k)) y j
  | inr j ↦ gathered_each f g K P one xs (λ z k. within z (IsAmong-append_right (g x) (gathered g xs) z k)) y j
]

-- properties of the same values have the same listings
same_listing : {A : Type 0} (P Q : A → Type 0) → ((x : A) → P x ↔ Q x) → (xs : List A) → IsListing P xs ↔ IsListing Q xs
same_listing P Q alike xs = (
  (λ l. record {
    once = l.once;
    only = Each-members Q xs (λ x i. (alike x).0 (Each-at P xs x l.only i));
    all = λ x q. l.all x ((alike x).1 q);
  }),
  (λ l. record {
    once = l.once;
    only = Each-members P xs (λ x i. (alike x).1 (Each-at Q xs x l.only i));
    all = λ x p. l.all x ((alike x).0 p);
  }),
)

-- descriptions say the same the other way round too
module _ {V W S R : Type 0} (a : Description V S) (b : Description W R) (h : SayTheSame a b) where
  abbrev N : List (Assertion V S)
  N = a.network

  abbrev M : List (Assertion W R)
  M = b.network

  abbrev e : AreInterpreted a.network b.network
  e = h.networks

  pub nodes_turned : (n : DescribedNode S) (p : DescribedNode R) → AreNodesOf N M e n p → AreNodesOf M N (turned N M e) p n
  nodes_turned n p k = record {
    colour = sym k.colour;
    own = slots_turned N M e n.slots.own p.slots.own k.own;
    top = slots_turned N M e n.slots.top p.slots.top k.top;
    bottom = slots_turned N M e n.slots.bottom p.slots.bottom k.bottom;
  }

  pub literals_turned : (l : Literal (Term V)) (k : Literal (Term W)) → AreLiteralsOf N M e l k → AreLiteralsOf M N (turned N M e) k l
  literals_turned l k = AllZip-turned (AreTermsOf N M e) (AreTermsOf M N (turned N M e)) (terms_turned N M e) (literal_terms l) (literal_terms k)

  abbrev pub SayTheSame-turned : SayTheSame b a
  SayTheSame-turned = record {
    networks = turned N M e;
    nodes = AllZip-turned (AreNodesOf N M e) (AreNodesOf M N (turned N M e)) nodes_turned a.nodes b.nodes h.nodes;
    relations = (h.relations.1, h.relations.0);
    interface = slots_turned N M e a.interface b.interface h.interface;
    literals = AllZip-turned (AreLiteralsOf N M e) (AreLiteralsOf M N (turned N M e)) literals_turned a.literals b.literals h.literals;
  }

  -- the links of nodes that share a tree node follow in a network that has the other description's
  module _ (K : List (Assertion W R)) (first : IsWithin M K) where
    joins : (s t : S) (r q : R) → AreSlotsOf N M e s r → AreSlotsOf N M e t q → IsAmong K (link r q) → AreLinkedSlots K (e.forth_slot s) (e.forth_slot t)
    joins s t r q k l i =
        next_slot _ _ _ (AreLinkedSlots-part M K first (e.forth_slot s) r k.there)
        (next_slot _ _ _ (linked r q i) (back_slot _ _ (AreLinkedSlots-part M K first (e.forth_slot t) q l.there)))

    abbrev Comes : Assertion V S → Type 0
    Comes x = Follows K (put_assertion e.forth e.forth_slot x)

    links_there : (n m : Option (DescribedNode S)) (p q : Option (DescribedNode R)) → AreBoth (AreNodesOf N M e) n p → AreBoth (AreNodesOf N M e) m q → IsWithin (node_links p q) K → (x : Assertion V S) → IsAmong (node_links n m) x → Comes x
    links_there None m p q k l within x i = absurd i
    links_there (Some n) None p q k l within x i = absurd i
    links_there (Some n) (Some m) None q k l within x i = absurd k
    links_there (Some n) (Some m) (Some p) None k l within x i = absurd l
    links_there (Some n) (Some m) (Some p) (Some q) k l within x (inl z) =
        subst Comes (sym z) (joins n.slots.own m.slots.own p.slots.own q.slots.own k.own l.own (within _ (inl refl)))
    links_there (Some n) (Some m) (Some p) (Some q) k l within x (inr (inl z)) =
        subst Comes (sym z) (joins n.slots.top m.slots.top p.slots.top q.slots.top k.top l.top (within _ (inr (inl refl))))
    links_there (Some n) (Some m) (Some p) (Some q) k l within x (inr (inr (inl z))) =
        subst Comes (sym z) (joins n.slots.bottom m.slots.bottom p.slots.bottom q.slots.bottom k.bottom l.bottom (within _ (inr (inr (inl refl)))))
    links_there (Some n) (Some m) (Some p) (Some q) k l within x (inr (inr (inr j))) = absurd j

    set_there : (set : List ℕ) → IsWithin (set_links b.nodes set) K → (x : Assertion V S) → IsAmong (set_links a.nodes set) x → Comes x
    set_there [] within x i = absurd i
    set_there (y ∷ ys) within x i = gathered_each
        (λ z. node_links (slice_get a.nodes y) (slice_get a.nodes z)) (λ z. node_links (slice_get b.nodes y) (slice_get b.nodes z)) K Comes
        (λ z. links_there (slice_get a.nodes y) (slice_get a.nodes z) (slice_get b.nodes y) (slice_get b.nodes z)
        (both_at (AreNodesOf N M e) a.nodes b.nodes y h.nodes) (both_at (AreNodesOf N M e) a.nodes b.nodes z h.nodes))
        ys within x i

  pub merged_there : (F : Forest (List ℕ)) → Interprets e.forth e.forth_slot (merged_network a F) (merged_network b F)
  merged_there F x i =
      let K = merged_network b F in
      let first : IsWithin M K = λ y j. IsAmong-append_left M (gathered (set_links b.nodes) (labels F)) y j in
      elim (IsAmong-append N (gathered (set_links a.nodes) (labels F)) x i) [
        | inl j ↦ Follows-part M K first (put_assertion e.forth e.forth_slot x) (e.there x j)
        | inr j ↦ gathered_each (set_links a.nodes) (set_links b.nodes) K (λ y. Follows K (put_assertion e.forth e.forth_slot y)) (set_there K first) (labels F)
            (λ y k. IsAmong-append_right M (gathered (set_links b.nodes) (labels F)) y k) x j
      ]

  -- colours
  of_there : (c : Colour) (x : ℕ) → IsOf a.nodes c x → IsOf b.nodes c x
  of_there c x o = by (slice_get a.nodes x) (slice_get b.nodes x) (both_at (AreNodesOf N M e) a.nodes b.nodes x h.nodes) o.0 o.1 o.2
    where
      by : (n : Option (DescribedNode S)) (p : Option (DescribedNode R)) → AreBoth (AreNodesOf N M e) n p → (m : DescribedNode S) → n ≡ Some m → m.colour ≡ c → (q : DescribedNode R) × (p ≡ Some q) × (q.colour ≡ c)
      by None p k m z colour = cc
      by (Some n) None k m z colour = absurd k
      by (Some n) (Some p) k m z colour = (p, refl, sym k.colour ∙ (ap (λ w. w.colour) (same_Some n m z) ∙ colour))

  lawful_there : (set : List ℕ) → IsLawful a.nodes set → IsLawful b.nodes set
  lawful_there set (inl l) = inl (l.0, l.1, of_there Black l.0 l.2, λ y i ne. of_there White y (l.3 y i ne))
  lawful_there set (inr l) = inr (l.0, l.1, of_there Red l.0 l.2)

  -- the slots of a tree node
  slots_there : (set : List ℕ) → AreThreeOf N M e (slots_at a.nodes a.interface set) (slots_at b.nodes b.interface set)
  slots_there [] = record { own = h.interface; top = h.interface; bottom = h.interface }
  slots_there (x ∷ xs) = by (slice_get a.nodes x) (slice_get b.nodes x) (both_at (AreNodesOf N M e) a.nodes b.nodes x h.nodes)
    where
      by : (n : Option (DescribedNode S)) (p : Option (DescribedNode R)) → AreBoth (AreNodesOf N M e) n p → AreThreeOf N M e (slots_or a.interface n) (slots_or b.interface p)
      by None None k = record { own = h.interface; top = h.interface; bottom = h.interface }
      by None (Some p) k = absurd k
      by (Some n) None k = absurd k
      by (Some n) (Some p) k = record { own = k.own; top = k.top; bottom = k.bottom }

-- ---- models

module _ {V W S R : Type 0} (a : Description V S) (b : Description W R) (h : SayTheSame a b) where
  abbrev tie : AreInterpreted a.network b.network
  tie = h.networks

  pub merged_home : (F : Forest (List ℕ)) → Interprets tie.back_again tie.back_slot_again (merged_network b F) (merged_network a F)
  merged_home F = merged_there b a (SayTheSame-turned a b h) F

  pub model_there : (m : ℕ) (F : Forest (List ℕ)) → IsForestModel a m F → IsForestModel b m F
  model_there m F k = record {
    nodes = k.nodes;
    relations = Each-members (λ (r : Related). r.from < m → r.to < m → Holds F r.how r.from r.to) b.relations
        (λ r i. Each-at (λ (q : Related). q.from < m → q.to < m → Holds F q.how q.from q.to) a.relations r k.relations (h.relations.1 r i));
    colours = Each-members (IsLawful b.nodes) (labels F) (λ set i. lawful_there a b h set (Each-at (IsLawful a.nodes) (labels F) set k.colours i));
    network = Agrees-from tie.back_again tie.back_slot_again (merged_network b F) (merged_network a F) (merged_home F) k.network;
  }

  pub same_count : length a.nodes ≡ length b.nodes
  same_count = sym (AllZip-long (AreNodesOf a.network b.network tie) a.nodes b.nodes h.nodes)

  pub minimal_there : (F : Forest (List ℕ)) → IsMinimalModel a F → IsMinimalModel b F
  minimal_there F k = record { model = subst (λ n. IsForestModel b n F) same_count (model_there (length a.nodes) F k.model); one = k.one }

  -- the tree of a model, in the network with the slots of merged nodes linked
  module _ (F : Forest (List ℕ)) where
    abbrev L : List (Assertion V S)
    L = merged_network a F

    abbrev K : List (Assertion W R)
    K = merged_network b F

    abbrev g : AreInterpreted L K
    g = widened a.network b.network tie L K (merged_there a b h F) (merged_home F)

    in_first : IsWithin a.network L
    in_first y i = IsAmong-append_left a.network (gathered (set_links a.nodes) (labels F)) y i

    in_second : IsWithin b.network K
    in_second y i = IsAmong-append_left b.network (gathered (set_links b.nodes) (labels F)) y i

    wide : (s : S) (r : R) → AreSlotsOf a.network b.network tie s r → AreSlotsOf L K g s r
    wide = slots_widened a.network b.network tie L K (merged_there a b h F) (merged_home F) in_first in_second

    wide_terms : (x : Term V) (y : Term W) → AreTermsOf a.network b.network tie x y → AreTermsOf L K g x y
    wide_terms = terms_widened a.network b.network tie L K (merged_there a b h F) (merged_home F) in_first in_second

    wide_three : (n : Node S) (p : Node R) → AreThreeOf a.network b.network tie n p → AreThreeOf L K g n p
    wide_three n p k = record { own = wide n.own p.own k.own; top = wide n.top p.top k.top; bottom = wide n.bottom p.bottom k.bottom }

    wide_literals : (l : Literal (Term V)) (k : Literal (Term W)) → AreLiteralsOf a.network b.network tie l k → AreLiteralsOf L K g l k
    wide_literals l k = AllZip-weaker (AreTermsOf a.network b.network tie) (AreTermsOf L K g) wide_terms (literal_terms l) (literal_terms k)

    nodes_there : (G : Forest (List ℕ)) → AreAlike (AreThreeOf L K g) (map_forest (slots_at a.nodes a.interface) G) (map_forest (slots_at b.nodes b.interface) G)
    nodes_there empty = tt
    nodes_there (tree set kids more) = (
      wide_three (slots_at a.nodes a.interface set) (slots_at b.nodes b.interface set) (slots_there a b h set),
      nodes_there kids,
      nodes_there more,
    )

    trees_there : AreTreesOf L K g (model_tree a F) (model_tree b F)
    trees_there = record {
      nodes = nodes_there F;
      interface = wide a.interface b.interface h.interface;
      literals = AllZip-weaker (AreLiteralsOf a.network b.network tie) (AreLiteralsOf L K g) wide_literals a.literals b.literals h.literals;
    }

    pub model_form_there : (text : ℕ → List ℕ) (c : Decorated Pairs Label) → HasModelForm text a F c → HasModelForm text b F c
    model_form_there text c form = form_there L K g (model_tree a F) (model_tree b F) trees_there text c form

-- the other way round too
module _ {V W S R : Type 0} (a : Description V S) (b : Description W R) (h : SayTheSame a b) where
  abbrev k : SayTheSame b a
  k = SayTheSame-turned a b h

  pub same_models : (m : ℕ) (F : Forest (List ℕ)) → IsForestModel a m F ↔ IsForestModel b m F
  same_models m F = (model_there a b h m F, model_there b a k m F)

  pub same_minimal : (F : Forest (List ℕ)) → IsMinimalModel a F ↔ IsMinimalModel b F
  same_minimal F = (minimal_there a b h F, minimal_there b a k F)

  pub same_forms : (text : ℕ → List ℕ) (F : Forest (List ℕ)) (c : Decorated Pairs Label) → HasModelForm text a F c ↔ HasModelForm text b F c
  same_forms text F c = (model_form_there a b h F text c, model_form_there b a k F text c)

  pub same_number : (m n : ℕ) → IsCount (IsForestModel a m) n ↔ IsCount (IsForestModel b m) n
  same_number m n = (
    (λ c. (c.0, (same_listing (IsForestModel a m) (IsForestModel b m) (same_models m) c.0).0 c.1, c.2)),
    (λ c. (c.0, (same_listing (IsForestModel a m) (IsForestModel b m) (same_models m) c.0).1 c.1, c.2)),
  )

  -- texts of trees of minimal models
  module _ (text : ℕ → List ℕ) (spell : Decorated Pairs Label → List ℕ) where
    pub same_spellings : (bytes : List ℕ) → IsModelSpelling text spell a bytes ↔ IsModelSpelling text spell b bytes
    same_spellings bytes = (
      (λ w. record {
        forest = w.forest;
        minimal = minimal_there a b h w.forest w.minimal;
        form = w.form;
        canonical = model_form_there a b h w.forest text w.form w.canonical;
        spells = w.spells;
      }),
      (λ w. record {
        forest = w.forest;
        minimal = minimal_there b a k w.forest w.minimal;
        form = w.form;
        canonical = model_form_there b a k w.forest text w.form w.canonical;
        spells = w.spells;
      }),
    )

    pub same_texts : (texts : List (List ℕ)) → IsListing (IsModelSpelling text spell a) texts ↔ IsListing (IsModelSpelling text spell b) texts
    same_texts texts = same_listing (IsModelSpelling text spell a) (IsModelSpelling text spell b) same_spellings texts
