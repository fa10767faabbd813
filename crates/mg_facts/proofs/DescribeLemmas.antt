-- What is made of facts that don't clash is a description of them.
use Rattle.std.specs.Prelude.{◌≡◌, ℕ, suc, ◌+◌, ◌*◌, ◌<◌, ◌≤◌, List, [], ◌∷◌, ◌++◌, map, length, get_or, Option, refl}
use Rattle.std.specs.List.{AllZip}
use Rattle.std.proofs.Common.{inl, inr, ap, ap₂, sym, ◌∙◌, subst, arith}
use Rattle.std.proofs.lemmas.List.{map-append, length-map}
use Rattle.std.proofs.lemmas.Option.{slice_get_within}
use Rattle.gr_base.specs.Lists.{IsAmong, Each, NoneTwice, gathered}
use Rattle.gr_base.proofs.ListLemmas.{Each-at, Each-members, Each-map, Each-weaker}
use Rattle.gr_terms.specs.declared.Term as code_term
use Rattle.gr_terms.specs.declared.Term.TheVariants.{Const, Var}
use Rattle.gr_terms.specs.declared.Assertion as code_assertion
use Rattle.gr_terms.specs.declared.Assertion.TheVariants.{Entry, Equate, Link}
use Rattle.gr_terms.specs.declared.Literal as code_literal
use Rattle.gr_terms.specs.declared.SlotId.{SlotId}
use Rattle.gr_terms.specs.Networks.{Term, Assertion, AreLinked, same, AreLinkedSlots, same_slot, put_term}
use Rattle.gr_terms.specs.Canonical.{literal_terms}
use Rattle.gr_terms.specs.Views.{term_of, network_of}
use Rattle.gr_terms.specs.LiteralViews as views
use Rattle.gr_store.specs.Contents as store
use Rattle.td_desc.specs.declared.Colour.{Colour}
use Rattle.td_desc.specs.declared.Colour.TheVariants.{Black, White, Red}
use Rattle.td_desc.specs.declared.Dominance.{Dominance}
use Rattle.td_desc.specs.declared.DescribedNode as code_node
use Rattle.td_desc.specs.declared.Related.{Related}
use Rattle.td_desc.specs.declared.Description as code
use Rattle.td_desc.specs.Descriptions.{DescribedNode, Description, node_of, description_of}
use Rattle.td_desc.specs.Conditions.{AreOfColour, InSearchOrder, IsTermBelow, Mentions, SaysOf, AreSlotsBelow, ArePlacesBelow, IsNumbered}
use Rattle.td_desc.specs.Likeness.{AreInterpreted, AreSlotsOf, AreTermsOf, AreNodesOf, AreLiteralsOf, SayTheSame}
use Rattle.mg_facts.specs.declared.variable.Variable.{Variable}
use Rattle.mg_facts.specs.declared.fact.Fact.{Fact}
use Rattle.mg_facts.specs.Said.{Slot, own_of, top_of, bottom_of, the_interface, Said}
use Rattle.mg_facts.specs.Meanings.{network, literal_of, relation_of, IsRelation, IsNode, IsDescribed, IsSized, IsDescriptionOf}
use Rattle.mg_facts.specs.Numbered.{named, named_term, named_slot, read_term, all_said, IsBelow, AreMet, all_asserted, stand_in, colours_in, relations_in, literals_in, slot_id, terms_in}
use Rattle.mg_facts.specs.Classes.{AreRoots, root, AreColours, AreFirstOnes, shown, IsShownPart, InOrder, ArePlaces, node_at, relation_at}
use Rattle.mg_facts.proofs.GatheredLemmas.{AllZip-maps}
use Rattle.mg_facts.proofs.NumberLemmas.{named_slot-own, named_slot-top, named_slot-bottom, number_of, number_of-named}
use Rattle.mg_facts.proofs.ReadingLemmas.{all_asserted-mentions, forth, forth_slot, term-round, home, there}
use Rattle.mg_facts.proofs.MeaningLemmas.{literals_below, relations_stand, spoken, spoken_literal, relations-said, literals-said, names_within, names_said}
use Rattle.mg_facts.proofs.ClashLemmas.{shown_colour, nodes_below, are_nodes, place_stands, place_of}

AllZip-mapped : {A B C D : Type 0} (R : B → D → Type 0) (f : A → B) (g : A → C) (h : C → D) (xs : List A) → ((x : A) → IsAmong xs x → R (f x) (h (g x))) → AllZip R (map f xs) (map h (map g xs))
AllZip-mapped R f g h [] e = tt
AllZip-mapped R f g h (x ∷ xs) e = (e x (inl refl), AllZip-mapped R f g h xs (λ y i. e y (inr i)))

term_made : (n : ℕ) (t : code_term.Term) → store.IsMade n t → IsTermBelow n t
term_made n (Const a) h = tt
term_made n (Var x) h = omega arith

below_made : (n : ℕ) (t : code_term.Term) → IsTermBelow n t → store.IsMade n t
below_made n (Const a) h = omega arith
below_made n (Var x) h = omega arith

mentions_made : (n m : ℕ) (a : code_assertion.Assertion) → store.Mentions n m a → Mentions n m a
mentions_made n m (Entry s a t) h = (h.0, term_made n t h.1)
mentions_made n m (Equate a b) h = (term_made n a h.0, term_made n b h.1)
mentions_made n m (Link s t) h = h

module _ (names : List Variable) (facts : List Fact) (once : NoneTwice names) (below : Each (IsBelow (length names)) facts) (met : AreMet (length names) facts)
    (roots : List ℕ) (are : AreRoots facts (length names) roots)
    (table : List (Option Colour)) (colours : AreColours roots (gathered colours_in facts) table)
    (firsts nodes : List ℕ) (are_firsts : AreFirstOnes roots [] (gathered stand_in facts) firsts) (order : InOrder roots table firsts nodes)
    (places : List ℕ) (are_places : ArePlaces roots nodes places) where
  abbrev relations : List (ℕ × Dominance × ℕ)
  relations = gathered relations_in facts

  abbrev literals : List code_literal.Literal
  literals = gathered literals_in facts

  abbrev pub made : code.Description
  made = record {
    vars = length names;
    slots = 3 * length names + 1;
    nodes = map (node_at roots table) nodes;
    relations = map (relation_at roots places) relations;
    network = all_asserted facts;
    iface = slot_id 0;
    sem = literals;
  }

  -- NUMBERS

  of_colour : (c : Colour) (part : List ℕ) → IsShownPart roots table c firsts part → AreOfColour c (map (node_at roots table) part)
  of_colour c part h = Each-map (node_at roots table) (λ (n : code_node.DescribedNode). n.colour ≡ c) part h.only

  in_search_order : InSearchOrder made.nodes
  in_search_order = record {
    blacks = map (node_at roots table) order.blacks;
    whites = map (node_at roots table) order.whites;
    reds = map (node_at roots table) order.reds;
    parts = ap (map (node_at roots table)) order.parts ∙ map-append (node_at roots table) (order.blacks ++ order.whites) order.reds
        ∙ ap (λ z. z ++ map (node_at roots table) order.reds) (map-append (node_at roots table) order.blacks order.whites);
    are_black = of_colour Black order.blacks order.are_black;
    are_white = of_colour White order.whites order.are_white;
    are_red = of_colour Red order.reds order.are_red;
  }

  each_node : Each (λ x. x < length names) nodes
  each_node = nodes_below names facts once below roots are table colours firsts nodes are_firsts order

  slots_below : (x : ℕ) → x < length names → AreSlotsBelow (3 * length names + 1) (node_at roots table x)
  slots_below x h = (omega arith, omega arith, omega arith)

  place_below : (x : ℕ) → IsAmong (gathered stand_in facts) x → get_or places (root roots x) 0 < length made.nodes
  place_below x i =
      let s = place_stands names facts once below roots are table colours firsts nodes are_firsts order places are_places x i in
      let l : get_or places (root roots x) 0 < length nodes = slice_get_within nodes (get_or places (root roots x) 0) s.0 s.1 in
      let e : length made.nodes ≡ length nodes = length-map nodes (node_at roots table) in
      omega arith

  numbered : IsNumbered made
  numbered = record {
    order = in_search_order;
    nodes = Each-map (node_at roots table) (AreSlotsBelow (3 * length names + 1)) nodes (Each-weaker (λ x. x < length names) (λ x. AreSlotsBelow (3 * length names + 1) (node_at roots table x)) slots_below nodes each_node);
    relations = Each-map (relation_at roots places) (ArePlacesBelow (length made.nodes)) relations
        (Each-members (λ r. ArePlacesBelow (length made.nodes) (relation_at roots places r)) relations
        (λ r i. let s = relations_stand facts r i in (place_below r.0 s.0, place_below r.2 s.1)));
    network = Each-weaker (store.Mentions (length names) (3 * length names + 1)) (Mentions (length names) (3 * length names + 1)) (mentions_made (length names) (3 * length names + 1)) (all_asserted facts)
        (all_asserted-mentions (length names) (length names) (3 * length names + 1) (omega arith) (omega arith) facts below);
    interface = omega arith;
    literals = literals_below (length names) facts below;
  }

  -- OVER THE VARIABLES

  abbrev described_node : ℕ → DescribedNode Slot
  described_node x = record { colour = shown roots table x; slots = record { own = own_of (named names x); top = top_of (named names x); bottom = bottom_of (named names x) } }

  abbrev described : Description Variable Slot
  described = record {
    nodes = map described_node nodes;
    relations = made.relations;
    network = network (all_said names facts);
    interface = the_interface;
    literals = gathered literal_of (all_said names facts);
  }

  is_described : IsDescribed (all_said names facts) described
  is_described = record {
    variables = map (named names) nodes;
    are_nodes = are_nodes names facts once below roots are table colours firsts nodes are_firsts order;
    nodes = AllZip-maps (IsNode (all_said names facts)) (named names) described_node nodes
        (λ x i. (shown_colour names facts once below roots are table colours x (Each-at (λ x. x < length names) nodes x each_node i), refl));
    relations = subst (λ z. AllZip (IsRelation (all_said names facts) (map (named names) nodes)) z made.relations) (sym (relations-said names facts))
        (AllZip-maps (IsRelation (all_said names facts) (map (named names) nodes)) (spoken names) (relation_at roots places) relations
        (λ r i.
        let s = relations_stand facts r i in (
          place_of names facts once below roots are table colours firsts nodes are_firsts order places are_places r.0 s.0,
          refl,
          place_of names facts once below roots are table colours firsts nodes are_firsts order places are_places r.2 s.1,
        )));
    network = refl;
    interface = refl;
    literals = refl;
  }

  -- LIKENESS

  abbrev M : List (Assertion Variable Slot)
  M = network (all_said names facts)

  abbrev N : List (Assertion ℕ ℕ)
  N = network_of (all_asserted facts)

  abbrev interpreted : AreInterpreted M N
  interpreted = record {
    forth = forth names;
    forth_slot = forth_slot names;
    back_again = named_term names;
    back_slot_again = named_slot names;
    there = there names once facts below;
    home = home names once facts below;
  }

  linked_slot : {V S : Type 0} (K : List (Assertion V S)) (s t : S) → s ≡ t → AreLinkedSlots K s t
  linked_slot K s t e = subst (λ z. AreLinkedSlots K s z) e (same_slot s)

  linked_term : {V S : Type 0} (K : List (Assertion V S)) (x y : Term V) → x ≡ y → AreLinked K x y
  linked_term K x y e = subst (λ z. AreLinked K x z) e (same x)

  node_is : (x : ℕ) → x < length names → AreNodesOf M N interpreted (described_node x) (node_of (node_at roots table x))
  node_is x h =
      let e : number_of names (named names x) ≡ x = number_of-named names once x h in
      record {
        colour = refl;
        own = record {
          there = linked_slot N (3 * number_of names (named names x) + 1) (3 * x + 1) (ap (λ k. 3 * k + 1) e);
          home = linked_slot M (named_slot names (3 * x + 1)) (own_of (named names x)) (named_slot-own names x);
        };
        top = record {
          there = linked_slot N (3 * number_of names (named names x) + 2) (3 * x + 2) (ap (λ k. 3 * k + 2) e);
          home = linked_slot M (named_slot names (3 * x + 2)) (top_of (named names x)) (named_slot-top names x);
        };
        bottom = record {
          there = linked_slot N (3 * number_of names (named names x) + 3) (3 * x + 3) (ap (λ k. 3 * k + 3) e);
          home = linked_slot M (named_slot names (3 * x + 3)) (bottom_of (named names x)) (named_slot-bottom names x);
        };
      }

  terms_are : (ts : List code_term.Term) → Each (IsTermBelow (length names)) ts → AllZip (AreTermsOf M N interpreted) (map (put_term (named_term names)) (map term_of ts)) (map term_of ts)
  terms_are [] h = tt
  terms_are (t ∷ ts) h = (
    record {
      there = linked_term N (put_term (forth names) (read_term names t)) (term_of t) (term-round names once t (below_made (length names) t h.0));
      home = same (read_term names t);
    },
    terms_are ts h.1,
  )

  literal_is : (l : code_literal.Literal) → SaysOf (length names) l → AreLiteralsOf M N interpreted (spoken_literal names l) (views.literal_of l)
  literal_is l h = terms_are (terms_in l) (h.0, (h.1, h.2))

  say_the_same : SayTheSame described (description_of made)
  say_the_same = record {
    networks = interpreted;
    nodes = AllZip-mapped (AreNodesOf M N interpreted) described_node (node_at roots table) node_of nodes (λ x i. node_is x (Each-at (λ x. x < length names) nodes x each_node i));
    relations = (λ r i. i, λ r i. i);
    interface = record { there = same_slot 0; home = same_slot the_interface };
    literals = subst (λ z. AllZip (AreLiteralsOf M N interpreted) z (map views.literal_of literals)) (sym (literals-said names facts))
        (AllZip-maps (AreLiteralsOf M N interpreted) (spoken_literal names) views.literal_of literals
        (λ l i. literal_is l (Each-at (SaysOf (length names)) literals l (literals_below (length names) facts below) i)));
  }

  sized : IsSized (all_said names facts) made
  sized = record { variables = names; once = once; said = names_said names facts met; vars = omega arith; slots = omega arith }

  abbrev built : ℕ → ℕ → List code_node.DescribedNode → List Related → List code_assertion.Assertion → SlotId → List code_literal.Literal → code.Description
  built v s n r w t l = record { vars = v; slots = s; nodes = n; relations = r; network = w; iface = t; sem = l }

  pub is_description : IsDescriptionOf (all_said names facts) made
  is_description = record { numbered = numbered; described = described; is_described = is_described; same = say_the_same; names = names_within names facts; sized = sized }

  -- the description that is made, by its parts
  pub is_description_of : (d : code.Description) → d.vars ≡ length names → d.slots ≡ 3 * length names + 1 → d.nodes ≡ made.nodes → d.relations ≡ made.relations
      → d.network ≡ all_asserted facts → d.iface ≡ slot_id 0 → d.sem ≡ literals → IsDescriptionOf (all_said names facts) d
  is_description_of d e f g h i j k = subst (IsDescriptionOf (all_said names facts)) (sym same_parts) is_description
    where
      same_parts : d ≡ made
      same_parts =
          ap₂ (λ v s. built v s d.nodes d.relations d.network d.iface d.sem) e f
          ∙ ap₂ (λ n r. built (length names) (3 * length names + 1) n r d.network d.iface d.sem) g h
          ∙ ap₂ (λ w t. built (length names) (3 * length names + 1) made.nodes made.relations w t d.sem) i j
          ∙ ap (λ l. built (length names) (3 * length names + 1) made.nodes made.relations (all_asserted facts) (slot_id 0) l) k
