-- The parts of a minimal model, and what each test decides of it.
use Rattle.std.specs.Prelude.{◌≡◌, ℕ, ◌+◌, ◌-◌, ◌*◌, ◌<◌, ◌≤◌, List, ◌++◌, length, take, ◌↔◌, Bool, true, false, IsTrue, refl}
use Rattle.std.proofs.Common.{ap, sym, ◌∙◌, subst, arith}
use Rattle.std.proofs.lemmas.List.{take_all, length-map}
use Rattle.gr_base.specs.Lists.{Each, gathered}
use Rattle.gr_base.specs.Forests.{Forest, empty, tree, IsOneTree, labels, size}
use Rattle.gr_terms.specs.Canonical.{Node}
use Rattle.gr_terms.specs.Networks as net
use Rattle.gr_terms.specs.Networks.{Agrees}
use Rattle.gr_terms.specs.Views.{network_of}
use Rattle.gr_terms.specs.declared.Assertion.{Assertion}
use Rattle.gr_store.specs.declared.room.Mark.{Mark}
use Rattle.gr_store.specs.Contents.{Contents, IsEarlier, MentionsAll, Grows, mark_of, first_part}
use Rattle.gr_store.proofs.Growth.{IsEarlier-grown, first_part-grown}
use Rattle.td_desc.specs.Descriptions as read
use Rattle.td_desc.specs.Descriptions.{description_of, node_of}
use Rattle.td_forest.specs.Nodes.{IsForestOf}
use Rattle.td_desc.specs.declared.Description.{Description}
use Rattle.td_desc.specs.Conditions as described
use Rattle.td_desc.specs.Conditions.{IsNumbered, AreSlotsBelow}
use Rattle.td_tree.specs.Trees.{BagPairs, AreTreeNodes}
use Rattle.td_tree.specs.declared.Tree.{Tree}
use Rattle.td_tree.specs.declared.TreeNode.{TreeNode}
use Rattle.td_colour.specs.Colours.{IsLawful}
use Rattle.td_colour.specs.Models.{AllHold, merged_network, set_links}
use Rattle.td_check.specs.Sets.{IsOnto, sent_to, sets_from, sets_of}
use Rattle.td_check.specs.Models.{MakesMinimalModel, AgreesWith}
use Rattle.td_check.specs.Places.{AreLaid, AreHeads, DecidesRelations, HasAttributesOf, AreReady, set_list, nodes_of, ListsNodes, ListsAll, Passes, FitsAll}
use Rattle.td_check.proofs.Ends.{length-laid}
use Rattle.td_check.proofs.Onto.{onto_forest, forest_onto, labels-sets, each_set, set_each}
use Rattle.td_check.proofs.Whole.{attributes_of, loaded_is, loaded_agrees, network_agrees, merged_agrees}
use Rattle.td_check.proofs.Telling.{tree_found, nodes_told, interface_told, values_told}
use Rattle.td_check.specs.Shifts.{Gains, moved}
use Rattle.td_check.proofs.Gaining.{length-moved, length-network}
use Rattle.td_check.proofs.Heads.{head_sends}

differ : ◌≡◌ {A = Bool} false true → ⊥
differ e = cc

pub yes_to : (A : Type 0) → A → IsTrue true ↔ A
yes_to A a = ((λ t. a), (λ h. refl))

pub no_to : (A : Type 0) → (A → ⊥) → IsTrue false ↔ A
no_to A none = ((λ t. absurd (differ t)), (λ a. absurd (none a)))

-- ---- the number of tree nodes, as the code has it

pub counted_gains : (new last : Contents) (slots k n : ℕ) (nodes : List (read.DescribedNode ℕ)) (map : List ℕ) → k ≡ n → Gains new last (moved 0 slots (gathered (set_links nodes) (set_list map 0 k))) → Gains new last (moved 0 slots (gathered (set_links nodes) (set_list map 0 n)))
counted_gains new last slots k n nodes map e h = subst (λ z. Gains new last (moved 0 slots (gathered (set_links nodes) (set_list map 0 z)))) e h

pub counted_agrees : (new : Contents) (r : Bool) (slots k n : ℕ) (nodes : List (read.DescribedNode ℕ)) (map : List ℕ) → k ≡ n → IsTrue r ↔ Agrees (network_of new.accepted ++ moved 0 slots (gathered (set_links nodes) (set_list map 0 k)))
    → IsTrue r ↔ Agrees (network_of new.accepted ++ moved 0 slots (gathered (set_links nodes) (set_list map 0 n)))
counted_agrees new r slots k n nodes map e h = subst (λ z. IsTrue r ↔ Agrees (network_of new.accepted ++ moved 0 slots (gathered (set_links nodes) (set_list map 0 z)))) e h

pub counted_lawful : (r : Bool) (k n : ℕ) (nodes : List (read.DescribedNode ℕ)) (map : List ℕ) → k ≡ n → IsTrue r ↔ ((t : ℕ) → t < k → IsLawful nodes (sent_to map t)) → IsTrue r ↔ ((t : ℕ) → t < n → IsLawful nodes (sent_to map t))
counted_lawful r k n nodes map e h = subst (λ z. IsTrue r ↔ ((t : ℕ) → t < z → IsLawful nodes (sent_to map t))) e h

pub same_relations : (d : Description) (nodes others : List TreeNode) (map : List ℕ) (r : Bool) → nodes ≡ others → DecidesRelations d nodes map r → DecidesRelations d others map r
same_relations d nodes others map r e h = subst (λ z. DecidesRelations d z map r) e h

-- ---- what a store was

pub mentions_then : (c : Contents) → IsEarlier c (mark_of c) → MentionsAll c.vars c.slots c.accepted
mentions_then c earlier = subst (λ z. MentionsAll c.vars c.slots z) (take_all (length c.accepted) c.accepted (omega arith)) earlier.mentions

pub mentions_of : (c : Contents) (m : Mark) → m ≡ mark_of c → IsEarlier c m → MentionsAll c.vars c.slots c.accepted
mentions_of c m is earlier = mentions_then c (subst (λ z. IsEarlier c z) is earlier)

pub undo_earlier : (old new : Contents) (m : Mark) → m ≡ mark_of old → IsEarlier old m → Grows old new → IsEarlier new m
undo_earlier old new m is earlier grows = subst (λ z. IsEarlier new z) (sym is) (IsEarlier-grown old new grows (subst (λ z. IsEarlier old z) is earlier))

pub undo_gives : (old new last : Contents) (m : Mark) → m ≡ mark_of old → Grows old new → last ≡ first_part new m → last ≡ old
undo_gives old new last m is grows e = e ∙ ap (λ z. first_part new z) is ∙ first_part-grown old new grows

length_read : (d : Description) → length (description_of d).nodes ≡ length d.nodes
length_read d = length-map d.nodes node_of

-- what the code finds of the two sides
pub record IsAlike (Q : List (net.Assertion ℕ ℕ)) (d : Description) (t : Tree) (heads : List ℕ) (vars slots : ℕ) : Type 0 where
  pub nodes : ListsNodes Q d t heads slots
  pub interface : ListsAll Q (slots + d.iface.0) t.iface
  pub values : Passes Q (FitsAll Q d t heads vars slots) d t heads vars slots

pub alike_record : (r : Bool) (Q : List (net.Assertion ℕ ℕ)) (d : Description) (t : Tree) (heads : List ℕ) (vars slots : ℕ) → (IsTrue r → IsAlike Q d t heads vars slots) → (IsAlike Q d t heads vars slots → IsTrue r)
    → IsTrue r ↔ IsAlike Q d t heads vars slots
alike_record r Q d t heads vars slots f g = (f, g)

-- ---- the parts of a minimal model

one_sets : (map : List ℕ) (f : Forest (Node BagPairs)) → IsOneTree f → IsOneTree (sets_of map f)
one_sets map empty one = absurd one
one_sets map (tree b kids empty) one = tt
one_sets map (tree b kids (tree c others more)) one = absurd one

module _ (d : Description) (t : Tree) (map : List ℕ) where
  pub onto_of : MakesMinimalModel d t map → IsOnto map (length d.nodes) (length t.nodes)
  onto_of h =
      subst (λ k. IsOnto map (length d.nodes) k) (sym (length-laid t.nodes h.nodes.forest h.nodes.laid))
      (forest_onto map (length d.nodes) h.nodes.forest h.is.number (subst (λ k. IsForestOf k (sets_of map h.nodes.forest)) (length_read d) h.is.model.model.nodes))

  pub lawful_of : MakesMinimalModel d t map → (k : ℕ) → k < length t.nodes → IsLawful (description_of d).nodes (sent_to map k)
  lawful_of h k l =
      let c : length t.nodes ≡ size h.nodes.forest = length-laid t.nodes h.nodes.forest h.nodes.laid in
      set_each (IsLawful (description_of d).nodes) map 0 (size h.nodes.forest)
      (subst (λ z. Each (IsLawful (description_of d).nodes) z) (labels-sets 0 map h.nodes.forest) h.is.model.model.colours) k (omega arith) (omega arith)

  pub relations_of : MakesMinimalModel d t map → DecidesRelations d t.nodes map false → ⊥
  relations_of h refused =
      differ ((refused h.nodes.forest h.nodes.laid).1 (subst (λ k. AllHold d.relations k (sets_of map h.nodes.forest)) (length_read d) h.is.model.model.relations))

  pub agrees_of : MakesMinimalModel d t map → AgreesWith d t map
  agrees_of h = record { nodes = h.nodes; is = record { network = h.is.model.model.network; tree = h.is.tree } }

  pub makes_model : IsOnto map (length d.nodes) (length t.nodes) → ((k : ℕ) → k < length t.nodes → IsLawful (description_of d).nodes (sent_to map k)) → DecidesRelations d t.nodes map true
      → AgreesWith d t map → MakesMinimalModel d t map
  makes_model onto lawful relations agrees =
      let f = agrees.nodes.forest in
      let c : length t.nodes ≡ size f = length-laid t.nodes f agrees.nodes.laid in
      record {
        nodes = agrees.nodes;
        is = record {
          number = onto.number;
          model = record {
            model = record {
              nodes = subst (λ k. IsForestOf k (sets_of map f)) (sym (length_read d)) (onto_forest map (length d.nodes) f (subst (λ k. IsOnto map (length d.nodes) k) c onto));
              relations = subst (λ k. AllHold d.relations k (sets_of map f)) (sym (length_read d)) ((relations f agrees.nodes.laid).0 refl);
              colours = subst (λ z. Each (IsLawful (description_of d).nodes) z) (sym (labels-sets 0 map f)) (each_set (IsLawful (description_of d).nodes) map 0 (size f) (λ k p q. lawful k (omega arith)));
              network = agrees.is.network;
            };
            one = one_sets map f agrees.nodes.one;
          };
          tree = agrees.is.tree;
        };
      }

  -- ---- what the network says

  module _ (vars slots : ℕ) (list : List Assertion) (mentions : MentionsAll vars slots list) (agrees : Agrees (network_of list)) where
    -- where the network alone, or with the links of sets, does not agree with what the store had, nothing does
    not_network : (Agrees (network_of list ++ moved vars slots (network_of d.network)) → ⊥) → AgreesWith d t map → ⊥
    not_network refused h = refused (network_agrees d t.nodes map h.nodes.forest h.nodes.laid vars slots list mentions agrees h.is.network)

    abbrev pub WithSets : List (net.Assertion ℕ ℕ)
    WithSets = (network_of list ++ moved vars slots (network_of d.network)) ++ moved 0 slots (gathered (set_links (nodes_of d.nodes)) (set_list map 0 (length t.nodes)))

    not_sets : (Agrees WithSets → ⊥) → AgreesWith d t map → ⊥
    not_sets refused h = refused (loaded_agrees d t.nodes map h.nodes.forest h.nodes.laid vars slots list mentions agrees h.is.network)

    module _ (Q : List (net.Assertion ℕ ℕ)) (is : Q ≡ WithSets) where
      told_network : (f : Forest (Node BagPairs)) → AreLaid t.nodes f → network_of list ++ moved vars slots (merged_network (description_of d) (sets_of map f)) ≡ Q
      told_network f laid = loaded_is d t.nodes map f laid vars slots (network_of list) ∙ sym is

      attributes_told : AreTreeNodes t.nodes → HasAttributesOf d Q slots
      attributes_told tree_nodes = attributes_of d t.nodes map tree_nodes.forest tree_nodes.laid vars slots list mentions Q (sym (told_network tree_nodes.forest tree_nodes.laid))

      module _ (number : length map ≡ length d.nodes) (heads : List ℕ) (are : AreHeads map (length t.nodes) heads) where
        is_alike : AgreesWith d t map → IsAlike Q d t heads vars slots
        is_alike h =
            let f = h.nodes.forest in
            let laid = h.nodes.laid in
            record {
              nodes = subst (λ N. ListsNodes N d t heads slots) (told_network f laid) (nodes_told d t map f laid heads are number vars slots list mentions h.is.tree);
              interface = subst (λ N. ListsAll N (slots + d.iface.0) t.iface) (told_network f laid) (interface_told d t map f laid heads are number vars slots list mentions h.is.tree);
              values = subst (λ N. Passes N (FitsAll N d t heads vars slots) d t heads vars slots) (told_network f laid) (values_told d t map f laid heads are number vars slots list mentions h.is.tree agrees h.is.network);
            }

        alike_agrees : AreTreeNodes t.nodes → Agrees Q → IsAlike Q d t heads vars slots → AgreesWith d t map
        alike_agrees tree_nodes all alike =
            let f = tree_nodes.forest in
            let laid = tree_nodes.laid in
            let back = sym (told_network f laid) in
            let own = merged_agrees d t.nodes map f laid vars slots list mentions agrees (subst (λ N. Agrees N) is all) in
            record {
              nodes = tree_nodes;
              is = record {
                network = own;
                tree = tree_found d t map f laid heads are number vars slots list mentions agrees own
                    (subst (λ N. ListsNodes N d t heads slots) back alike.nodes)
                    (subst (λ N. ListsAll N (slots + d.iface.0) t.iface) back alike.interface)
                    (subst (λ N. Passes N (FitsAll N d t heads vars slots) d t heads vars slots) back alike.values);
              };
            }

  -- ---- the same with the states of the store

  module _ (old now : Contents) (vars slots : ℕ) (first_var : vars ≡ old.vars) (first_slot : slots ≡ old.slots) (vars_now : now.vars ≡ old.vars + d.vars) (slots_now : now.slots ≡ old.slots + d.slots)
      (accepted : now.accepted ≡ old.accepted) (mentions : MentionsAll old.vars old.slots old.accepted) (agreed : Agrees (network_of old.accepted)) where
    first_mentions : MentionsAll vars slots old.accepted
    first_mentions = subst (λ v. MentionsAll v slots old.accepted) (sym first_var) (subst (λ s. MentionsAll old.vars s old.accepted) (sym first_slot) mentions)

    pub network_made : IsNumbered d → Each (described.Mentions (now.vars - vars) (now.slots - slots)) d.network
    network_made numbered =
        let v : d.vars ≡ now.vars - vars = omega arith in
        let s : d.slots ≡ now.slots - slots = omega arith in
        subst (λ k. Each (described.Mentions k (now.slots - slots)) d.network) v (subst (λ k. Each (described.Mentions d.vars k) d.network) s numbered.network)

    pub agreed_now : Agrees (network_of now.accepted)
    agreed_now = subst (λ z. Agrees (network_of z)) (sym accepted) agreed

    pub nodes_made : (new : Contents) → new.slots ≡ now.slots → IsNumbered d → Each (AreSlotsBelow (new.slots - slots)) d.nodes
    nodes_made new same numbered = let s : d.slots ≡ new.slots - slots = omega arith in subst (λ k. Each (AreSlotsBelow k) d.nodes) s numbered.nodes

    pub sets_room_left : (new : Contents) → Gains now new (moved vars slots (network_of d.network)) → length d.network + 3 * length d.nodes ≤ now.spare.assertions → 3 * length d.nodes ≤ new.spare.assertions
    sets_room_left new gains room =
        let n : length (moved vars slots (network_of d.network)) ≡ length d.network = length-moved vars slots (network_of d.network) ∙ length-network d.network in
        let g : now.spare.assertions ≤ new.spare.assertions + length (moved vars slots (network_of d.network)) = gains.assertions in
        omega (arith, n, g)

    pub agreed_loaded : (new : Contents) → Gains now new (moved vars slots (network_of d.network)) → Agrees (network_of now.accepted ++ moved vars slots (network_of d.network)) → Agrees (network_of new.accepted)
    agreed_loaded new gains agrees = subst (λ N. Agrees N) (sym gains.accepted) agrees

    pub no_network : (r : Bool) → IsTrue r ↔ Agrees (network_of now.accepted ++ moved vars slots (network_of d.network)) → r ≡ false → IsTrue false ↔ AgreesWith d t map
    no_network r h refused = no_to (AgreesWith d t map) (not_network vars slots old.accepted first_mentions agreed
        (λ agrees. differ (sym refused ∙ h.1 (subst (λ z. Agrees (network_of z ++ moved vars slots (network_of d.network))) (sym accepted) agrees))))

    loaded_now : (new : Contents) → Gains now new (moved vars slots (network_of d.network)) → network_of new.accepted ≡ network_of old.accepted ++ moved vars slots (network_of d.network)
    loaded_now new gains = gains.accepted ∙ ap (λ z. network_of z ++ moved vars slots (network_of d.network)) accepted

    pub no_sets : (new : Contents) (r : Bool) → Gains now new (moved vars slots (network_of d.network))
        → IsTrue r ↔ Agrees (network_of new.accepted ++ moved 0 slots (gathered (set_links (nodes_of d.nodes)) (set_list map 0 (length t.nodes)))) → r ≡ false → IsTrue false ↔ AgreesWith d t map
    no_sets new r gains h refused = no_to (AgreesWith d t map) (not_sets vars slots old.accepted first_mentions agreed
        (λ agrees. differ (sym refused ∙ h.1 (subst (λ N. Agrees (N ++ moved 0 slots (gathered (set_links (nodes_of d.nodes)) (set_list map 0 (length t.nodes))))) (sym (loaded_now new gains)) agrees))))

    module _ (new last : Contents) (gains : Gains now new (moved vars slots (network_of d.network)))
        (links : Gains new last (moved 0 slots (gathered (set_links (nodes_of d.nodes)) (set_list map 0 (length t.nodes))))) where
      with_sets : network_of last.accepted ≡ WithSets vars slots old.accepted first_mentions agreed
      with_sets = links.accepted ∙ ap (λ z. z ++ moved 0 slots (gathered (set_links (nodes_of d.nodes)) (set_list map 0 (length t.nodes)))) (loaded_now new gains)

      pub attributes_are : AreTreeNodes t.nodes → HasAttributesOf d (network_of last.accepted) slots
      attributes_are tree_nodes = attributes_told vars slots old.accepted first_mentions agreed (network_of last.accepted) with_sets tree_nodes

      pub ready : IsNumbered d → length t.nodes ≤ 24 → (heads : List ℕ) → AreHeads map (length t.nodes) heads → length map ≡ length d.nodes → now.vars < 4294967296 → now.slots < 4294967296
          → AreReady d (length t.nodes) heads vars slots
      ready numbered few heads are number few_vars few_slots = record {
        few = few;
        heads_within = λ k l. let w = head_sends map heads (length t.nodes) k are l in omega (arith, w, number);
        few_vars = omega arith;
        few_slots = omega arith;
        nodes = numbered.nodes;
        interface = numbered.interface;
        literals = numbered.literals;
      }

      pub alike_decides : (r : Bool) (heads : List ℕ) → AreHeads map (length t.nodes) heads → length map ≡ length d.nodes → AreTreeNodes t.nodes
          → Agrees (network_of new.accepted ++ moved 0 slots (gathered (set_links (nodes_of d.nodes)) (set_list map 0 (length t.nodes))))
          → IsTrue r ↔ IsAlike (network_of last.accepted) d t heads vars slots → IsTrue r ↔ AgreesWith d t map
      alike_decides r heads are number tree_nodes agrees h =
          let Q = network_of last.accepted in
          let all : Agrees Q = subst (λ N. Agrees N) (sym links.accepted) agrees in (
            (λ e. alike_agrees vars slots old.accepted first_mentions agreed Q with_sets number heads are tree_nodes all (h.0 e)),
            (λ a. h.1 (is_alike vars slots old.accepted first_mentions agreed Q with_sets number heads are a)),
          )

  -- ---- the answers of the tests

  pub no_onto : (n k : ℕ) (r : Bool) → n ≡ length d.nodes → k ≡ length t.nodes → IsTrue r ↔ IsOnto map n k → r ≡ false → IsTrue false ↔ MakesMinimalModel d t map
  no_onto n k r p q h refused = no_to (MakesMinimalModel d t map) (λ m. differ (sym refused ∙ h.1 (subst (λ z. IsOnto map z k) (sym p) (subst (λ z. IsOnto map (length d.nodes) z) (sym q) (onto_of m)))))

  pub yes_onto : (n k : ℕ) (r : Bool) → n ≡ length d.nodes → k ≡ length t.nodes → IsTrue r ↔ IsOnto map n k → r ≡ true → IsOnto map (length d.nodes) (length t.nodes)
  yes_onto n k r p q h found = subst (λ z. IsOnto map z (length t.nodes)) p (subst (λ z. IsOnto map n z) q (h.0 found))

  pub no_lawful : (r : Bool) → IsTrue r ↔ ((k : ℕ) → k < length t.nodes → IsLawful (description_of d).nodes (sent_to map k)) → r ≡ false → IsTrue false ↔ MakesMinimalModel d t map
  no_lawful r h refused = no_to (MakesMinimalModel d t map) (λ m. differ (sym refused ∙ h.1 (lawful_of m)))

  pub no_relations : (r : Bool) → DecidesRelations d t.nodes map r → r ≡ false → IsTrue false ↔ MakesMinimalModel d t map
  no_relations r h refused = no_to (MakesMinimalModel d t map) (λ m. relations_of m (subst (λ b. DecidesRelations d t.nodes map b) refused h))

  pub all_decide : (r lawful relations : Bool) → IsOnto map (length d.nodes) (length t.nodes) → IsTrue lawful ↔ ((k : ℕ) → k < length t.nodes → IsLawful (description_of d).nodes (sent_to map k)) → lawful ≡ true
      → DecidesRelations d t.nodes map relations → relations ≡ true → IsTrue r ↔ AgreesWith d t map → IsTrue r ↔ MakesMinimalModel d t map
  all_decide r lawful relations onto h found g also agrees = (
    (λ e. makes_model onto (h.0 found) (subst (λ b. DecidesRelations d t.nodes map b) also g) (agrees.0 e)),
    (λ m. agrees.1 (agrees_of m)),
  )
