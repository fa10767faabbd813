-- What is found of stated facts, put together.
use Rattle.std.specs.Prelude.{◌≡◌, ℕ, ◌+◌, ◌*◌, ◌^◌, ◌<◌, ◌≤◌, List, [], map, length, Bool, Option, Some, None, MatchOption, refl}
use Rattle.std.proofs.Common.{ap, sym, ◌∙◌, subst, arith}
use Rattle.gr_base.specs.Lists.{IsAmong, Each, NoneTwice, gathered}
use Rattle.gr_base.proofs.ListLemmas.{Each-at, Each-members}
use Rattle.gr_terms.specs.declared.Assertion.{Assertion}
use Rattle.gr_terms.specs.Networks.{Agrees}
use Rattle.gr_terms.specs.Views.{network_of}
use Rattle.td_desc.specs.declared.Colour.{Colour}
use Rattle.td_desc.specs.declared.Description.{Description}
use Rattle.mg_facts.specs.declared.fact.Fact.{Fact}
use Rattle.mg_facts.specs.Meanings.{Clashes, by_names, IsDescriptionOf}
use Rattle.mg_facts.specs.Numbered.{Numbered, all_said, IsBelow, AreMet, all_asserted, stand_in, values_in, colours_in, relations_in, literals_in, slot_id}
use Rattle.mg_facts.specs.Classes.{AreRoots, InRange, HasTwoColours, AreColours, AreMarked, AreFirstOnes, HasMarked, InOrder, ArePlaces, node_at, relation_at}
use Rattle.mg_facts.proofs.ReadingLemmas.{agrees-said}
use Rattle.mg_facts.proofs.ClassLemmas.{AreRoots-range}
use Rattle.mg_facts.proofs.MeaningLemmas.{standing_below}
use Rattle.mg_facts.proofs.ClashLemmas.{two_colours_clash, value_node_clashes, no_clash, firsts_within, nodes_below}
use Rattle.mg_facts.proofs.DescribeLemmas.{is_description_of}

module _ (s : Numbered) (settled : s.used ≡ length s.names) (F : List Fact) (is_F : F ≡ s.facts) (below : Each (IsBelow s.used) s.facts) (met : AreMet s.used s.facts) (once : NoneTwice s.names) where
  below_names : Each (IsBelow (length s.names)) F
  below_names = subst (λ z. Each (IsBelow (length s.names)) z) (sym is_F) (subst (λ n. Each (IsBelow n) s.facts) settled below)

  met_names : AreMet (length s.names) F
  met_names = subst (λ z. AreMet (length s.names) z) (sym is_F) (subst (λ n. AreMet n s.facts) settled met)

  clash_said : Clashes (all_said s.names F) → Clashes (all_said s.names s.facts)
  clash_said = subst (λ z. Clashes (all_said s.names F) → Clashes (all_said s.names z)) is_F (λ h. h)

  pub whole_disagrees : (Agrees (network_of (all_asserted s.facts)) → ⊥) → Clashes (all_said s.names s.facts)
  whole_disagrees h = clash_said (by_names (λ a. h (subst (λ z. Agrees (network_of (all_asserted z))) is_F ((agrees-said s.names once F below_names).0 a))))

  module _ (roots : List ℕ) (are_roots : AreRoots s.facts (length s.names) roots) where
    are : AreRoots F (length s.names) roots
    are = subst (λ z. AreRoots z (length s.names) roots) (sym is_F) are_roots

    pub whole_range : InRange roots
    whole_range = AreRoots-range F (length s.names) roots are

    pub whole_below : Each (IsBelow (length roots)) F
    whole_below = subst (λ n. Each (IsBelow n) F) (sym are.size) below_names

    pub whole_two_colours : HasTwoColours roots (gathered colours_in F) → Clashes (all_said s.names s.facts)
    whole_two_colours h = clash_said (two_colours_clash s.names F once below_names roots are h)

    module _ (standing : List ℕ) (is_standing : standing ≡ gathered stand_in F) where
      pub whole_standing_below : Each (λ x. x < length roots) standing
      whole_standing_below = subst (λ xs. Each (λ x. x < length roots) xs) (sym is_standing) (standing_below (length roots) F whole_below)

      pub whole_value_node : (marks : List Bool) → AreMarked roots standing marks → HasMarked roots marks (gathered values_in F) → Clashes (all_said s.names s.facts)
      whole_value_node marks marked h = clash_said (value_node_clashes s.names F once below_names roots are marks (subst (λ xs. AreMarked roots xs marks) is_standing marked) h)

      module _ (table : List (Option Colour)) (colours : AreColours roots (gathered colours_in F) table) (firsts : List ℕ) (are_firsts : AreFirstOnes roots [] standing firsts) where
        firsts_here : AreFirstOnes roots [] (gathered stand_in F) firsts
        firsts_here = subst (λ xs. AreFirstOnes roots [] xs firsts) is_standing are_firsts

        pub whole_firsts_below : Each (λ x. x < length roots) firsts
        whole_firsts_below =
            Each-members (λ x. x < length roots) firsts
            (λ x i. Each-at (λ x. x < length roots) standing x whole_standing_below (firsts_within s.names F once below_names roots are table colours [] standing firsts are_firsts x i))

        module _ (nodes : List ℕ) (order : InOrder roots table firsts nodes) where
          pub whole_nodes_below : Each (λ x. x < length roots) nodes
          whole_nodes_below = subst (λ n. Each (λ x. x < n) nodes) (sym are.size) (nodes_below s.names F once below_names roots are table colours firsts nodes firsts_here order)

          pub whole_description : (places : List ℕ) → ArePlaces roots nodes places → (marks : List Bool) → AreMarked roots standing marks → (HasMarked roots marks (gathered values_in F) → ⊥)
              → (network : List Assertion) → network ≡ all_asserted s.facts → Agrees (network_of network)
              → (d : Description) → d.vars ≡ length s.names → d.slots ≡ 3 * length s.names + 1 → d.nodes ≡ map (node_at roots table) nodes
              → d.relations ≡ map (relation_at roots places) (gathered relations_in F) → d.network ≡ network → d.iface ≡ slot_id 0 → d.sem ≡ gathered literals_in F
              → (Clashes (all_said s.names s.facts) → ⊥) × IsDescriptionOf (all_said s.names s.facts) d
          whole_description places are_places marks marked none network is_network agrees d e f g h i j k =
              subst (λ z. (Clashes (all_said s.names z) → ⊥) × IsDescriptionOf (all_said s.names z) d) is_F (
                no_clash s.names F once below_names roots are agrees_here table colours marks (subst (λ xs. AreMarked roots xs marks) is_standing marked) none,
                is_description_of s.names F once below_names met_names roots are table colours firsts nodes firsts_here order places are_places d e f g h (i ∙ network_here) j k,
              )
            where
              network_here : network ≡ all_asserted F
              network_here = is_network ∙ ap all_asserted (sym is_F)

              agrees_here : Agrees (network_of (all_asserted F))
              agrees_here = subst (λ z. Agrees (network_of z)) network_here agrees

-- ANSWERS

pub none_case : {A : Type 0} (o : Option A) (P : Type 0) (Q : A → Type 0) → o ≡ None → MatchOption o P Q → P
none_case None P Q e h = h
none_case (Some x) P Q e h = absurd (some_is_not_none x e)
  where
    some_is_not_none : {A : Type 0} (x : A) → Some x ≡ None → ⊥
    some_is_not_none x e = cc

pub some_case : {A : Type 0} (o : Option A) (x : A) (P : Type 0) (Q : A → Type 0) → o ≡ Some x → MatchOption o P Q → Q x
some_case o x P Q e h = subst (λ z. MatchOption z P Q) e h
