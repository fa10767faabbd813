-- The texts of the minimal models of a description are finitely many.
use Rattle.std.specs.Prelude.{◌≡◌, ℕ, List, [], ◌∷◌, Option, Some, None, ◌↔◌, slice_get}
use Rattle.std.proofs.Common.{inl, inr, sym, subst}
use Rattle.gr_base.specs.Lists.{IsAmong, Each, gathered}
use Rattle.gr_base.specs.Forests.{Forest, labels}
use Rattle.gr_base.proofs.ListLemmas.{IsAmong-append, IsAmong-gathered_from}
use Rattle.gr_terms.specs.Networks.{Term, Assertion, entry, link}
use Rattle.td_desc.specs.Descriptions.{Description, DescribedNode}
use Rattle.td_canon.specs.CanonicalTexts.{IsCanonicalText, TellsAttributesApart}
use Rattle.td_canon.proofs.TellingLemmas.{one_network_text}
use Rattle.td_colour.specs.Models.{node_links, set_links, merged_network, model_tree, IsMinimalModel}
use Rattle.td_count.specs.TextsOfModels.{DifferByTexts, IsTextOfModel}
use Rattle.gr_base.specs.Decisions.{AreToldApart}
use Rattle.td_count.proofs.Counting.{minimal_listed}
use Rattle.td_count.proofs.Forming.{text_there}

module _ {V S : Type 0} where
  -- links add no entries
  no_entry_between : (n m : Option (DescribedNode S)) (s : S) (a : ℕ) (x : Term V) → IsAmong (node_links n m) (entry s a x) → ⊥
  no_entry_between None m s a x i = i
  no_entry_between (Some n) None s a x i = i
  no_entry_between (Some n) (Some m) s a x i = elim i [
    | inl e ↦ let d : ◌≡◌ {A = Assertion V S} (entry s a x) (link n.slots.own m.slots.own) = e in cc d
    | inr j ↦ elim j [
      | inl e ↦ let d : ◌≡◌ {A = Assertion V S} (entry s a x) (link n.slots.top m.slots.top) = e in cc d
      | inr k ↦ elim k [
        | inl e ↦ let d : ◌≡◌ {A = Assertion V S} (entry s a x) (link n.slots.bottom m.slots.bottom) = e in cc d
        | inr l ↦ l
      ]
    ]
  ]

  no_entry_in : (nodes : List (DescribedNode S)) (set : List ℕ) (s : S) (a : ℕ) (x : Term V) → IsAmong (set_links nodes set) (entry s a x) → ⊥
  no_entry_in nodes [] s a x i = i
  no_entry_in nodes (k ∷ ks) s a x i =
      let r = IsAmong-gathered_from (λ y. node_links (slice_get nodes k) (slice_get nodes y)) ks (entry s a x) i in
      no_entry_between (slice_get nodes k) (slice_get nodes r.0) s a x r.2

  -- each entry of a merged network is the description's
  entry_of : (d : Description V S) (F : Forest (List ℕ)) (s : S) (a : ℕ) (x : Term V) → IsAmong (merged_network d F) (entry s a x) → IsAmong d.network (entry s a x)
  entry_of d F s a x i = elim (IsAmong-append d.network (gathered (set_links d.nodes) (labels F)) (entry s a x) i) [
    | inl j ↦ j
    | inr j ↦ let r = IsAmong-gathered_from (set_links d.nodes) (labels F) (entry s a x) j in absurd (no_entry_in d.nodes r.0 s a x r.2)
  ]

  told : (text : ℕ → List ℕ) (d : Description V S) (F : Forest (List ℕ)) → DifferByTexts text d → TellsAttributesApart text (merged_network d F) (model_tree d F)
  told text d F apart p q s r x y i j (t, l, m) (u, k, n) e = apart p q t u x y (entry_of d F t p x m) (entry_of d F u q y n) e

  module _ (variables : AreToldApart V) (slots : AreToldApart S) (text : ℕ → List ℕ) (d : Description V S) (apart : DifferByTexts text d) where
    record Texts (Fs : List (Forest (List ℕ))) : Type 0 where
      pub list : List (List ℕ)
      pub only : (b : List ℕ) → IsAmong list b → IsTextOfModel text d b
      pub all : (F : Forest (List ℕ)) (b : List ℕ) → IsAmong Fs F → IsCanonicalText text (merged_network d F) (model_tree d F) b → IsAmong list b

    texts_of : (Fs : List (Forest (List ℕ))) → Each (IsMinimalModel d) Fs → Texts Fs
    texts_of [] h = record { list = []; only = λ b i. absurd i; all = λ F b i c. absurd i }
    texts_of (F ∷ Fs) h =
        let r = texts_of Fs h.1 in
        let tells = told text d F apart in
        let t = text_there variables slots text (merged_network d F) (model_tree d F) h.0.model.network tells in
        record {
          list = t.0 ∷ r.list;
          only = λ b i. elim i [
            | inl e ↦ (F, h.0, subst (λ z. IsCanonicalText text (merged_network d F) (model_tree d F) z) (sym e) t.1)
            | inr j ↦ r.only b j
          ];
          all = λ G b i c. elim i [
            | inl e ↦ inl (one_network_text text (merged_network d F) (model_tree d F) b t.0 tells (subst (λ H. IsCanonicalText text (merged_network d H) (model_tree d H) b) e c) t.1)
            | inr j ↦ inr (r.all G b j c)
          ];
        }

    pub all_texts : (bs : List (List ℕ)) × ((b : List ℕ) → IsAmong bs b ↔ IsTextOfModel text d b)
    all_texts =
        let Fs = minimal_listed variables slots d in
        let r = texts_of Fs.0 Fs.1.only in
        (r.list, λ b. (r.only b, λ h. r.all h.0 b (Fs.1.all h.0 h.1) h.2))
