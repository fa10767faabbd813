-- What a set gains by the tree of a model.
use Rattle.std.specs.Prelude.{◌≡◌, ℕ, List, ◌∷◌, Bool, true, false, length, ◌⊎◌, refl}
use Rattle.std.specs.Bool.{OnTrue, OnFalse}
use Rattle.std.proofs.Common.{inl, inr, subst, sym, ◌∙◌, arith}
use Rattle.std.proofs.lemmas.List.{length-map}
use Rattle.gr_base.specs.Lists.{IsAmong, IsWithin}
use Rattle.gr_base.specs.Forests.{Forest, empty, tree, IsOneTree}
use Rattle.gr_base.proofs.ListLemmas.{IsAmong-append, IsAmong-append_left, IsAmong-append_right, IsAmong-map}
use Rattle.td_tree.specs.declared.Tree.{Tree}
use Rattle.td_canon.specs.CanonicalTexts.{HasText, text_in}
use Rattle.td_canon.specs.TreeSets.{Entry, Gains, IsWhole, LacksText, texts_of}
use Rattle.td_desc.specs.declared.Description as code
use Rattle.td_desc.specs.Descriptions.{Description, node_of, description_of}
use Rattle.td_forest.specs.Steps.{width}
use Rattle.td_colour.specs.Models.{IsForestModel, IsMinimalModel}
use Rattle.td_model.specs.ModelTrees.{IsModelText}
use Rattle.td_model.specs.ModelEntries.{IsModelEntry}
use Rattle.td_model.proofs.EntryLemmas.{entry_text}
use Rattle.td_solver.specs.Solutions.{GainsSome, IsSolution}
use Rattle.td_solver.specs.Turns.{HasTextOf}

pub one_width : (F : Forest (List ℕ)) (n : ℕ) → n ≡ 1 → n ≡ width F → IsOneTree F
one_width empty n e f = absurd (omega arith)
one_width (tree a kids empty) n e f = tt
one_width (tree a kids (tree b others more)) n e f = let q : n ≡ width (tree a kids (tree b others more)) = f in absurd (omega arith)

pub minimal : (dd : code.Description) (count : ℕ) (F : Forest (List ℕ)) → count ≡ length dd.nodes → IsForestModel (description_of dd) count F → IsOneTree F → IsMinimalModel (description_of dd) F
minimal dd count F e model one = record {
  model = subst (λ k. IsForestModel (description_of dd) k F) (e ∙ sym (length-map dd.nodes node_of)) model;
  one = one;
}

module _ (texts : List (List ℕ)) (d : Description ℕ ℕ) (F : Forest (List ℕ)) (t : Tree) (old new : List Entry)
    (entry_is : (bytes : List ℕ) → HasText texts t bytes → IsModelEntry texts d F (record { tree = t; text = bytes })) where
  abbrev IsAdded : Type 0
  IsAdded = (bytes : List ℕ) × HasText texts t bytes × LacksText old bytes × Gains old new t bytes

  abbrev WasThere : Type 0
  WasThere = (bytes : List ℕ) × HasText texts t bytes × IsAmong (texts_of old) bytes

  text_is : (bytes : List ℕ) → HasText texts t bytes → IsModelText (text_in texts) d F bytes
  text_is bytes h = entry_text texts d F (record { tree = t; text = bytes }) (entry_is bytes h)

  gained : (h : IsAdded) → IsAmong new (record { tree = t; text = h.0 })
  gained h = subst (λ es. IsAmong es (record { tree = t; text = h.0 })) (sym h.3.3) (IsAmong-append_right h.3.0 (record { tree = t; text = h.0 } ∷ h.3.1) (record { tree = t; text = h.0 }) (inl refl))

  pub added_has : (b : Bool) → OnTrue b IsAdded → OnFalse b WasThere → OnFalse b (new ≡ old) → HasTextOf (text_in texts) d F new
  added_has true h there same = (h.0, text_is h.0 h.1, IsAmong-map (λ (e : Entry). e.text) new (record { tree = t; text = h.0 }) (gained h))
  added_has false h there same = (there.0, text_is there.0 there.1, subst (λ es. IsAmong (texts_of es) there.0) (sym same) there.2)

  kept_by : (h : IsAdded) → IsWithin old new
  kept_by h e i = elim (IsAmong-append h.3.0 h.3.1 e (subst (λ es. IsAmong es e) h.3.2 i)) [
    | inl j ↦ subst (λ es. IsAmong es e) (sym h.3.3) (IsAmong-append_left h.3.0 (record { tree = t; text = h.0 } ∷ h.3.1) e j)
    | inr j ↦ subst (λ es. IsAmong es e) (sym h.3.3) (IsAmong-append_right h.3.0 (record { tree = t; text = h.0 } ∷ h.3.1) e (inr j))
  ]

  only_by : IsMinimalModel d F → (h : IsAdded) → (e : Entry) → IsAmong new e → IsAmong old e ⊎ IsSolution texts d e
  only_by min h e i = elim (IsAmong-append h.3.0 (record { tree = t; text = h.0 } ∷ h.3.1) e (subst (λ es. IsAmong es e) h.3.3 i)) [
    | inl j ↦ inl (subst (λ es. IsAmong es e) (sym h.3.2) (IsAmong-append_left h.3.0 h.3.1 e j))
    | inr j ↦ elim j [
      | inl q ↦ inr (subst (λ (x : Entry). IsSolution texts d x) (sym q) (record { forest = F; minimal = min; entry = entry_is h.0 h.1 }))
      | inr k ↦ inl (subst (λ es. IsAmong es e) (sym h.3.2) (IsAmong-append_right h.3.0 h.3.1 e k))
    ]
  ]

  pub added_gains : IsMinimalModel d F → (b : Bool) → OnTrue b IsAdded → OnFalse b (new ≡ old) → (IsWhole texts old → IsWhole texts new) → GainsSome texts d old new
  added_gains min true h same whole = record { kept = kept_by h; only = only_by min h; whole = whole }
  added_gains min false h same whole = record {
    kept = λ e i. subst (λ es. IsAmong es e) (sym same) i;
    only = λ e i. inl (subst (λ es. IsAmong es e) same i);
    whole = whole;
  }
