-- What the search from the empty forest gives.
use Rattle.std.specs.Prelude.{◌≡◌, ℕ, ◌+◌, ◌*◌, ◌-◌, ◌<◌, List, length, refl}
use Rattle.std.proofs.Common.{subst, sym, arith, append-nil}
use Rattle.gr_base.specs.Lists.{IsAmong, NoneTwice}
use Rattle.gr_base.specs.Forests.{empty}
use Rattle.gr_terms.specs.Networks.{Agrees}
use Rattle.gr_terms.specs.Networks as net
use Rattle.gr_terms.specs.Views.{network_of}
use Rattle.gr_terms.specs.declared.Assertion.{Assertion}
use Rattle.gr_store.specs.Contents.{Contents}
use Rattle.td_canon.specs.CanonicalTexts.{text_in}
use Rattle.td_canon.specs.TreeSets.{Entry}
use Rattle.td_desc.specs.declared.Description as code
use Rattle.td_desc.specs.Descriptions.{Description, description_of}
use Rattle.td_colour.specs.Colours.{BlacksFirst}
use Rattle.td_colour.specs.Models.{merged_network, IsForestModel}
use Rattle.td_colour.proofs.Modelling.{model_none}
use Rattle.td_model.specs.Carrying.{Carries}
use Rattle.td_model.specs.Loads.{IsLoaded}
use Rattle.td_model.specs.ModelTrees.{IsNamedDescription}
use Rattle.td_solver.specs.declared.Solved.TheVariants.{All, Cut}
use Rattle.td_solver.specs.Solutions.{IsModelTotal, GainsSome, GainsAll}
use Rattle.td_solver.specs.Turns.{IsSpent, Keeps, HasAllBelow}
use Rattle.td_solver.proofs.Texts.{all_gained, none_gained}
use Rattle.td_solver.proofs.Totals.{below_all, spent_all, spent_cut, no_model, total_none}

-- a store with the description alone keeps the empty forest
pub loaded_keeps : (dd : code.Description) (c : Contents) → IsLoaded dd c → Keeps dd 0 empty c
loaded_keeps dd c l = record {
  slots = l.slots;
  carries = subst (λ (xs : List Assertion). Carries xs (merged_network (description_of dd) empty)) (sym l.accepted) (record {
    all = λ x i. subst (λ (zs : List (net.Assertion ℕ ℕ)). IsAmong zs x) (append-nil (network_of dd.network)) i;
    only = λ x i. subst (λ (zs : List (net.Assertion ℕ ℕ)). IsAmong zs x) (sym (append-nil (network_of dd.network))) i;
  });
  room = let r : c.spare.assertions ≡ 3 * length dd.nodes = l.room in omega arith;
}

pub empty_model : (d : Description ℕ ℕ) → Agrees d.network → IsForestModel d 0 empty
empty_model d agrees = (model_none d empty).1 (refl, agrees)

module _ (dd : code.Description) (texts : List (List ℕ)) (once : NoneTwice texts) (named : IsNamedDescription (length texts) dd) where
  abbrev d : Description ℕ ℕ
  d = description_of dd

  module _ (count : ℕ) (count_is : count ≡ length dd.nodes) (first : BlacksFirst d.nodes) (agrees : Agrees d.network) where
    whole : count - 0 ≡ count
    whole = omega arith

    pub all_of : (old new : List Entry) → GainsSome texts d old new → HasAllBelow (text_in texts) d (count - 0) 0 empty new → GainsAll texts d old new
    all_of old new g h =
        all_gained dd texts once named old new count count_is g (λ F m. below_all d first (empty_model d agrees) count F m)
        (subst (λ k. HasAllBelow (text_in texts) d k 0 empty new) whole h)

    pub spent_of : (before after : ℕ) → IsSpent d (count - 0) 0 empty before after All → (total : ℕ) → IsModelTotal d (length dd.nodes) total → before ≡ after + total
    spent_of before after h total t =
        spent_all d first (empty_model d agrees) count total before after (subst (λ k. IsModelTotal d k total) (sym count_is) t)
        (subst (λ k. IsSpent d k 0 empty before after All) whole h)

    pub cut_of : (before after : ℕ) → IsSpent d (count - 0) 0 empty before after Cut → (total : ℕ) → IsModelTotal d (length dd.nodes) total → before < total
    cut_of before after h total t =
        spent_cut d first (empty_model d agrees) count total before after (subst (λ k. IsModelTotal d k total) (sym count_is) t)
        (subst (λ k. IsSpent d k 0 empty before after Cut) whole h)

    pub none_of : (before after : ℕ) → IsSpent d (count - 0) 0 empty before after Cut → after ≡ 0
    none_of before after h = h.3

-- where the network does not agree
module _ (dd : code.Description) (texts : List (List ℕ)) (bad : Agrees (description_of dd).network → ⊥) where
  pub none_all : (set : List Entry) → GainsAll texts (description_of dd) set set
  none_all set = none_gained dd texts set (no_model (description_of dd) bad)

  pub none_spent : (left : ℕ) (total : ℕ) → IsModelTotal (description_of dd) (length dd.nodes) total → left ≡ left + total
  none_spent left total t = let e : total ≡ 0 = total_none (description_of dd) bad (length dd.nodes) total t in omega arith
