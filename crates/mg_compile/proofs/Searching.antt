-- What a search adds, behind the unit for the expansion.
use Rattle.std.specs.Prelude.{◌≡◌, ℕ, ◌+◌, ◌<◌, ◌≤◌, List, length, true}
use Rattle.std.proofs.Common.{inl, inr, refl, subst}
use Rattle.gr_text.specs.declared.budget.Budget.{Budget}
use Rattle.td_canon.specs.TreeSets.{Entry}
use Rattle.td_desc.specs.declared.Description.{Description}
use Rattle.td_desc.specs.Descriptions.{description_of}
use Rattle.td_solver.specs.Solutions.{IsModelTotal, GainsSome, GainsAll}
use Rattle.mg_compile.specs.declared.found.Found.{Found}
use Rattle.mg_compile.specs.Taking.{Paid, WasSearched}

module _ (texts : List (List ℕ)) (d : Description) (old now : Found) (b : Budget) (out : List Entry) (p : Paid old now) (some : GainsSome texts (description_of d) now.trees out) where
  gained : GainsSome texts (description_of d) old.trees out
  gained = subst (λ (es : List Entry). GainsSome texts (description_of d) es out) p.trees some

  pub searched_all : GainsAll texts (description_of d) now.trees out
      → ((total : ℕ) → IsModelTotal (description_of d) (length d.nodes) total → now.left.left ≡ b.left + total) → b.left ≤ now.left.left
      → WasSearched texts d old (record { trees = out; left = b; cut = now.cut })
  searched_all all spent falls = record {
    left = now.left.left;
    paid = p.left;
    some = gained;
    search = inl (record { all = subst (λ (es : List Entry). GainsAll texts (description_of d) es out) p.trees all; spent = spent; falls = falls; cut = p.cut });
  }

  pub searched_some : ((total : ℕ) → IsModelTotal (description_of d) (length d.nodes) total → now.left.left < total) → b.left ≡ 0
      → WasSearched texts d old (record { trees = out; left = b; cut = true })
  searched_some more none = record { left = now.left.left; paid = p.left; some = gained; search = inr (record { more = more; none = none; cut = refl }) }
