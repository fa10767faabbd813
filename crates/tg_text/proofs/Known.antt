-- The numbers of classes that were met.
use Rattle.std.specs.Prelude.{◌≡◌, ℕ, Bool, true, false, not, ◌==◌, List, [], ◌∷◌, ◌++◌, if◌then◌else◌, refl}
use Rattle.std.specs.Bool.{OnTrue, OnFalse}
use Rattle.std.specs.List.{list_any}
use Rattle.std.proofs.Common.{sym, ◌∙◌, subst}
use Rattle.std.proofs.lemmas.Bool.{eqb-true, eq-eqb, false≢true, true≢false}
use Rattle.indexmap.specs.IndexSet.{insert_key}
use Rattle.gr_base.specs.Lists.{IsAmong}
use Rattle.gr_base.proofs.ListLemmas.{IsAmong-list_any, list_any-IsAmong}

-- what an insertion says and leaves
pub noted : (ks news : List ℕ) (n : ℕ) (new : Bool) → new ≡ not (list_any (λ b. n == b) ks) → news ≡ insert_key (λ b c. b == c) ks n
    → OnTrue new ((IsAmong ks n → ⊥) × (news ≡ ks ++ n ∷ [])) × OnFalse new (IsAmong ks n)
noted ks news n new e f = by (list_any (λ b. n == b) ks) refl new e f
  where
    by : (b : Bool) → list_any (λ m. n == m) ks ≡ b → (new : Bool) → new ≡ not b → news ≡ (if b then ks else ks ++ n ∷ []) → OnTrue new ((IsAmong ks n → ⊥) × (news ≡ ks ++ n ∷ [])) × OnFalse new (IsAmong ks n)
    by true h true e f = absurd (true≢false e)
    by true h false e f = (tt, let r = IsAmong-list_any (λ m. n == m) ks h in subst (λ m. IsAmong ks m) (sym (eqb-true n r.0 r.2)) r.1)
    by false h true e f = ((λ i. false≢true (sym h ∙ list_any-IsAmong (λ m. n == m) ks n i (eq-eqb n n refl)), f), tt)
    by false h false e f = absurd (false≢true e)
