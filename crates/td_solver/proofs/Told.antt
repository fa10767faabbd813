-- Tables of parents and of children that relations tell.
use Rattle.std.specs.Prelude.{◌≡◌, ℕ, zero, suc, ◌+◌, ◌<◌, List, [], ◌∷◌, ◌++◌, ◌⊎◌, Option, Some, None, length, slice_get, refl}
use Rattle.std.proofs.Common.{inl, inr, subst, sym, ap, arith, get_or}
use Rattle.gr_base.specs.Lists.{IsAmong}
use Rattle.gr_base.proofs.ListLemmas.{IsAmong-get_or, length-pushed}
use Rattle.td_desc.specs.declared.Dominance.TheVariants.{Parent}
use Rattle.td_desc.specs.declared.Related.{Related}
use Rattle.td_solver.specs.Ties.{HasParent, IsToldParent, IsToldKid, ArePlaced, AreKidsTold, no_relation}

some_same : (x z : Option ℕ) → ◌≡◌ {A = Option (Option ℕ)} (Some x) (Some z) → x ≡ z
some_same x z e = cc

none_some : (z : Option ℕ) → ◌≡◌ {A = Option (Option ℕ)} None (Some z) → ⊥
none_some z e = cc

-- what stands in a list with one more is in the list, or is that one
at_end : (xs : List (Option ℕ)) (x z : Option ℕ) (y : ℕ) → slice_get (xs ++ x ∷ []) y ≡ Some z → (slice_get xs y ≡ Some z) ⊎ ((y ≡ length xs) × (x ≡ z))
at_end [] x z zero e = inr (refl, some_same x z e)
at_end [] x z (suc y) e = absurd (none_some z e)
at_end (w ∷ xs) x z zero e = inl e
at_end (w ∷ xs) x z (suc y) e = elim (at_end xs x z y e) [ inl a ↦ inl a | inr b ↦ inr (ap (λ k. suc k) b.0, b.1) ]

pushed : (P : ℕ → Option ℕ → Type 0) (xs : List (Option ℕ)) (x : Option ℕ) → ((y : ℕ) (o : Option ℕ) → slice_get xs y ≡ Some o → P y o) → P (length xs) x
    → (y : ℕ) (o : Option ℕ) → slice_get (xs ++ x ∷ []) y ≡ Some o → P y o
pushed P xs x all one y o e = elim (at_end xs x o y e) [
  | inl a ↦ all y o a
  | inr b ↦ subst (λ k. P k o) (sym b.0) (subst (λ p. P (length xs) p) b.1 one)
]

module _ (rs : List Related) where
  pub parents_none : ArePlaced rs 0 []
  parents_none = record { long = refl; told = λ y o e. absurd (none_some o e) }

  pub parents_more : (k : ℕ) (ps new : List (Option ℕ)) (o : Option ℕ) → ArePlaced rs k ps → IsToldParent rs k o → new ≡ ps ++ o ∷ [] → ArePlaced rs (k + 1) new
  parents_more k ps new o h one e =
      let l : length ps ≡ k = h.long in
      let n : length new ≡ length ps + 1 = length-pushed o e refl in
      record {
        long = omega arith;
        told = λ y p f. pushed (λ z q. IsToldParent rs z q) ps o h.told (subst (λ z. IsToldParent rs z o) (sym l) one) y p (subst (λ xs. slice_get xs y ≡ Some p) e f);
      }

  pub kids_none : AreKidsTold rs 0 []
  kids_none = record { long = refl; told = λ y o e. absurd (none_some o e) }

  pub kids_more : (k : ℕ) (ps new : List (Option ℕ)) (o : Option ℕ) → AreKidsTold rs k ps → IsToldKid rs k o → new ≡ ps ++ o ∷ [] → AreKidsTold rs (k + 1) new
  kids_more k ps new o h one e =
      let l : length ps ≡ k = h.long in
      let n : length new ≡ length ps + 1 = length-pushed o e refl in
      record {
        long = omega arith;
        told = λ y p f. pushed (λ z q. IsToldKid rs z q) ps o h.told (subst (λ z. IsToldKid rs z o) (sym l) one) y p (subst (λ xs. slice_get xs y ≡ Some p) e f);
      }

  -- the relation at a place says so
  pub told_at : (i x y : ℕ) → i < length rs → get_or rs i no_relation ≡ record { from = x; how = Parent; to = y } → HasParent rs x y
  told_at i x y lt e = subst (λ r. IsAmong rs r) e (IsAmong-get_or rs i no_relation lt)
