-- A list in byte order of its keys, with each key once.
use Rattle.std.specs.Prelude.{◌≡◌, ℕ, List, [], ◌∷◌, map, ◌⊎◌, refl}
use Rattle.std.proofs.Common.{inl, inr, ap, sym, ◌∙◌, subst}
use Rattle.gr_base.specs.Lists.{IsAmong, IsBefore, InByteOrder}
use Rattle.gr_base.proofs.ListLemmas.{Each-at, Each-members, Each-map, Each-map_from}
use Rattle.gr_base.proofs.Counting.{IsBefore-trans}
use Rattle.gr_base.proofs.OrderedPairs.{IsBefore-total}

module _ {A : Type 0} (key : A → List ℕ) where
  -- x was put where its key belongs, or its key was there
  record IsPut (x : A) (xs ys : List A) : Type 0 where
    pub order : InByteOrder (map key ys)
    pub only : (z : A) → IsAmong ys z → (z ≡ x) ⊎ IsAmong xs z
    pub kept : (z : A) → IsAmong xs z → IsAmong ys z
    pub here : (z : A) × IsAmong ys z × (key z ≡ key x)

  put : (x : A) (xs : List A) → InByteOrder (map key xs) → (ys : List A) × IsPut x xs ys
  put x [] o = (x ∷ [], record { order = (tt, tt); only = λ z i. elim i [ inl e ↦ inl e | inr j ↦ inr j ]; kept = λ z i. absurd i; here = (x, inl refl, refl) })
  put x (y ∷ ys) o = by_order (IsBefore-total (key x) (key y)) (put x ys o.1)
    where
      by_order : IsBefore (key x) (key y) ⊎ ((key x ≡ key y) ⊎ IsBefore (key y) (key x)) → ((zs : List A) × IsPut x ys zs) → (zs : List A) × IsPut x (y ∷ ys) zs
      by_order (inl b) r = (
        x ∷ y ∷ ys,
        record {
          order = ((b, Each-members (IsBefore (key x)) (map key ys) (λ k i. IsBefore-trans (key x) (key y) k b (Each-at (IsBefore (key y)) (map key ys) k o.0 i))), o);
          only = λ z i. elim i [ inl e ↦ inl e | inr j ↦ inr j ];
          kept = λ z i. inr i;
          here = (x, inl refl, refl);
        },
      )
      by_order (inr (inl e)) r = (y ∷ ys, record { order = o; only = λ z i. inr i; kept = λ z i. i; here = (y, inl refl, sym e) })
      by_order (inr (inr b)) (zs, p) = (
        y ∷ zs,
        record {
          order = (
            Each-map key (IsBefore (key y)) zs (Each-members (λ z. IsBefore (key y) (key z)) zs (λ z i. elim (p.only z i) [
              | inl e ↦ subst (λ w. IsBefore (key y) (key w)) (sym e) b
              | inr j ↦ Each-at (λ w. IsBefore (key y) (key w)) ys z (Each-map_from key (IsBefore (key y)) ys o.0) j
            ])),
            p.order,
          );
          only = λ z i. elim i [ inl e ↦ inr (inl e) | inr j ↦ elim (p.only z j) [ inl e ↦ inl e | inr k ↦ inr (inr k) ] ];
          kept = λ z i. elim i [ inl e ↦ inl e | inr j ↦ inr (p.kept z j) ];
          here = (p.here.0, inr p.here.1, p.here.2);
        },
      )

  -- of the list, one of each key, in byte order of the keys
  pub record IsSorted (xs ys : List A) : Type 0 where
    pub order : InByteOrder (map key ys)
    pub only : (z : A) → IsAmong ys z → IsAmong xs z
    pub all : (z : A) → IsAmong xs z → (w : A) × IsAmong ys w × (key w ≡ key z)

  pub sorted : (xs : List A) → (ys : List A) × IsSorted xs ys
  sorted [] = ([], record { order = tt; only = λ z i. i; all = λ z i. absurd i })
  sorted (x ∷ xs) =
      let r = sorted xs in
      let p = put x r.0 r.1.order in (
        p.0,
        record {
          order = p.1.order;
          only = λ z i. elim (p.1.only z i) [ inl e ↦ inl e | inr j ↦ inr (r.1.only z j) ];
          all = λ z i. elim i [
            | inl e ↦ (p.1.here.0, p.1.here.1, p.1.here.2 ∙ ap key (sym e))
            | inr j ↦ let w = r.1.all z j in (w.0, p.1.kept w.0 w.1, w.2)
          ];
        },
      )
