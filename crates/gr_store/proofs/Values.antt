-- What the first value of a slot is.
use Rattle.std.proofs.Common.{ℕ, List, ◌∷◌, inl, refl, sym, subst}
use Rattle.gr_base.specs.Lists.{IsAmong}
use Rattle.gr_base.proofs.ListLemmas.{IsAmong-append_right}
use Rattle.gr_terms.specs.Networks.{Term, Assertion, entry, HasValue}
use Rattle.gr_store.specs.Contents.{IsFirstValue}

-- the first value is a value
pub HasValue-first : {V S : Type 0} (N : List (Assertion V S)) (s : S) (a : ℕ) (x : Term V) → IsFirstValue N s a x → HasValue N s a x
HasValue-first N s a x f =
    (f.from, f.is_linked, subst (λ M. IsAmong M (entry f.from a x)) (sym f.parts) (IsAmong-append_right f.before (entry f.from a x ∷ f.after) (entry f.from a x) (inl refl)))
