-- The order of two numbers, and one less than the next.
use Rattle.std.specs.Prelude.{◌≡◌, ℕ, suc, ◌-◌, ◌<◌, ◌⊎◌, refl}
use Rattle.std.proofs.Common.{inl, inr, arith}
use Rattle.std.proofs.lemmas.Bool.{cases_lt, cases_order}

-- less, the same, or more
pub less_same_more : (m n : ℕ) → (m < n) ⊎ ((m ≡ n) ⊎ (n < m))
less_same_more m n = elim (cases_order m n) [ inl e ↦ inr (inl e) | inr (inl l) ↦ inl l | inr (inr l) ↦ inr (inr l) ]

-- before a number, or that number
pub before_or_at : (m n : ℕ) → m < suc n → (m < n) ⊎ (m ≡ n)
before_or_at m n h = elim (cases_lt m n) [ inl l ↦ inl l | inr l ↦ inr (omega arith) ]

pub one_less : (n : ℕ) → suc n - 1 ≡ n
one_less n = omega arith
