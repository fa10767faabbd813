-- Tests that decide a fact, and equations of their words.
use Rattle.std.specs.Prelude.{◌≡◌, Bool, true, false, not, ◌||◌, ◌&&◌, IsTrue, ◌↔◌, refl}
use Rattle.std.proofs.Common.{sym, ◌∙◌}
use Rattle.std.proofs.lemmas.Bool.{false≢true}

-- a test that is true says what holds, one that is false what does not
pub iff_true : {P : Type 0} → P → IsTrue true ↔ P
iff_true p = (λ h. p, λ h. refl)

pub iff_false : {P : Type 0} → (P → ⊥) → IsTrue false ↔ P
iff_false none = (λ h. absurd (false≢true h), λ p. absurd (none p))

-- two tests together say both facts
pub iff_both : (b c : Bool) (P Q : Type 0) → IsTrue b ↔ P → IsTrue c ↔ Q → IsTrue (b && c) ↔ (P × Q)
iff_both true c P Q p q = (λ h. (p.0 refl, q.0 h), λ h. q.1 h.1)
iff_both false c P Q p q = (λ h. absurd (false≢true h), λ h. absurd (false≢true (p.1 h.0)))

-- a test that says a fact says each one that means the same
pub iff_through : (P Q R : Type 0) → P ↔ Q → (Q → R) → (R → Q) → P ↔ R
iff_through P Q R p there back = (λ h. there (p.0 h), λ r. p.1 (back r))

pub or_false : (b : Bool) → (b || false) ≡ b
or_false true = refl
or_false false = refl

pub or_false_is : {v : Bool} (b : Bool) → (b || false) ≡ v → b ≡ v
or_false_is b h = sym (or_false b) ∙ h

pub or_true : (b : Bool) → (b || true) ≡ true
or_true true = refl
or_true false = refl

pub not_not : (b : Bool) → not (not b) ≡ b
not_not true = refl
not_not false = refl
