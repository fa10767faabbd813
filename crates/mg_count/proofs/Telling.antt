-- Variables, slots and colours can be told apart.
use Rattle.std.specs.Prelude.{◌≡◌, ℕ, refl}
use Rattle.std.proofs.Common.{inl, inr, ap, ap₂}
use Rattle.td_desc.specs.declared.Colour.{Colour}
use Rattle.td_desc.specs.declared.Colour.TheVariants.{Black, White, Red}
use Rattle.gr_base.specs.Decisions.{AreToldApart}
use Rattle.gr_base.proofs.Deciding.{decided_by, decided_both, decided_number}
use Rattle.mg_facts.specs.declared.variable.Variable.{Variable}
use Rattle.mg_facts.specs.declared.variable.Local.{Local}
use Rattle.mg_facts.specs.declared.variable.Local.TheVariants as local
use Rattle.mg_facts.specs.Said.{Slot, own_of, top_of, bottom_of, the_interface}

pub decided_local : AreToldApart Local
decided_local (local.Name a) (local.Name b) = decided_by (a ≡ b) (◌≡◌ {A = Local} (local.Name a) (local.Name b)) (λ e. ap (λ n. local.Name n) e) (λ e. cc e) (decided_number a b)
decided_local (local.Name a) (local.Dotted b c) = inr (λ e. cc e)
decided_local (local.Name a) local.Own = inr (λ e. cc e)
decided_local (local.Dotted a b) (local.Name c) = inr (λ e. cc e)
decided_local (local.Dotted a b) (local.Dotted c d) =
    decided_by ((a ≡ c) × (b ≡ d)) (◌≡◌ {A = Local} (local.Dotted a b) (local.Dotted c d)) (λ p. ap₂ (λ m n. local.Dotted m n) p.0 p.1) (λ e. (cc e, cc e))
    (decided_both (a ≡ c) (b ≡ d) (decided_number a c) (decided_number b d))
decided_local (local.Dotted a b) local.Own = inr (λ e. cc e)
decided_local local.Own (local.Name a) = inr (λ e. cc e)
decided_local local.Own (local.Dotted a b) = inr (λ e. cc e)
decided_local local.Own local.Own = inl refl

abbrev variable_at : ℕ → Local → Variable
variable_at n l = record { at = n; local = l }

pub decided_variable : AreToldApart Variable
decided_variable x y =
    decided_by ((x.at ≡ y.at) × (x.local ≡ y.local)) (x ≡ y) (λ p. ap₂ variable_at p.0 p.1) (λ e. (ap (λ (v : Variable). v.at) e, ap (λ (v : Variable). v.local) e))
    (decided_both (x.at ≡ y.at) (x.local ≡ y.local) (decided_number x.at y.at) (decided_local x.local y.local))

pub decided_slot : AreToldApart Slot
decided_slot (own_of x) (own_of y) = decided_by (x ≡ y) (own_of x ≡ own_of y) (λ e. ap own_of e) (λ e. cc e) (decided_variable x y)
decided_slot (own_of x) (top_of y) = inr (λ e. cc e)
decided_slot (own_of x) (bottom_of y) = inr (λ e. cc e)
decided_slot (own_of x) the_interface = inr (λ e. cc e)
decided_slot (top_of x) (own_of y) = inr (λ e. cc e)
decided_slot (top_of x) (top_of y) = decided_by (x ≡ y) (top_of x ≡ top_of y) (λ e. ap top_of e) (λ e. cc e) (decided_variable x y)
decided_slot (top_of x) (bottom_of y) = inr (λ e. cc e)
decided_slot (top_of x) the_interface = inr (λ e. cc e)
decided_slot (bottom_of x) (own_of y) = inr (λ e. cc e)
decided_slot (bottom_of x) (top_of y) = inr (λ e. cc e)
decided_slot (bottom_of x) (bottom_of y) = decided_by (x ≡ y) (bottom_of x ≡ bottom_of y) (λ e. ap bottom_of e) (λ e. cc e) (decided_variable x y)
decided_slot (bottom_of x) the_interface = inr (λ e. cc e)
decided_slot the_interface (own_of y) = inr (λ e. cc e)
decided_slot the_interface (top_of y) = inr (λ e. cc e)
decided_slot the_interface (bottom_of y) = inr (λ e. cc e)
decided_slot the_interface the_interface = inl refl

pub decided_paint : AreToldApart Colour
decided_paint Black Black = inl refl
decided_paint Black White = inr (λ e. cc e)
decided_paint Black Red = inr (λ e. cc e)
decided_paint White Black = inr (λ e. cc e)
decided_paint White White = inl refl
decided_paint White Red = inr (λ e. cc e)
decided_paint Red Black = inr (λ e. cc e)
decided_paint Red White = inr (λ e. cc e)
decided_paint Red Red = inl refl
