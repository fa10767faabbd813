-- Whether facts clash is decided.
use Rattle.std.specs.Prelude.{◌≡◌, List, ◌⊎◌, refl}
use Rattle.std.proofs.Common.{inl, inr, ap, ◌∙◌, subst}
use Rattle.gr_base.specs.Lists.{IsAmong}
use Rattle.gr_terms.specs.Networks.{Term, name, variable, Agrees}
use Rattle.gr_terms.specs.Canonical.{literal_terms}
use Rattle.td_desc.specs.declared.Colour.{Colour}
use Rattle.td_desc.specs.declared.Colour.TheVariants.{Black, White, Red}
use Rattle.gr_base.specs.Decisions.{IsDecided}
use Rattle.gr_base.proofs.Deciding.{decided_by, decided_both, decided_either, decided_not, decided_some}
use Rattle.gr_terms.proofs.Agreeing.{decided_agrees}
use Rattle.mg_facts.specs.declared.variable.Variable.{Variable}
use Rattle.mg_facts.specs.Said.{Said, block, related, one_node, identified, is_name, coloured, paired, says}
use Rattle.mg_facts.specs.Meanings.{AreIdentified, itself, backwards, onwards, network, standing, IsValueIn, IsNodeVariable, IsValueVariable, HasColour, Clashes, by_names, by_colours, by_value}
use Rattle.mg_count.proofs.Telling.{decided_variable, decided_slot, decided_paint}
use Rattle.mg_count.proofs.Identified.{decided_identified}

-- some colour has P
pub decided_colours : (P : Colour → Type 0) → ((c : Colour) → IsDecided (P c)) → IsDecided ((c : Colour) × P c)
decided_colours P d =
    decided_by (P Black ⊎ (P White ⊎ P Red)) ((c : Colour) × P c)
    (λ h. elim h [ inl b ↦ (Black, b) | inr k ↦ elim k [ inl w ↦ (White, w) | inr r ↦ (Red, r) ] ])
    (λ h. one_of h.0 h.1)
    (decided_either (P Black) (P White ⊎ P Red) (d Black) (decided_either (P White) (P Red) (d White) (d Red)))
  where
    one_of : (c : Colour) → P c → P Black ⊎ (P White ⊎ P Red)
    one_of Black p = inl p
    one_of White p = inr (inl p)
    one_of Red p = inr (inr p)

module _ (all : List Said) where
  -- ---- colours

  -- the fact gives the colour to a variable that is one with x
  abbrev Paints : Variable → Colour → Said → Type 0
  Paints x c s = (y : Variable) × (s ≡ coloured y c) × AreIdentified all x y

  decided_paints : (x : Variable) (c : Colour) (s : Said) → IsDecided (Paints x c s)
  decided_paints x c (block z) = inr (λ h. let e : ◌≡◌ {A = Said} (block z) (coloured h.0 c) = h.1 in cc e)
  decided_paints x c (related z how w) = inr (λ h. let e : ◌≡◌ {A = Said} (related z how w) (coloured h.0 c) = h.1 in cc e)
  decided_paints x c (one_node z w) = inr (λ h. let e : ◌≡◌ {A = Said} (one_node z w) (coloured h.0 c) = h.1 in cc e)
  decided_paints x c (identified z w) = inr (λ h. let e : ◌≡◌ {A = Said} (identified z w) (coloured h.0 c) = h.1 in cc e)
  decided_paints x c (is_name z a) = inr (λ h. let e : ◌≡◌ {A = Said} (is_name z a) (coloured h.0 c) = h.1 in cc e)
  decided_paints x c (coloured z d) =
      decided_by ((d ≡ c) × AreIdentified all x z) (Paints x c (coloured z d))
      (λ p. (z, ap (λ k. coloured z k) p.0, p.1))
      (λ h. let e : ◌≡◌ {A = Said} (coloured z d) (coloured h.0 c) = h.1 in let same : h.0 ≡ z = cc e in (cc e, subst (λ v. AreIdentified all x v) same h.2))
      (decided_both (d ≡ c) (AreIdentified all x z) (decided_paint d c) (decided_identified all x z))
  decided_paints x c (paired s a t) = inr (λ h. let e : ◌≡◌ {A = Said} (paired s a t) (coloured h.0 c) = h.1 in cc e)
  decided_paints x c (says l) = inr (λ h. let e : ◌≡◌ {A = Said} (says l) (coloured h.0 c) = h.1 in cc e)

  pub decided_colour : (x : Variable) (c : Colour) → IsDecided (HasColour all x c)
  decided_colour x c =
      decided_by ((s : Said) × IsAmong all s × Paints x c s) (HasColour all x c)
      (λ h. (h.2.0, subst (λ s. IsAmong all s) h.2.1 h.1, h.2.2)) (λ h. (coloured h.0 c, h.1, (h.0, refl, h.2)))
      (decided_some (Paints x c) all (λ s i. decided_paints x c s))

  abbrev OtherColour : Variable → Colour → Type 0
  OtherColour x c = (d : Colour) × (HasColour all x d × (c ≡ d → ⊥))

  -- the variable of the fact has another colour than it gives
  abbrev PaintsOther : Said → Type 0
  PaintsOther s = (y : Variable) × (c : Colour) × (s ≡ coloured y c) × OtherColour y c

  decided_other : (y : Variable) (c : Colour) → IsDecided (OtherColour y c)
  decided_other y c =
      decided_colours (λ d. HasColour all y d × (c ≡ d → ⊥))
      (λ d. decided_both (HasColour all y d) (c ≡ d → ⊥) (decided_colour y d) (decided_not (c ≡ d) (decided_paint c d)))

  decided_paints_other : (s : Said) → IsDecided (PaintsOther s)
  decided_paints_other (block z) = inr (λ h. let e : ◌≡◌ {A = Said} (block z) (coloured h.0 h.1) = h.2 in cc e)
  decided_paints_other (related z how w) = inr (λ h. let e : ◌≡◌ {A = Said} (related z how w) (coloured h.0 h.1) = h.2 in cc e)
  decided_paints_other (one_node z w) = inr (λ h. let e : ◌≡◌ {A = Said} (one_node z w) (coloured h.0 h.1) = h.2 in cc e)
  decided_paints_other (identified z w) = inr (λ h. let e : ◌≡◌ {A = Said} (identified z w) (coloured h.0 h.1) = h.2 in cc e)
  decided_paints_other (is_name z a) = inr (λ h. let e : ◌≡◌ {A = Said} (is_name z a) (coloured h.0 h.1) = h.2 in cc e)
  decided_paints_other (coloured z b) =
      decided_by (OtherColour z b) (PaintsOther (coloured z b))
      (λ h. (z, b, refl, h))
      (λ h. let e : ◌≡◌ {A = Said} (coloured z b) (coloured h.0 h.1) = h.2 in
      let same : h.0 ≡ z = cc e in let paint : h.1 ≡ b = cc e in
      (h.3.0, (subst (λ v. HasColour all v h.3.0) same h.3.1.0, λ d. h.3.1.1 (paint ∙ d))))
      (decided_other z b)
  decided_paints_other (paired s a t) = inr (λ h. let e : ◌≡◌ {A = Said} (paired s a t) (coloured h.0 h.1) = h.2 in cc e)
  decided_paints_other (says l) = inr (λ h. let e : ◌≡◌ {A = Said} (says l) (coloured h.0 h.1) = h.2 in cc e)

  abbrev HasTwo : Type 0
  HasTwo = (x : Variable) × (c d : Colour) × HasColour all x c × HasColour all x d × (c ≡ d → ⊥)

  decided_two : IsDecided HasTwo
  decided_two =
      decided_by ((s : Said) × IsAmong all s × PaintsOther s) HasTwo
      (λ h. let o = h.2 in (o.0, o.1, o.3.0, (o.0, subst (λ s. IsAmong all s) o.2 h.1, itself o.0), o.3.1.0, o.3.1.1))
      (λ h. let p = h.3 in let q = h.4 in
      (coloured p.0 h.1, p.1, (p.0, h.1, refl, (h.2, ((q.0, q.1, onwards p.0 h.0 q.0 (backwards h.0 p.0 p.2) q.2), h.5)))))
      (decided_some PaintsOther all (λ s i. decided_paints_other s))

  -- ---- values

  abbrev IsOneTerm : Variable → Term Variable → Type 0
  IsOneTerm x t = (y : Variable) × (t ≡ variable y) × AreIdentified all x y

  decided_one_term : (x : Variable) (t : Term Variable) → IsDecided (IsOneTerm x t)
  decided_one_term x (name a) = inr (λ h. let e : ◌≡◌ {A = Term Variable} (name a) (variable h.0) = h.1 in cc e)
  decided_one_term x (variable z) =
      decided_by (AreIdentified all x z) (IsOneTerm x (variable z)) (λ h. (z, refl, h))
      (λ h. let e : ◌≡◌ {A = Term Variable} (variable z) (variable h.0) = h.1 in let same : h.0 ≡ z = cc e in subst (λ v. AreIdentified all x v) same h.2)
      (decided_identified all x z)

  abbrev HasValueIn : Variable → Said → Type 0
  HasValueIn x s = (y : Variable) × IsValueIn s y × AreIdentified all x y

  decided_value_in : (x : Variable) (s : Said) → IsDecided (HasValueIn x s)
  decided_value_in x (block z) = inr (λ h. h.1)
  decided_value_in x (related z how w) = inr (λ h. h.1)
  decided_value_in x (one_node z w) = inr (λ h. h.1)
  decided_value_in x (identified z w) = inr (λ h. h.1)
  decided_value_in x (is_name z a) =
      decided_by (AreIdentified all x z) (HasValueIn x (is_name z a)) (λ h. (z, refl, h)) (λ h. subst (λ v. AreIdentified all x v) h.1 h.2) (decided_identified all x z)
  decided_value_in x (coloured z c) = inr (λ h. h.1)
  decided_value_in x (paired s a t) = decided_one_term x t
  decided_value_in x (says l) =
      decided_by ((t : Term Variable) × IsAmong (literal_terms l) t × IsOneTerm x t) (HasValueIn x (says l))
      (λ h. (h.2.0, subst (λ t. IsAmong (literal_terms l) t) h.2.1 h.1, h.2.2)) (λ h. (variable h.0, h.1, (h.0, refl, h.2)))
      (decided_some (IsOneTerm x) (literal_terms l) (λ t i. decided_one_term x t))

  decided_value : (x : Variable) → IsDecided (IsValueVariable all x)
  decided_value x =
      decided_by ((s : Said) × IsAmong all s × HasValueIn x s) (IsValueVariable all x)
      (λ h. (h.2.0, (h.0, h.1, h.2.1), h.2.2)) (λ h. (h.1.0, h.1.1, (h.0, h.1.2, h.2)))
      (decided_some (HasValueIn x) all (λ s i. decided_value_in x s))

  abbrev IsBoth : Type 0
  IsBoth = (x : Variable) × IsNodeVariable all x × IsValueVariable all x

  decided_node_value : IsDecided IsBoth
  decided_node_value =
      decided_by ((x : Variable) × IsAmong (standing all) x × IsValueVariable all x) IsBoth
      (λ h. (h.0, (h.0, h.1, itself h.0), h.2))
      (λ h. let n = h.1 in let v = h.2 in (n.0, n.1, (v.0, v.1, onwards n.0 h.0 v.0 (backwards h.0 n.0 n.2) v.2)))
      (decided_some (IsValueVariable all) (standing all) (λ x i. decided_value x))

  -- ---- clashes

  abbrev SomeClash : Type 0
  SomeClash = (Agrees (network all) → ⊥) ⊎ (HasTwo ⊎ IsBoth)

  into_clash : SomeClash → Clashes all
  into_clash (inl n) = by_names n
  into_clash (inr (inl h)) = by_colours h.0 h.1 h.2 h.3 h.4 h.5
  into_clash (inr (inr h)) = by_value h.0 h.1 h.2

  from_clash : Clashes all → SomeClash
  from_clash (by_names n) = inl n
  from_clash (by_colours x c d h k n) = inr (inl (x, c, d, h, k, n))
  from_clash (by_value x h k) = inr (inr (x, h, k))

  pub decided_clash : IsDecided (Clashes all)
  decided_clash =
      decided_by SomeClash (Clashes all) into_clash from_clash
      (decided_either (Agrees (network all) → ⊥) (HasTwo ⊎ IsBoth) (decided_not (Agrees (network all)) (decided_agrees decided_variable decided_slot (network all)))
      (decided_either HasTwo IsBoth decided_two decided_node_value))
