-- Which variables are one is decided: they are those that a network of equations links.
use Rattle.std.specs.Prelude.{◌≡◌, ℕ, List, [], ◌∷◌, ◌⊎◌, refl}
use Rattle.std.proofs.Common.{inl, inr, sym, ◌∙◌, subst}
use Rattle.gr_base.specs.Lists.{IsAmong, gathered}
use Rattle.gr_terms.specs.Networks.{Term, name, variable, Assertion, entry, equate, AreLinked, equated, shared, same, back, next}
use Rattle.gr_base.specs.Decisions.{IsDecided}
use Rattle.gr_base.proofs.Deciding.{decided_by}
use Rattle.gr_terms.proofs.Agreeing.{decided_linked}
use Rattle.mg_facts.specs.declared.variable.Variable.{Variable}
use Rattle.mg_facts.specs.Said.{Slot, Said, block, related, one_node, identified, is_name, coloured, paired, says}
use Rattle.mg_facts.specs.Meanings.{IsSaidOne, AreIdentified, said_one, itself, backwards, onwards}
use Rattle.gr_base.proofs.ListLemmas.{IsAmong-gathered, IsAmong-gathered_from}
use Rattle.mg_count.proofs.Telling.{decided_variable, decided_slot}

abbrev Says : Type 0
Says = Assertion Variable Slot

abbrev join_of : Said → List Says
join_of (block x) = []
join_of (related x how y) = []
join_of (one_node x y) = equate (variable x) (variable y) ∷ []
join_of (identified x y) = equate (variable x) (variable y) ∷ []
join_of (is_name x a) = []
join_of (coloured x c) = []
join_of (paired s a t) = []
join_of (says l) = []

-- terms that the equations link: variables that are one, or a name with itself
abbrev AreSame : List Said → Term Variable → Term Variable → Type 0
AreSame all (name a) (name b) = a ≡ b
AreSame all (name a) (variable y) = ⊥
AreSame all (variable x) (name b) = ⊥
AreSame all (variable x) (variable y) = AreIdentified all x y

module _ (all : List Said) where
  abbrev equations : List Says
  equations = gathered join_of all

  join_among : (s : Said) (x y : Variable) → IsAmong all s → (s ≡ identified x y) ⊎ (s ≡ one_node x y) → IsAmong equations (equate (variable x) (variable y))
  join_among s x y i (inl e) = IsAmong-gathered join_of all (identified x y) (equate (variable x) (variable y)) (subst (λ z. IsAmong all z) e i) (inl refl)
  join_among s x y i (inr e) = IsAmong-gathered join_of all (one_node x y) (equate (variable x) (variable y)) (subst (λ z. IsAmong all z) e i) (inl refl)

  said_linked : (x y : Variable) → IsSaidOne all x y → AreLinked equations (variable x) (variable y)
  said_linked x y (inl i) = equated (variable x) (variable y) (join_among (identified x y) x y i (inl refl))
  said_linked x y (inr i) = equated (variable x) (variable y) (join_among (one_node x y) x y i (inr refl))

  to_linked : (x y : Variable) → AreIdentified all x y → AreLinked equations (variable x) (variable y)
  to_linked _ _ (said_one x y h) = said_linked x y h
  to_linked _ _ (itself x) = same (variable x)
  to_linked _ _ (backwards x y h) = back (variable x) (variable y) (to_linked x y h)
  to_linked _ _ (onwards x y z h k) = next (variable x) (variable y) (variable z) (to_linked x y h) (to_linked y z k)

  same_itself : (t : Term Variable) → AreSame all t t
  same_itself (name a) = refl
  same_itself (variable x) = itself x

  same_back : (t u : Term Variable) → AreSame all t u → AreSame all u t
  same_back (name a) (name b) h = sym h
  same_back (name a) (variable y) h = h
  same_back (variable x) (name b) h = h
  same_back (variable x) (variable y) h = backwards x y h

  same_next : (t u v : Term Variable) → AreSame all t u → AreSame all u v → AreSame all t v
  same_next (name a) (name b) (name c) h k = h ∙ k
  same_next (name a) (name b) (variable z) h k = k
  same_next (name a) (variable y) v h k = absurd h
  same_next (variable x) (name b) v h k = absurd h
  same_next (variable x) (variable y) (name c) h k = k
  same_next (variable x) (variable y) (variable z) h k = onwards x y z h k

  from_equation : (x y : Variable) (t u : Term Variable) → ◌≡◌ {A = Says} (equate t u) (equate (variable x) (variable y)) → IsSaidOne all x y → AreSame all t u
  from_equation x y t u e h =
      let p : t ≡ variable x = cc e in
      let q : u ≡ variable y = cc e in
      subst (λ z. AreSame all z u) (sym p) (subst (λ z. AreSame all (variable x) z) (sym q) (said_one x y h))

  -- an equation that stands is of two variables that are said to be one
  same_equation : (s : Said) (t u : Term Variable) → IsAmong all s → IsAmong (join_of s) (equate t u) → AreSame all t u
  same_equation (block x) t u i j = absurd j
  same_equation (related x how y) t u i j = absurd j
  same_equation (one_node x y) t u i (inl e) = from_equation x y t u e (inr i)
  same_equation (one_node x y) t u i (inr j) = absurd j
  same_equation (identified x y) t u i (inl e) = from_equation x y t u e (inl i)
  same_equation (identified x y) t u i (inr j) = absurd j
  same_equation (is_name x a) t u i j = absurd j
  same_equation (coloured x c) t u i j = absurd j
  same_equation (paired s a v) t u i j = absurd j
  same_equation (says l) t u i j = absurd j

  no_entry : (s : Said) (p : Slot) (a : ℕ) (t : Term Variable) → IsAmong (join_of s) (entry p a t) → ⊥
  no_entry (block x) p a t j = j
  no_entry (related x how y) p a t j = j
  no_entry (one_node x y) p a t (inl e) = let d : ◌≡◌ {A = Says} (entry p a t) (equate (variable x) (variable y)) = e in cc d
  no_entry (one_node x y) p a t (inr j) = j
  no_entry (identified x y) p a t (inl e) = let d : ◌≡◌ {A = Says} (entry p a t) (equate (variable x) (variable y)) = e in cc d
  no_entry (identified x y) p a t (inr j) = j
  no_entry (is_name x b) p a t j = j
  no_entry (coloured x c) p a t j = j
  no_entry (paired s b v) p a t j = j
  no_entry (says l) p a t j = j

  from_linked : (t u : Term Variable) → AreLinked equations t u → AreSame all t u
  from_linked _ _ (equated t u i) = let r = IsAmong-gathered_from join_of all (equate t u) i in same_equation r.0 t u r.1 r.2
  from_linked _ _ (shared s p a t u l i j) = let r = IsAmong-gathered_from join_of all (entry s a t) i in absurd (no_entry r.0 s a t r.2)
  from_linked _ _ (same t) = same_itself t
  from_linked _ _ (back t u h) = same_back t u (from_linked t u h)
  from_linked _ _ (next t u v h k) = same_next t u v (from_linked t u h) (from_linked u v k)

  pub decided_identified : (x y : Variable) → IsDecided (AreIdentified all x y)
  decided_identified x y =
      decided_by (AreLinked equations (variable x) (variable y)) (AreIdentified all x y) (from_linked (variable x) (variable y)) (to_linked x y)
      (decided_linked decided_variable decided_slot equations (variable x) (variable y))
