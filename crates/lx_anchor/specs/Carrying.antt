-- Assertions over a tree and an entry, and over strangers beside them, as they stand over the lexical tree.
use Rattle.std.specs.Prelude.{◌≡◌, ℕ, List, ◌⊎◌, ⊤}
use Rattle.std.proofs.Common.{inl, inr}
use Rattle.gr_terms.specs.Canonical.{Decorated, IsMet}
use Rattle.gr_terms.specs.Networks.{Term, Assertion, name, variable, entry, equate, link, put_network, put_term}
use Rattle.td_tree.specs.TreeNetworks.{TreeSlot, at_node, at_interface, bottom_part}
use Rattle.lx_anchor.specs.Networks.{Variable, Slot, in_tree, entry_interface, entry_anchor}

-- the slot of the tree that a slot is linked with, where the anchor is node number n
abbrev pub slot_in_tree : ℕ → Slot → TreeSlot
slot_in_tree n (in_tree s) = s
slot_in_tree n entry_interface = at_interface
slot_in_tree n entry_anchor = at_node n bottom_part

module _ (N : List (Assertion Variable Slot)) (u : Decorated Slot (Term Variable)) where
  -- a name, or a term that is met
  abbrev pub IsKnown : Term Variable → Type 0
  IsKnown x = IsMet N u x ⊎ ((a : ℕ) × (x ≡ name a))

  -- the assertion has such terms alone
  abbrev pub IsOfKnown : Assertion Variable Slot → Type 0
  IsOfKnown (entry s a x) = IsKnown x
  IsOfKnown (equate x y) = IsKnown x × IsKnown y
  IsOfKnown (link s r) = ⊤

  -- a name, a stranger, or a variable of the tree or the entry that is met
  abbrev pub IsKnownBeside : {W : Type 0} → Term (Variable ⊎ W) → Type 0
  IsKnownBeside (name a) = ⊤
  IsKnownBeside (variable (inl v)) = IsMet N u (variable v)
  IsKnownBeside (variable (inr w)) = ⊤

  -- the assertion has such terms alone
  abbrev pub IsOfKnownBeside : {W R : Type 0} → Assertion (Variable ⊎ W) (Slot ⊎ R) → Type 0
  IsOfKnownBeside (entry s a x) = IsKnownBeside x
  IsOfKnownBeside (equate x y) = IsKnownBeside x × IsKnownBeside y
  IsOfKnownBeside (link s r) = ⊤

-- the assertions over the lexical tree: each variable as it is written, and each slot of the tree and the entry as that of the tree
abbrev pub carried : ℕ → (Term Variable → Term ℕ) → List (Assertion Variable Slot) → List (Assertion ℕ TreeSlot)
carried n written list = put_network (λ v. written (variable v)) (slot_in_tree n) list

-- a network whose variables and slots stand beside strangers
abbrev pub beside : {V S : Type 0} → (W R : Type 0) → List (Assertion V S) → List (Assertion (V ⊎ W) (S ⊎ R))
beside W R list = put_network (λ v. variable (inl v)) inl list

-- what stands for a variable, and itself for a stranger
abbrev pub term_beside : {V U W : Type 0} → (V → Term U) → V ⊎ W → Term (U ⊎ W)
term_beside f (inl v) = put_term (λ u. variable (inl u)) (f v)
term_beside f (inr w) = variable (inr w)

-- the slot of the tree, and itself for a stranger
abbrev pub slot_beside : {R : Type 0} → ℕ → Slot ⊎ R → TreeSlot ⊎ R
slot_beside n (inl s) = inl (slot_in_tree n s)
slot_beside n (inr r) = inr r

-- the assertions over the lexical tree, where variables and slots of the tree and the entry are carried, and strangers stay
abbrev pub carried_beside : {W R : Type 0} → ℕ → (Term Variable → Term ℕ) → List (Assertion (Variable ⊎ W) (Slot ⊎ R)) → List (Assertion (ℕ ⊎ W) (TreeSlot ⊎ R))
carried_beside n written list = put_network (term_beside (λ v. written (variable v))) (slot_beside n) list
