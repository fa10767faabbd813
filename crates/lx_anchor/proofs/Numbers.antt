-- The variables of a tree and of an entry as numbers of a store: the entry's behind those of the tree.
use Rattle.std.specs.Prelude.{◌≡◌, ℕ, ◌+◌, ◌-◌, ◌<◌, ◌≤◌, ◌⊎◌, refl}
use Rattle.std.proofs.Common.{inl, inr, ap, arith}
use Rattle.std.proofs.lemmas.Bool.{cases_lt}
use Rattle.gr_terms.specs.Networks.{Term, name, variable, put_term}
use Rattle.gr_terms.specs.Views.{term_of}
use Rattle.gr_terms.specs.declared.Term as code
use Rattle.gr_terms.specs.declared.Term.TheVariants.{Const, Var}
use Rattle.gr_store.specs.Contents.{IsMade}
use Rattle.gr_feats.specs.Loading.{counted_from}
use Rattle.lx_anchor.specs.Networks.{Variable, of_tree, of_entry, tree_term, entry_term}

module _ (first : ℕ) where
  -- the number of a variable, and the variable of a number
  abbrev pub number : Variable → ℕ
  number (of_tree v) = v
  number (of_entry w) = first + w

  abbrev owner_by : (n : ℕ) → (n < first) ⊎ (first ≤ n) → Variable
  owner_by n (inl h) = of_tree n
  owner_by n (inr h) = of_entry (n - first)

  abbrev pub owner : ℕ → Variable
  owner n = owner_by n (cases_lt n first)

  abbrev pub in_store : Term Variable → Term ℕ
  in_store x = put_term (λ v. variable (number v)) x

  abbrev pub from_store : Term ℕ → Term Variable
  from_store x = put_term (λ n. variable (owner n)) x

  -- a term of the tree keeps its numbers, and one of the entry is counted from the first one
  pub in_store-tree : (z : Term ℕ) → in_store (tree_term z) ≡ z
  in_store-tree (name a) = refl
  in_store-tree (variable v) = refl

  pub in_store-entry : (y : code.Term) → in_store (entry_term (term_of y)) ≡ term_of (counted_from first y)
  in_store-entry (Const p) = refl
  in_store-entry (Var w) = refl

  owner-low : (n : ℕ) → n < first → (h : (n < first) ⊎ (first ≤ n)) → owner_by n h ≡ of_tree n
  owner-low n low (inl h) = refl
  owner-low n low (inr h) = absurd (omega arith)

  owner-high : (w : ℕ) (h : (first + w < first) ⊎ (first ≤ first + w)) → owner_by (first + w) h ≡ of_entry w
  owner-high w (inl h) = absurd (omega arith)
  owner-high w (inr h) = ap of_entry (omega arith)

  -- and what comes from there is the same
  pub from_store-tree : (z : code.Term) → IsMade first z → from_store (term_of z) ≡ tree_term (term_of z)
  from_store-tree (Const p) h = refl
  from_store-tree (Var v) h = ap variable (owner-low v (omega arith) (cases_lt v first))

  pub from_store-entry : (y : code.Term) → from_store (term_of (counted_from first y)) ≡ entry_term (term_of y)
  from_store-entry (Const p) = refl
  from_store-entry (Var w) = ap variable (owner-high w (cases_lt (first + w) first))
