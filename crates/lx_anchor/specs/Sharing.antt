-- The equations of a tree and an entry: of the values of each attribute that two linked bags both have.
use Rattle.std.specs.Prelude.{◌≡◌, ℕ, ◌+◌, ◌≤◌, List, [], ◌++◌, ◌⊎◌, length, map, slice_get, Some}
use Rattle.gr_base.specs.Lists.{IsAmong, Each}
use Rattle.gr_terms.specs.declared.Assertion.{Assertion}
use Rattle.gr_terms.specs.declared.Assertion.TheVariants.{Equate}
use Rattle.gr_terms.specs.declared.Sym.{Sym}
use Rattle.gr_terms.specs.declared.Term.{Term}
use Rattle.gr_terms.specs.Networks.{Agrees}
use Rattle.gr_terms.specs.Views.{network_of}
use Rattle.gr_store.specs.Contents.{Contents}
use Rattle.gr_feats.specs.Loading.{counted_from}
use Rattle.td_tree.specs.Trees.{BagPairs}
use Rattle.td_tree.specs.declared.Tree.{Tree}
use Rattle.td_tree.specs.declared.TreeNode.{TreeNode}
use Rattle.lx_lexicon.specs.declared.entry.Entry.{Entry}
use Rattle.lx_anchor.specs.Counts.{IsEntryBelow, IsTreeBelow}

-- the pairs with their variables counted from the first one
abbrev pub counted_pairs : ℕ → BagPairs → BagPairs
counted_pairs first pairs = map (λ p. (p.0, counted_from first p.1)) pairs

-- an equation of the values of an attribute that both lists have
pub record IsShared (bag added : BagPairs) (e : Assertion) : Type 0 where
  pub attr : Sym
  pub x : Term
  pub y : Term
  pub in_bag : IsAmong bag (attr, x)
  pub in_added : IsAmong added (attr, y)
  pub is : e ≡ Equate x y

-- the equations have these of all attributes
abbrev pub HasShared : BagPairs → BagPairs → List Assertion → Type 0
HasShared bag added equations = (attr : Sym) (x y : Term) → IsAmong bag (attr, x) → IsAmong added (attr, y) → IsAmong equations (Equate x y)

-- the store went on from the old one by such equations, and by no more than so many
pub record IsSharing (bag added : BagPairs) (count : ℕ) (old new : Contents) : Type 0 where
  pub equations : List Assertion
  pub accepted : new.accepted ≡ old.accepted ++ equations
  pub only : Each (IsShared bag added) equations
  pub all : HasShared bag added equations
  pub few : old.spare.assertions ≤ new.spare.assertions + count

-- such equations with which the store's assertions don't agree
pub record IsClashing (bag added : BagPairs) (old : Contents) : Type 0 where
  pub equations : List Assertion
  pub only : Each (IsShared bag added) equations
  pub clash : Agrees (network_of (old.accepted ++ equations)) → ⊥

-- an equation of the interfaces, or of the bottom of node number `anchor` and the entry's features of the anchor
abbrev pub IsEquation : Tree → Entry → ℕ → ℕ → Assertion → Type 0
IsEquation t e first anchor a =
    IsShared t.iface (counted_pairs first e.iface) a ⊎ ((x : TreeNode) × (slice_get t.nodes anchor ≡ Some x) × IsShared x.bot (counted_pairs first e.anchor) a)

-- just these equations
pub record AreEquations (t : Tree) (e : Entry) (first anchor : ℕ) (equations : List Assertion) : Type 0 where
  pub only : Each (IsEquation t e first anchor) equations
  pub interface : HasShared t.iface (counted_pairs first e.iface) equations
  pub bottom : (x : TreeNode) → slice_get t.nodes anchor ≡ Some x → HasShared x.bot (counted_pairs first e.anchor) equations

-- some of these equations don't agree
pub record HasClash (t : Tree) (e : Entry) (first anchor : ℕ) : Type 0 where
  pub equations : List Assertion
  pub only : Each (IsEquation t e first anchor) equations
  pub clash : Agrees (network_of equations) → ⊥

-- the store is empty, the first variables and then those of the entry are made, and there is room for the entry's equations
pub record CanServe (e : Entry) (first : ℕ) (c : Contents) : Type 0 where
  pub count : ℕ
  pub made : first + count ≤ c.vars
  pub entry : IsEntryBelow count e
  pub equations : length e.iface + length e.anchor ≤ c.spare.assertions
  pub none : c.accepted ≡ []

-- the store serves each of the entries
abbrev pub CanServeAll : List Entry → ℕ → Contents → Type 0
CanServeAll es first c = Each (λ e. CanServe e first c) es

-- and the variables of the tree are among the first ones
pub record HasRoom (t : Tree) (e : Entry) (first : ℕ) (c : Contents) : Type 0 where
  pub serves : CanServe e first c
  pub tree : IsTreeBelow first t
