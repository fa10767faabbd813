-- What one pass over the nodes of a tree notes: each node with whether it has children, what is wrong with it by itself, and how many
-- anchors and feet there are.
use Rattle.std.specs.Prelude.{◌≡◌, ◌≢◌, ℕ, suc, ◌<◌, List, [], ◌∷◌, length, map, Option, Some, None, Bool, false, IsTrue, IsFalse, nat_lt, if◌then◌else◌, option_map, MatchOption, ◌⊎◌}
use Rattle.gr_base.specs.Lists.{IsAmong}
use Rattle.gr_terms.specs.Constants.{ANCHOR, SUBST, FOOT}
use Rattle.gr_terms.specs.Canonical.{Node}
use Rattle.gr_terms.specs.declared.Sym.{Sym}
use Rattle.td_tree.specs.Trees.{is_parent}
use Rattle.td_tree.specs.TreeViews.{Pairs}
use Rattle.td_tree.specs.declared.TreeNode.{TreeNode}
use Rattle.tg_grammar.specs.declared.flaw.Flaw.{Flaw}
use Rattle.tg_grammar.specs.declared.flaw.Flaw.TheVariants as flaw
use Rattle.tg_grammar.specs.declared.survey.Survey.{Survey}
use Rattle.tg_grammar.specs.Marks.{category_name, is_marked, has_leaf_mark, marked, lists_at}
use Rattle.tg_grammar.specs.Shapes.{AreOneName, LacksWord, IsLowest, code_of}

-- a node by its lists, and whether it has children
abbrev pub Sight : Type 0
Sight = Bool × Node Pairs

abbrev pub lists_seen : List Sight → List (Node Pairs)
lists_seen seen = map (λ s. s.1) seen

-- the first of the nodes, if there is one, stands under node number n
abbrev pub begins_under : ℕ → List TreeNode → Bool
begins_under n [] = false
begins_under n (x ∷ xs) = is_parent x.parent n

-- the nodes of a tree in preorder, numbered from n on: a node has children where the next one stands under it
abbrev pub sights : ℕ → List TreeNode → List Sight
sights n [] = []
sights n (x ∷ xs) = (begins_under n xs, lists_at x) ∷ sights (suc n) xs

abbrev pub number_of : Option Sym → Option ℕ
number_of o = option_map (λ s. s.0) o

-- this is wrong with a node by itself, in a tree whose root has this category
abbrev pub HasNodeFlaw : Option ℕ → Sight → Flaw → Type 0
HasNodeFlaw root s flaw.RootCategory = ⊥
HasNodeFlaw root s flaw.SubstCategory = IsTrue (is_marked SUBST s.1) × (category_name s.1 ≡ None)
HasNodeFlaw root s flaw.FootCategory = IsTrue (is_marked FOOT s.1) × (AreOneName root (category_name s.1) → ⊥)
HasNodeFlaw root s flaw.AnchorCount = ⊥
HasNodeFlaw root s flaw.FootCount = ⊥
HasNodeFlaw root s flaw.MarkOnInner = IsTrue s.0 × IsTrue (has_leaf_mark s.1)
HasNodeFlaw root s flaw.NoWord = IsFalse s.0 × LacksWord s.1

-- this is wrong with one of the nodes by itself
abbrev pub HasSomeNodeFlaw : Option ℕ → List Sight → Flaw → Type 0
HasSomeNodeFlaw root seen w = (s : Sight) × IsAmong seen s × HasNodeFlaw root s w

-- the lowest of what is wrong, if anything is
abbrev pub HasLowest : (Flaw → Type 0) → Option Flaw → Type 0
HasLowest P o = MatchOption o ((w : Flaw) → P w → ⊥) (IsLowest P)

-- what was noted of these nodes
pub record IsSurvey (seen : List Sight) (s : Survey) : Type 0 where
  pub lowest : HasLowest (HasSomeNodeFlaw (number_of s.root) seen) s.lowest
  pub anchors : s.anchors ≡ length (marked ANCHOR (lists_seen seen))
  pub feet : s.feet ≡ length (marked FOOT (lists_seen seen))

-- this is wrong with the root's category, or with the numbers of anchors and feet
abbrev pub HasRootFlaw : Option ℕ → Flaw → Type 0
HasRootFlaw root flaw.RootCategory = root ≡ None
HasRootFlaw root flaw.SubstCategory = ⊥
HasRootFlaw root flaw.FootCategory = ⊥
HasRootFlaw root flaw.AnchorCount = ⊥
HasRootFlaw root flaw.FootCount = ⊥
HasRootFlaw root flaw.MarkOnInner = ⊥
HasRootFlaw root flaw.NoWord = ⊥

abbrev pub HasCountFlaw : ℕ → ℕ → Flaw → Type 0
HasCountFlaw anchors feet flaw.RootCategory = ⊥
HasCountFlaw anchors feet flaw.SubstCategory = ⊥
HasCountFlaw anchors feet flaw.FootCategory = ⊥
HasCountFlaw anchors feet flaw.AnchorCount = anchors ≢ 1
HasCountFlaw anchors feet flaw.FootCount = 1 < feet
HasCountFlaw anchors feet flaw.MarkOnInner = ⊥
HasCountFlaw anchors feet flaw.NoWord = ⊥

-- this is wrong with a tree of these nodes
abbrev pub HasSeenFlaw : Option ℕ → List Sight → Flaw → Type 0
HasSeenFlaw root seen w =
    HasRootFlaw root w ⊎ (HasSomeNodeFlaw root seen w ⊎ HasCountFlaw (length (marked ANCHOR (lists_seen seen))) (length (marked FOOT (lists_seen seen))) w)

-- the one with the lower code
abbrev pub lower : Option Flaw → Option Flaw → Option Flaw
lower None o = o
lower (Some v) None = Some v
lower (Some v) (Some w) = if nat_lt (code_of w) (code_of v) then Some w else Some v
