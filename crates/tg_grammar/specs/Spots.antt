-- What a node of a tree is for derivations: where trees may be put.
use Rattle.std.specs.Prelude.{ℕ, List, [], ◌∷◌, Option, Some, None, Bool, true, false, ◌&&◌, ◌||◌, not, if◌then◌else◌}
use Rattle.std.specs.List.{list_any}
use Rattle.gr_terms.specs.Canonical.{Node}
use Rattle.gr_terms.specs.Constants.{CAT, SUBST, FOOT, LEX, NADJ}
use Rattle.gr_terms.specs.Networks.{Term}
use Rattle.td_tree.specs.TreeViews.{Pairs}
use Rattle.tg_grammar.specs.Marks.{value_of, is_marked, marked}
use Rattle.tg_grammar.specs.declared.spots.Kind.{Kind}
use Rattle.tg_grammar.specs.declared.spots.Kind.TheVariants.{Substitution, Site, Plain}

-- the node's category: a name or a variable, or none
abbrev pub category_of : Node Pairs → Option (Term ℕ)
category_of n = value_of n.own CAT

abbrev pub has_value : Option (Term ℕ) → Bool
has_value None = false
has_value (Some t) = true

-- a tree may be adjoined at a node that has a category, be it a variable, and none of four marks
abbrev pub is_site : Node Pairs → Bool
is_site n = has_value (category_of n) && not (is_marked SUBST n || is_marked FOOT n || is_marked LEX n || is_marked NADJ n)

-- A node is a substitution node or a site, with its category, or neither. Only a substitution node may be without a category
pub data Spot : Type 0 where
  substitution : Option (Term ℕ) → Spot
  site : Option (Term ℕ) → Spot
  plain : Spot

abbrev pub spot_of : Node Pairs → Spot
spot_of n = if is_marked SUBST n then substitution (category_of n) else (if is_site n then site (category_of n) else plain)

-- the same without the category
abbrev pub kind_of_spot : Spot → Kind
kind_of_spot (substitution c) = Substitution
kind_of_spot (site c) = Site
kind_of_spot plain = Plain

abbrev pub kind_of : Node Pairs → Kind
kind_of n = kind_of_spot (spot_of n)

-- the numbers of the feet, of nodes in preorder
abbrev pub feet : List (Node Pairs) → List ℕ
feet nodes = marked FOOT nodes

-- a tree with a foot is auxiliary, and another one initial
abbrev pub is_auxiliary : List (Node Pairs) → Bool
is_auxiliary nodes = list_any (λ n. is_marked FOOT n) nodes

-- the category of the root
abbrev pub root_category : List (Node Pairs) → Option (Term ℕ)
root_category [] = None
root_category (x ∷ xs) = category_of x
