-- What the parts of a canonical text are, before all variables are met: words between the code and the canonical form.
use Rattle.std.specs.Prelude.{◌≡◌, ℕ, suc, ◌+◌, Bool, true, false, nat_eq, nat_lt, ◌==◌, List, [], ◌∷◌, ◌++◌, map, drop, codes, if◌then◌else◌, ⊤, Option, Some, None, ◌||◌, ◌&&◌}
use Rattle.std.specs.List.{list_any, position_or_len, join_with_byte}
use Rattle.gr_base.specs.Lists.{Each, InByteOrder, gathered}
use Rattle.gr_base.specs.Forests.{Forest, empty, tree, size, labels, map_forest}
use Rattle.gr_terms.specs.Bags.{IsListed}
use Rattle.gr_terms.specs.BagViews.{pairs_of}
use Rattle.gr_terms.specs.Constants.{CAT}
use Rattle.gr_terms.specs.Views.{term_of}
use Rattle.gr_terms.specs.declared.Term.{Term as Value}
use Rattle.gr_terms.specs.Networks.{Term, name, variable}
use Rattle.gr_terms.specs.Canonical as canonical
use Rattle.gr_terms.specs.Canonical.{Node, Decorated, Literal, Label, named, numbered, literal_terms, map_literal}
use Rattle.td_tree.specs.Trees.{BagPairs, BeginsAbove, preorder}
use Rattle.td_tree.specs.TreeViews.{Pairs, lists_of}
use Rattle.td_tree.specs.declared.TreeNode.{TreeNode}
use Rattle.td_canon.specs.CanonicalTexts.{IsNamedTerm}
use Rattle.td_canon.specs.declared.pairs.Pair.{Pair}
use Rattle.td_canon.specs.TreeText.{enclosed, label_text, pair_texts, tree_texts}

-- ---- variables by first meeting

-- the variables met, with those of one more term
abbrev pub meet : List ℕ → Term ℕ → List ℕ
meet met (name a) = met
meet met (variable v) = if list_any (nat_eq v) met then met else (met ++ v ∷ [])

abbrev pub meet_all : List ℕ → List (Term ℕ) → List ℕ
meet_all met [] = met
meet_all met (t ∷ ts) = meet_all (meet met t) ts

-- a variable's label is its number among those met, counted from 1
abbrev pub label_in : List ℕ → Term ℕ → Label
label_in met (name a) = named a
label_in met (variable v) = numbered (suc (position_or_len (nat_eq v) met))

-- the second list begins with the first
abbrev pub BeginsWith : List ℕ → List ℕ → Type 0
BeginsWith met all = (more : List ℕ) × (all ≡ met ++ more)

-- ---- what a walk writes

-- a text so far, and the variables met
pub record Written : Type 0 where
  pub bytes : List ℕ
  pub met : List ℕ

-- the terms were met in this order, and the text was appended, with numbers that are right however many variables are met later
pub record Writes (old new : Written) (terms : List (Term ℕ)) (text : (Term ℕ → Label) → List ℕ) : Type 0 where
  pub met : new.met ≡ meet_all old.met terms
  pub appended : (all : List ℕ) → BeginsWith new.met all → new.bytes ≡ old.bytes ++ text (label_in all)

-- ---- lists in byte order of the attributes' texts

-- whether the first text stands before the second in byte order
abbrev pub is_before : List ℕ → List ℕ → Bool
is_before xs [] = false
is_before [] (y ∷ ys) = true
is_before (x ∷ xs) (y ∷ ys) = nat_lt x y || ((x == y) && is_before xs ys)

module _ (text : ℕ → List ℕ) where
  abbrev pub put_in_order : ℕ × Term ℕ → Pairs → Pairs
  put_in_order p [] = p ∷ []
  put_in_order p (q ∷ qs) = if is_before (text p.0) (text q.0) then (p ∷ q ∷ qs) else (q ∷ put_in_order p qs)

  abbrev pub in_order : Pairs → Pairs
  in_order [] = []
  in_order (p ∷ ps) = put_in_order p (in_order ps)

-- the value of the category in a list of pairs, and the other pairs
abbrev pub category_in : Pairs → List (Term ℕ)
category_in [] = []
category_in (p ∷ ps) = if p.0 == CAT then (p.1 ∷ []) else category_in ps

abbrev pub properties_in : Pairs → Pairs
properties_in [] = []
properties_in (p ∷ ps) = if p.0 == CAT then properties_in ps else (p ∷ properties_in ps)

abbrev pub values_in : Pairs → List (Term ℕ)
values_in ps = map (λ p. p.1) ps

-- the pairs with labels in place of their values
abbrev pub labelled : (Term ℕ → Label) → Pairs → canonical.Pairs
labelled label ps = map (λ p. (p.0, label p.1)) ps

-- ---- pairs by their attributes' texts

abbrev pub TextPairs : Type 0
TextPairs = List (List ℕ × Term ℕ)

abbrev pub by_text : (ℕ → List ℕ) → Pairs → TextPairs
by_text text ps = map (λ p. (text p.0, p.1)) ps

-- what the code's pairs are
abbrev pub seen_pairs : List Pair → TextPairs
seen_pairs ps = map (λ (p : Pair). (p.attribute.now, term_of p.value)) ps

abbrev pub pair_values : TextPairs → List (Term ℕ)
pair_values ps = map (λ p. p.1) ps

abbrev pub written_pairs : (ℕ → List ℕ) → (Term ℕ → Label) → TextPairs → List (List ℕ)
written_pairs text label ps = map (λ p. p.0 ++ codes "=" ++ label_text text (label p.1)) ps

-- each value that is a name has a number below the count
abbrev pub AreNamedPairs : ℕ → List Pair → Type 0
AreNamedPairs count ps = Each (λ (p : Pair). IsNamedTerm count p.value) ps

-- the pairs were appended between two texts, with commas between them
abbrev pub WritesPairs : (ℕ → List ℕ) → List ℕ → List ℕ → Pairs → Written → Written → Type 0
WritesPairs text opening closing ps old new = Writes old new (values_in ps) (λ label. enclosed opening 44 closing (pair_texts text (labelled label ps)))

-- the term of a value that may be there
abbrev pub some_terms : Option Value → List (Term ℕ)
some_terms None = []
some_terms (Some v) = term_of v ∷ []

abbrev pub IsNamedSome : ℕ → Option Value → Type 0
IsNamedSome count None = ⊤
IsNamedSome count (Some v) = IsNamedTerm count v

-- how many pairs of a bag with this category stand before the properties
abbrev pub before_properties : Option Value → ℕ
before_properties None = 0
before_properties (Some v) = 1

-- ---- the form of a tree, and the terms that its walk meets

module _ (text : ℕ → List ℕ) where
  abbrev pub form_node : (Term ℕ → Label) → Node Pairs → Node canonical.Pairs
  form_node label n = record { own = labelled label (in_order text n.own); top = labelled label (in_order text n.top); bottom = labelled label (in_order text n.bottom) }

  abbrev pub form_of : (Term ℕ → Label) → Decorated Pairs (Term ℕ) → Decorated canonical.Pairs Label
  form_of label d = record { nodes = map_forest (form_node label) d.nodes; interface = labelled label (in_order text d.interface); literals = map (map_literal label) d.literals }

  abbrev pub node_terms : Node Pairs → List (Term ℕ)
  node_terms n = category_in (in_order text n.own) ++ values_in (properties_in (in_order text n.own)) ++ values_in (in_order text n.top) ++ values_in (in_order text n.bottom)

  abbrev pub forest_terms : Forest (Node Pairs) → List (Term ℕ)
  forest_terms f = gathered node_terms (labels f)

  abbrev pub tree_terms : Decorated Pairs (Term ℕ) → List (Term ℕ)
  tree_terms d = forest_terms d.nodes ++ values_in (in_order text d.interface) ++ gathered literal_terms d.literals

-- ---- nodes of the code

-- what stands at the three slots of the code's node
abbrev pub slots_of : TreeNode → Node BagPairs
slots_of n = record { own = n.own; top = n.top; bottom = n.bot }

-- the attributes rise by number, and they differ by their texts, so that they are in byte order when they are put in order
pub record IsOrderedBag (text : ℕ → List ℕ) (bag : BagPairs) : Type 0 where
  pub listed : IsListed bag
  pub order : InByteOrder (map (λ p. text p.0) (in_order text (pairs_of bag)))

pub record AreOrderedBags (text : ℕ → List ℕ) (b : Node BagPairs) : Type 0 where
  pub own : IsOrderedBag text b.own
  pub top : IsOrderedBag text b.top
  pub bottom : IsOrderedBag text b.bottom

module _ (text : ℕ → List ℕ) where
  -- the trees of a forest were appended, with something round their texts
  abbrev pub WritesForest : (List (List ℕ) → List ℕ) → Forest (Node BagPairs) → Written → Written → Type 0
  WritesForest around f old new =
      Writes old new (forest_terms text (map_forest lists_of f)) (λ label. around (tree_texts text (map_forest (form_node text label) (map_forest lists_of f))))

  -- Whatever tree begins at number n and ends where its nodes do, `next` is the number behind it and its text was appended.
  pub record WritesTree (nodes : List TreeNode) (n next : ℕ) (old new : Written) : Type 0 where
    pub writes : (parent : Option ℕ) (b : Node BagPairs) (kids : Forest (Node BagPairs)) (rest : List TreeNode) →
        drop n nodes ≡ preorder n parent (tree b kids empty) ++ rest → BeginsAbove n rest →
        (next ≡ suc n + size kids) × Each (AreOrderedBags text) (labels (tree b kids empty)) × WritesForest (join_with_byte 32) (tree b kids empty) old new

  -- Whatever trees stand under node n, directly behind it, `next` is the number behind them and their texts were appended in parentheses.
  pub record WritesKids (nodes : List TreeNode) (n next : ℕ) (old new : Written) : Type 0 where
    pub writes : (kids : Forest (Node BagPairs)) (rest : List TreeNode) →
        drop (suc n) nodes ≡ preorder (suc n) (Some n) kids ++ rest → BeginsAbove n rest →
        (next ≡ suc n + size kids) × Each (AreOrderedBags text) (labels kids) × WritesForest (enclosed (codes "(") 32 (codes ")")) kids old new
