-- The walk of a tree meets no more terms than the tree has values.
use Rattle.std.specs.Prelude.{◌≡◌, ℕ, suc, ◌+◌, ◌≤◌, Bool, true, false, ◌==◌, List, [], ◌∷◌, ◌++◌, map, length, Option, Some, None, nat_eq, if◌then◌else◌, refl}
use Rattle.std.specs.List.{list_any}
use Rattle.std.proofs.Common.{ap, ◌∙◌, arith, length-append}
use Rattle.gr_base.specs.Lists.{gathered}
use Rattle.gr_base.specs.Forests.{Forest, empty, tree, labels, map_forest, size}
use Rattle.gr_terms.specs.BagViews.{pairs_of}
use Rattle.gr_terms.specs.Canonical.{Node, literal_terms}
use Rattle.gr_terms.specs.Constants.{CAT}
use Rattle.gr_terms.specs.LiteralViews.{literals_of}
use Rattle.gr_terms.specs.Networks.{Term, name, variable}
use Rattle.gr_terms.specs.Views.{term_of}
use Rattle.gr_terms.specs.declared.Literal.{Literal}
use Rattle.gr_terms.specs.declared.Term.{Term as Value}
use Rattle.td_tree.specs.Trees.{BagPairs, preorder}
use Rattle.td_tree.specs.TreeViews.{Pairs, decorated_of, lists_of}
use Rattle.td_tree.specs.declared.Tree.{Tree}
use Rattle.td_canon.specs.Spelling.{literal_count, node_count, total, value_count}
use Rattle.td_canon.specs.Writing.{category_in, forest_terms, in_order, is_before, meet, meet_all, node_terms, properties_in, put_in_order, tree_terms, values_in}

length-meet : (met : List ℕ) (t : Term ℕ) → length (meet met t) ≤ length met + 1
length-meet met (name a) = omega arith
length-meet met (variable v) = by (list_any (nat_eq v) met)
  where
    by : (b : Bool) → length (if b then met else (met ++ v ∷ [])) ≤ length met + 1
    by true = omega arith
    by false = omega (arith, length-append met (v ∷ []))

pub length-meet_all : (met : List ℕ) (ts : List (Term ℕ)) → length (meet_all met ts) ≤ length met + length ts
length-meet_all met [] = omega arith
length-meet_all met (t ∷ ts) = omega (arith, length-meet met t, length-meet_all (meet met t) ts)

length-values : (ps : Pairs) → length (values_in ps) ≡ length ps
length-values [] = refl
length-values (p ∷ ps) = ap suc (length-values ps)

length-pairs : (bag : BagPairs) → length (pairs_of bag) ≡ length bag
length-pairs [] = refl
length-pairs (p ∷ bag) = ap suc (length-pairs bag)

length-properties : (ps : Pairs) → length (properties_in ps) ≤ length ps
length-properties [] = omega arith
length-properties (p ∷ ps) = by (p.0 == CAT) (length-properties ps)
  where
    by : (b : Bool) → length (properties_in ps) ≤ length ps → length (if b then properties_in ps else (p ∷ properties_in ps)) ≤ suc (length ps)
    by true h = omega arith
    by false h = omega arith

length-own : (ps : Pairs) → length (category_in ps) + length (properties_in ps) ≤ length ps
length-own [] = omega arith
length-own (p ∷ ps) = by (p.0 == CAT) (length-own ps) (length-properties ps)
  where
    by : (b : Bool) → length (category_in ps) + length (properties_in ps) ≤ length ps → length (properties_in ps) ≤ length ps →
        length (if b then (p.1 ∷ []) else category_in ps) + length (if b then properties_in ps else (p ∷ properties_in ps)) ≤ suc (length ps)
    by true h k = omega arith
    by false h k = omega arith

module _ (text : ℕ → List ℕ) where
  length-put : (p : ℕ × Term ℕ) (qs : Pairs) → length (put_in_order text p qs) ≡ suc (length qs)
  length-put p [] = refl
  length-put p (q ∷ qs) = by (is_before (text p.0) (text q.0)) (length-put p qs)
    where
      by : (b : Bool) → length (put_in_order text p qs) ≡ suc (length qs) → length (if b then (p ∷ q ∷ qs) else (q ∷ put_in_order text p qs)) ≡ suc (suc (length qs))
      by true h = refl
      by false h = ap suc h

  length-in_order : (ps : Pairs) → length (in_order text ps) ≡ length ps
  length-in_order [] = refl
  length-in_order (p ∷ ps) = length-put p (in_order text ps) ∙ ap suc (length-in_order ps)

  length-list : (bag : BagPairs) → length (values_in (in_order text (pairs_of bag))) ≡ length bag
  length-list bag = length-values (in_order text (pairs_of bag)) ∙ length-in_order (pairs_of bag) ∙ length-pairs bag

  length-node : (b : Node BagPairs) → length (node_terms text (lists_of b)) ≤ length b.own + length b.top + length b.bottom
  length-node b =
      let own = in_order text (pairs_of b.own) in
      let top = values_in (in_order text (pairs_of b.top)) in
      let bottom = values_in (in_order text (pairs_of b.bottom)) in
      let size_own : length own ≡ length b.own = length-in_order (pairs_of b.own) ∙ length-pairs b.own in
      let front : length (category_in own ++ values_in (properties_in own)) ≡ length (category_in own) + length (properties_in own) =
      length-append (category_in own) (values_in (properties_in own)) ∙ ap (λ n. length (category_in own) + n) (length-values (properties_in own)) in
      omega (arith, size_own, front, length-own own, length-list b.top, length-list b.bottom, length-append (category_in own ++ values_in (properties_in own)) top, length-append ((category_in own ++ values_in (properties_in own)) ++ top) bottom)

  total-append : {X : Type 0} (f : X → ℕ) (xs ys : List X) → total f (xs ++ ys) ≡ total f xs + total f ys
  total-append f [] ys = omega arith
  total-append f (x ∷ xs) ys = omega (arith, total-append f xs ys)

  gathered-append : {A B : Type 0} (f : A → List B) (xs ys : List A) → length (gathered f (xs ++ ys)) ≡ length (gathered f xs) + length (gathered f ys)
  gathered-append f [] ys = omega arith
  gathered-append f (x ∷ xs) ys = omega (arith, length-append (f x) (gathered f (xs ++ ys)), length-append (f x) (gathered f xs), gathered-append f xs ys)

  length-forest : (n : ℕ) (parent : Option ℕ) (f : Forest (Node BagPairs)) → length (forest_terms text (map_forest lists_of f)) ≤ total node_count (preorder n parent f)
  length-forest n parent empty = omega arith
  length-forest n parent (tree b kids more) =
      omega (
        arith,
        length-node b,
        length-forest (suc n) (Some n) kids,
        length-forest (suc n + size kids) parent more,
        total-append node_count (preorder (suc n) (Some n) kids) (preorder (suc n + size kids) parent more),
        gathered-append (node_terms text) (labels (map_forest lists_of kids)) (labels (map_forest lists_of more)),
        length-append (node_terms text (lists_of b)) (gathered (node_terms text) (labels (map_forest lists_of kids) ++ labels (map_forest lists_of more))),
      )

  length-terms : (vs : List Value) → length (map term_of vs) ≡ length vs
  length-terms [] = refl
  length-terms (v ∷ vs) = ap suc (length-terms vs)

  length-literals : (ls : List Literal) → length (gathered literal_terms (literals_of ls)) ≡ total literal_count ls
  length-literals [] = refl
  length-literals (l ∷ ls) = omega (arith, length-append (map term_of l.args) (gathered literal_terms (literals_of ls)), length-terms l.args, length-literals ls)

  pub length-tree_terms : (t : Tree) (f : Forest (Node BagPairs)) → t.nodes ≡ preorder 0 None f → length (tree_terms text (decorated_of f t)) ≤ value_count t
  length-tree_terms t f laid =
      let nodes : total node_count t.nodes ≡ total node_count (preorder 0 None f) = ap (total node_count) laid in
      let front = forest_terms text (map_forest lists_of f) in
      let face = values_in (in_order text (pairs_of t.iface)) in
      omega (arith, nodes, length-forest 0 None f, length-list t.iface, length-literals t.sem, length-append front face, length-append (front ++ face) (gathered literal_terms (literals_of t.sem)))
