-- The forest of a tree's nodes in preorder is the one that they are laid out from, and the tree's network is that of its list of nodes.
use Rattle.std.specs.Prelude.{◌≡◌, ℕ, suc, ◌+◌, ◌<◌, ◌≤◌, List, [], ◌∷◌, ◌++◌, Bool, true, false, Option, Some, None, ◌==◌, if◌then◌else◌, ⊤, refl}
use Rattle.std.proofs.Common.{ap, ap₂, sym, ◌∙◌, subst, append_assoc, arith}
use Rattle.std.proofs.lemmas.Bool.{eq-eqb, eqb-true}
use Rattle.std.proofs.lemmas.List.{append-nil, map-append}
use Rattle.std.proofs.lemmas.Option.{none-some, same_Some}
use Rattle.gr_base.specs.Forests.{Forest, empty, tree, size, beside, map_forest, labels}
use Rattle.gr_base.specs.Lists.{gathered}
use Rattle.gr_base.proofs.ForestLemmas.{beside-empty}
use Rattle.gr_terms.specs.BagViews.{pairs_of}
use Rattle.gr_terms.specs.Canonical.{Node}
use Rattle.td_tree.specs.Trees.{BagPairs, AreTreeNodes, is_parent, node_of, preorder}
use Rattle.td_tree.specs.declared.TreeNode.{TreeNode}
use Rattle.td_tree.specs.declared.Tree.{Tree}
use Rattle.td_tree.specs.TreeNetworks.{tree_network, node_network, entries_at, at_interface}
use Rattle.td_tree.specs.TreeViews.{decorated_of, lists_of}
use Rattle.td_tree.specs.FlatTrees.{bags_of, lists_at, node_lists, trees_under, trees_behind, grown, forest_of, forest_in, count_from, listed_network}
use Rattle.td_tree.proofs.TreeNetworkLemmas.{labels-numbered}

-- the nodes of trees, laid out from number n on under a parent
laid : ℕ → Option ℕ → Forest (Node BagPairs) → Forest TreeNode
laid n p empty = empty
laid n p (tree b kids more) = tree (node_of p b) (laid (suc n) (Some n) kids) (laid (suc n + size kids) p more)

-- the trees stand under a node before number n, or are roots
Above : ℕ → Forest TreeNode → Type 0
Above n empty = ⊤
Above n (tree x kids more) = ((q : ℕ) → x.parent ≡ Some q → q < n) × Above n more

same_number : (q n : ℕ) → q < n → (q == n) ≡ false
same_number q n h = by (q == n) refl
  where
    by : (b : Bool) → (q == n) ≡ b → b ≡ false
    by true e = let p : q ≡ n = eqb-true q n e in absurd (omega arith)
    by false e = refl

not_under : (n : ℕ) (o : Option ℕ) → ((q : ℕ) → o ≡ Some q → q < n) → is_parent o n ≡ false
not_under n None h = refl
not_under n (Some q) h = same_number q n (h q refl)

under_itself : (n : ℕ) → is_parent (Some n) n ≡ true
under_itself n = eq-eqb n n refl

-- trees that stand above are no part of those under the node
under-above : (n : ℕ) (R : Forest TreeNode) → Above n R → trees_under n R ≡ empty
unfolding Above
under-above n empty a = refl
under-above n (tree x kids more) a = ap (λ b. if b then tree x kids (trees_under n more) else empty) (not_under n x.parent a.0)

behind-above : (n : ℕ) (R : Forest TreeNode) → Above n R → trees_behind n R ≡ R
unfolding Above
behind-above n empty a = refl
behind-above n (tree x kids more) a = ap (λ b. if b then trees_behind n more else tree x kids more) (not_under n x.parent a.0)

under-laid : (n m : ℕ) (f : Forest (Node BagPairs)) (R : Forest TreeNode) → Above n R → trees_under n (beside (laid m (Some n) f) R) ≡ laid m (Some n) f
unfolding laid
under-laid n m empty R a = under-above n R a
under-laid n m (tree b kids more) R a =
    let K : Forest TreeNode = laid (suc m) (Some m) kids in
    ap (λ t. if t then tree (node_of (Some n) b) K (trees_under n (beside (laid (suc m + size kids) (Some n) more) R)) else empty) (under_itself n)
    ∙ ap (λ z. tree (node_of (Some n) b) K z) (under-laid n (suc m + size kids) more R a)

behind-laid : (n m : ℕ) (f : Forest (Node BagPairs)) (R : Forest TreeNode) → Above n R → trees_behind n (beside (laid m (Some n) f) R) ≡ R
unfolding laid
behind-laid n m empty R a = behind-above n R a
behind-laid n m (tree b kids more) R a =
    let K : Forest TreeNode = laid (suc m) (Some m) kids in
    ap (λ t. if t then trees_behind n (beside (laid (suc m + size kids) (Some n) more) R) else tree (node_of (Some n) b) K (beside (laid (suc m + size kids) (Some n) more) R)) (under_itself n)
    ∙ behind-laid n (suc m + size kids) more R a

Above-more : (n m : ℕ) (R : Forest TreeNode) → n ≤ m → Above n R → Above m R
unfolding Above
Above-more n m empty h a = tt
Above-more n m (tree x kids more) h a = ((λ q e. let l : q < n = a.0 q e in omega arith), Above-more n m more h a.1)

Above-laid : (n m : ℕ) (p : Option ℕ) (f : Forest (Node BagPairs)) (R : Forest TreeNode) → ((q : ℕ) → p ≡ Some q → q < n) → Above n R → Above n (beside (laid m p f) R)
unfolding Above laid
Above-laid n m p empty R h a = a
Above-laid n m p (tree b kids more) R h a = (h, Above-laid n (suc m + size kids) p more R h a)

own_number : (n q : ℕ) → Some n ≡ Some q → q < suc n
own_number n q e = let p : n ≡ q = same_Some n q e in omega arith

grown-laid : (n : ℕ) (p : Option ℕ) (f : Forest (Node BagPairs)) (rest : List TreeNode) → ((q : ℕ) → p ≡ Some q → q < n) → Above n (grown (n + size f) rest)
    → grown n (preorder n p f ++ rest) ≡ beside (laid n p f) (grown (n + size f) rest)
unfolding laid Above
grown-laid n p empty rest h a = ap (λ m. grown m rest) (omega arith)
grown-laid n p (tree b kids more) rest h a =
    let k : ℕ = suc n + size kids in
    let K : List TreeNode = preorder (suc n) (Some n) kids in
    let M : List TreeNode = preorder k p more in
    let R : Forest TreeNode = grown (n + suc (size kids + size more)) rest in
    let e : k + size more ≡ n + suc (size kids + size more) = omega arith in
    let am : Above k (grown (k + size more) rest) = subst (λ m. Above k (grown m rest)) (sym e) (Above-more n k R (omega arith) a) in
    let hm : (q : ℕ) → p ≡ Some q → q < k = λ q i. let l : q < n = h q i in omega arith in
    let one : grown k (M ++ rest) ≡ beside (laid k p more) R = grown-laid k p more rest hm am ∙ ap (λ m. beside (laid k p more) (grown m rest)) e in
    let B : Forest TreeNode = beside (laid k p more) R in
    let ab : Above n B = Above-laid n k p more R h a in
    let ak : Above (suc n) (grown k (M ++ rest)) = subst (λ z. Above (suc n) z) (sym one) (Above-more n (suc n) B (omega arith) ab) in
    let two : grown (suc n) (K ++ (M ++ rest)) ≡ beside (laid (suc n) (Some n) kids) B =
    grown-laid (suc n) (Some n) kids (M ++ rest) (own_number n) ak ∙ ap (λ z. beside (laid (suc n) (Some n) kids) z) one in
    let G : grown (suc n) ((K ++ M) ++ rest) ≡ beside (laid (suc n) (Some n) kids) B = ap (grown (suc n)) (append_assoc K M rest) ∙ two in
    ap₂ (λ y z. tree (node_of p b) y z)
    (ap (trees_under n) G ∙ under-laid n (suc n) kids B ab)
    (ap (trees_behind n) G ∙ behind-laid n (suc n) kids B ab)

bags-laid : (n : ℕ) (p : Option ℕ) (f : Forest (Node BagPairs)) → map_forest bags_of (laid n p f) ≡ f
unfolding laid
bags-laid n p empty = refl
bags-laid n p (tree b kids more) = ap₂ (λ y z. tree b y z) (bags-laid (suc n) (Some n) kids) (bags-laid (suc n + size kids) p more)

-- so the nodes of a tree have its forest
pub forest-preorder : (f : Forest (Node BagPairs)) → forest_of (preorder 0 None f) ≡ f
unfolding Above
forest-preorder f =
    ap (λ z. map_forest bags_of (grown 0 z)) (sym (append-nil (preorder 0 None f)))
    ∙ ap (map_forest bags_of) (grown-laid 0 None f [] (λ q e. absurd (none-some q e)) tt ∙ beside-empty (laid 0 None f))
    ∙ bags-laid 0 None f

pub forest-of_nodes : (nodes : List TreeNode) (t : AreTreeNodes nodes) → forest_of nodes ≡ t.forest
forest-of_nodes nodes t = ap forest_of t.laid ∙ forest-preorder t.forest

pub forest-in_nodes : (nodes : List TreeNode) (t : AreTreeNodes nodes) → forest_in nodes ≡ map_forest lists_of t.forest
forest-in_nodes nodes t = ap (map_forest lists_of) (forest-of_nodes nodes t)

-- ---- the nodes are the labels, and the network needs no more

labels-preorder : (n : ℕ) (p : Option ℕ) (f : Forest (Node BagPairs)) → labels (map_forest lists_of f) ≡ node_lists (preorder n p f)
labels-preorder n p empty = refl
labels-preorder n p (tree b kids more) =
    ap (λ xs. lists_of b ∷ xs)
    (ap₂ (λ xs ys. xs ++ ys) (labels-preorder (suc n) (Some n) kids) (labels-preorder (suc n + size kids) p more)
    ∙ sym (map-append lists_at (preorder (suc n) (Some n) kids) (preorder (suc n + size kids) p more)))

-- the lists of a tree's nodes are the labels of its forest
pub labels-nodes : (nodes : List TreeNode) (t : AreTreeNodes nodes) → labels (map_forest lists_of t.forest) ≡ node_lists nodes
labels-nodes nodes t = labels-preorder 0 None t.forest ∙ ap node_lists (sym t.laid)

pub network-listed : (t : Tree) (nodes : AreTreeNodes t.nodes) → tree_network (decorated_of nodes.forest t) ≡ listed_network t
network-listed t nodes =
    ap (λ ys. gathered node_network ys ++ entries_at at_interface (pairs_of t.iface))
    (labels-numbered 0 (map_forest lists_of nodes.forest) ∙ ap (λ xs. count_from 0 xs) (labels-nodes t.nodes nodes))
