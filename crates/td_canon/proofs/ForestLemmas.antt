-- Trees in preorder, walked from number to number, and what was written of them.
use Rattle.std.specs.Prelude.{◌≡◌, ℕ, suc, ◌+◌, ◌<◌, ◌≤◌, List, [], ◌∷◌, ◌++◌, drop, length, slice_get, Option, Some, codes, refl}
use Rattle.std.specs.List.{join_with_byte}
use Rattle.std.proofs.Common.{ap, sym, ◌∙◌, subst, arith, append_assoc, append-nil, add-one}
use Rattle.std.proofs.Math.ListN.{drop_of_length-le}
use Rattle.std.proofs.lemmas.Option.{same_Some}
use Rattle.gr_base.specs.Forests.{Forest, empty, tree, beside, labels, map_forest, size}
use Rattle.gr_base.specs.Lists.{Each, gathered}
use Rattle.gr_base.proofs.ForestLemmas.{beside_assoc, beside-empty, labels-beside, size-beside}
use Rattle.gr_base.proofs.ListLemmas.{Each-append, same_head, drop-slice_get, drop-behind, drop-part}
use Rattle.gr_base.proofs.Gathering.{gathered-append}
use Rattle.gr_terms.specs.Canonical as canonical
use Rattle.gr_terms.specs.Canonical.{Label, Node}
use Rattle.gr_terms.specs.Networks.{Term}
use Rattle.td_tree.specs.Trees.{BagPairs, BeginsAbove, node_of, preorder}
use Rattle.td_tree.specs.TreeViews.{lists_of}
use Rattle.td_tree.specs.declared.TreeNode.{TreeNode}
use Rattle.td_tree.proofs.PreorderLemmas.{length-preorder}
use Rattle.td_canon.specs.TreeText.{enclosed, node_text, tree_texts}
use Rattle.td_canon.specs.Writing.{AreOrderedBags, Written, Writes, WritesForest, WritesKids, WritesTree, forest_terms, form_node, node_terms, slots_of}
use Rattle.td_canon.proofs.RowLemmas.{opened, opened-push, separator_behind, separator_behind-push}
use Rattle.td_canon.proofs.WritesLemmas.{Writes-as, Writes-none, Writes-then}

-- the first of the nodes is there and stands under node n
abbrev pub BeginsUnder : ℕ → List TreeNode → Type 0
BeginsUnder n [] = ⊥
BeginsUnder n (x ∷ xs) = x.parent ≡ Some n

-- a node stands under a node from a place on just where the one there does
module _ (nodes : List TreeNode) (place n : ℕ) where
  pub begins_under : (x : TreeNode) → slice_get nodes place ≡ Some x → x.parent ≡ Some n → BeginsUnder n (drop place nodes)
  begins_under x at e = subst (λ zs. BeginsUnder n zs) (sym (drop-slice_get nodes place x at)) e

  pub parent_there : (x : TreeNode) → slice_get nodes place ≡ Some x → BeginsUnder n (drop place nodes) → x.parent ≡ Some n
  parent_there x at under = subst (λ zs. BeginsUnder n zs) (drop-slice_get nodes place x at) under

  pub none_past : length nodes ≤ place → BeginsUnder n (drop place nodes) → ⊥
  none_past past under = subst (λ zs. BeginsUnder n zs) (drop_of_length-le nodes past) under

-- the nodes of one tree, its root's first; and those of a first tree and of the trees beside it
preorder-one : (n : ℕ) (parent : Option ℕ) (b : Node BagPairs) (kids : Forest (Node BagPairs)) (rest : List TreeNode) →
    preorder n parent (tree b kids empty) ++ rest ≡ node_of parent b ∷ (preorder (suc n) (Some n) kids ++ rest)
preorder-one n parent b kids rest = ap (λ zs. zs ++ rest) (append-nil (node_of parent b ∷ preorder (suc n) (Some n) kids))

preorder-first : (n : ℕ) (parent : Option ℕ) (b : Node BagPairs) (kids more : Forest (Node BagPairs)) (rest : List TreeNode) →
    preorder n parent (tree b kids more) ++ rest ≡ preorder n parent (tree b kids empty) ++ (preorder (suc n + size kids) parent more ++ rest)
preorder-first n parent b kids more rest =
    append_assoc (node_of parent b ∷ preorder (suc n) (Some n) kids) (preorder (suc n + size kids) parent more) rest
    ∙ sym (preorder-one n parent b kids (preorder (suc n + size kids) parent more ++ rest))

-- ---- terms and texts of forests side by side

map_forest-beside : {A B : Type 0} (f : A → B) (g h : Forest A) → map_forest f (beside g h) ≡ beside (map_forest f g) (map_forest f h)
map_forest-beside f empty h = refl
map_forest-beside f (tree a kids more) h = ap (tree (f a) (map_forest f kids)) (map_forest-beside f more h)

module _ (text : ℕ → List ℕ) where
  tree_texts-beside : (f g : Forest (Node canonical.Pairs)) → tree_texts text (beside f g) ≡ tree_texts text f ++ tree_texts text g
  tree_texts-beside empty g = refl
  tree_texts-beside (tree n kids more) g = ap (λ ts. (node_text text n ++ enclosed (codes "(") 32 (codes ")") (tree_texts text kids)) ∷ ts) (tree_texts-beside more g)

  -- the terms and the texts of the code's trees
  abbrev pub terms : Forest (Node BagPairs) → List (Term ℕ)
  terms f = forest_terms text (map_forest lists_of f)

  abbrev pub texts_with : (Term ℕ → Label) → Forest (Node BagPairs) → List (List ℕ)
  texts_with label f = tree_texts text (map_forest (form_node text label) (map_forest lists_of f))

  terms-beside : (f g : Forest (Node BagPairs)) → terms (beside f g) ≡ terms f ++ terms g
  terms-beside f g =
      ap (forest_terms text) (map_forest-beside lists_of f g)
      ∙ ap (gathered (node_terms text)) (labels-beside (map_forest lists_of f) (map_forest lists_of g))
      ∙ gathered-append (node_terms text) (labels (map_forest lists_of f)) (labels (map_forest lists_of g))

  texts-beside : (label : Term ℕ → Label) (f g : Forest (Node BagPairs)) → texts_with label (beside f g) ≡ texts_with label f ++ texts_with label g
  texts-beside label f g =
      ap (λ h. tree_texts text (map_forest (form_node text label) h)) (map_forest-beside lists_of f g)
      ∙ ap (tree_texts text) (map_forest-beside (form_node text label) (map_forest lists_of f) (map_forest lists_of g))
      ∙ tree_texts-beside (map_forest (form_node text label) (map_forest lists_of f)) (map_forest (form_node text label) (map_forest lists_of g))

  -- the text of one tree
  abbrev pub text_with : (Term ℕ → Label) → Node BagPairs → Forest (Node BagPairs) → List ℕ
  text_with label b kids = node_text text (form_node text label (lists_of b)) ++ enclosed (codes "(") 32 (codes ")") (texts_with label kids)

  -- ---- a tree from its root and its children

  pub WritesTree-root : (nodes : List TreeNode) (n next : ℕ) (x : TreeNode) (old between new : Written) → slice_get nodes n ≡ Some x →
      Writes old between (node_terms text (lists_of (slots_of x))) (λ label. node_text text (form_node text label (lists_of (slots_of x)))) →
      AreOrderedBags text (slots_of x) → WritesKids text nodes n next between new → WritesTree text nodes n next old new
  WritesTree-root nodes n next x old between new at node ordered kids_written = record {
    writes = λ parent b kids rest stands above.
        let begins : drop n nodes ≡ node_of parent b ∷ (preorder (suc n) (Some n) kids ++ rest) = stands ∙ preorder-one n parent b kids rest in
        let k = kids_written.writes kids rest (drop-behind nodes n (node_of parent b) (preorder (suc n) (Some n) kids ++ rest) begins) above in
        let is_root : x ≡ node_of parent b = same_head x (node_of parent b) _ _ (sym (drop-slice_get nodes n x at) ∙ begins) in
        let same : slots_of x ≡ b = ap slots_of is_root in
        let root : Writes old between (node_terms text (lists_of b)) (λ label. node_text text (form_node text label (lists_of b))) =
        subst (λ z. Writes old between (node_terms text (lists_of z)) (λ label. node_text text (form_node text label (lists_of z)))) same node in (
          k.0,
          (subst (λ z. AreOrderedBags text z) same ordered, subst (λ zs. Each (AreOrderedBags text) zs) (sym (append-nil (labels kids))) k.1),
          Writes-as old new (node_terms text (lists_of b) ++ terms kids) (terms (tree b kids empty)) (λ label. text_with label b kids) (λ label. join_with_byte 32 (texts_with label (tree b kids empty)))
              (ap (λ ls. node_terms text (lists_of b) ++ gathered (node_terms text) ls) (sym (append-nil (labels (map_forest lists_of kids)))))
              (λ label. refl)
              (Writes-then old between new (node_terms text (lists_of b)) (terms kids) (λ label. node_text text (form_node text label (lists_of b))) (λ label. enclosed (codes "(") 32 (codes ")") (texts_with label kids)) root k.2),
        );
  }

  -- ---- children one by one

  -- what does not begin below node n does not begin under it, and does not begin below a later node
  not_under : (n : ℕ) (rest : List TreeNode) → BeginsAbove n rest → BeginsUnder n rest → ⊥
  not_under n [] above under = under
  not_under n (x ∷ rest) above under = let h : n < n = above n under in omega arith

  above_later : (n place : ℕ) (rest : List TreeNode) → n < place → BeginsAbove n rest → BeginsAbove place rest
  above_later n place [] later above = tt
  above_later n place (x ∷ rest) later above = λ p e. let h : p < n = above p e in omega arith

  above_siblings : (n place from : ℕ) (more : Forest (Node BagPairs)) (rest : List TreeNode) → n < place → BeginsAbove n rest → BeginsAbove place (preorder from (Some n) more ++ rest)
  above_siblings n place from empty rest later above = above_later n place rest later above
  above_siblings n place from (tree b kids more) rest later above = λ p e. let h : n ≡ p = same_Some n p e in omega arith

  -- Of the children of node n those before a place were written, where these are the children and the nodes behind them.
  pub record SomeKids (nodes : List TreeNode) (n place : ℕ) (old new : Written) (separator : List ℕ) (kids : Forest (Node BagPairs)) (rest : List TreeNode) : Type 0 where
    pub done : Forest (Node BagPairs)
    pub left : Forest (Node BagPairs)
    pub all : kids ≡ beside done left
    pub place_is : place ≡ suc n + size done
    pub behind : drop place nodes ≡ preorder place (Some n) left ++ rest
    pub ordered : Each (AreOrderedBags text) (labels done)
    pub written : WritesForest text (opened (codes "(") 32) done old new
    pub separator_is : (label : Term ℕ → Label) → separator ≡ separator_behind (codes "(") 32 (texts_with label done)

  -- so for whatever children node n has
  pub record WritesSomeKids (nodes : List TreeNode) (n place : ℕ) (old new : Written) (separator : List ℕ) : Type 0 where
    pub after : n < place
    pub within : place ≤ length nodes
    pub writes : (kids : Forest (Node BagPairs)) (rest : List TreeNode) → drop (suc n) nodes ≡ preorder (suc n) (Some n) kids ++ rest → BeginsAbove n rest →
        SomeKids nodes n place old new separator kids rest

  module _ (nodes : List TreeNode) (n : ℕ) (old : Written) where
    -- before the first child
    pub WritesSomeKids-none : n < length nodes → WritesSomeKids nodes n (n + 1) old old (codes "(")
    WritesSomeKids-none within = record {
      after = omega arith;
      within = omega arith;
      writes = λ kids rest stands above. record {
        done = empty;
        left = kids;
        all = refl;
        place_is = omega arith;
        behind = subst (λ i. drop i nodes ≡ preorder i (Some n) kids ++ rest) (sym (add-one n)) stands;
        ordered = tt;
        written = Writes-none old;
        separator_is = λ label. refl;
      };
    }

    module _ (place next : ℕ) (mid pushed new : Written) (separator : List ℕ) (under : BeginsUnder n (drop place nodes)) (pushed_is : Writes mid pushed [] (λ label. separator)) (one : WritesTree text nodes place next pushed new) where
      -- one more child
      next_kid : (kids : Forest (Node BagPairs)) (rest : List TreeNode) → n < place → BeginsAbove n rest → (s : SomeKids nodes n place old mid separator kids rest) →
          (left : Forest (Node BagPairs)) → s.left ≡ left → SomeKids nodes n next old new (codes " ") kids rest
      next_kid kids rest later above s empty e =
          absurd (not_under n rest above (subst (λ zs. BeginsUnder n zs) (s.behind ∙ ap (λ f. preorder place (Some n) f ++ rest) e) under))
      next_kid kids rest later above s (tree b k more) e =
          let stands : drop place nodes ≡ preorder place (Some n) (tree b k empty) ++ (preorder (suc place + size k) (Some n) more ++ rest) =
          s.behind ∙ ap (λ f. preorder place (Some n) f ++ rest) e ∙ preorder-first place (Some n) b k more rest in
          let first = one.writes (Some n) b k (preorder (suc place + size k) (Some n) more ++ rest) stands (above_siblings n place (suc place + size k) more rest later above) in
          let next_is : next ≡ suc place + size k = first.0 in
          let count : size (beside s.done (tree b k empty)) ≡ size s.done + size (tree b k empty) = size-beside s.done (tree b k empty) in
          let place_is : place ≡ suc n + size s.done = s.place_is in
          let as_many : length (preorder place (Some n) (tree b k empty)) ≡ suc (size k) = length-preorder place (Some n) (tree b k empty) ∙ omega arith in
          record {
            done = beside s.done (tree b k empty);
            left = more;
            all = s.all ∙ ap (beside s.done) e ∙ sym (beside_assoc s.done (tree b k empty) more);
            place_is = omega arith;
            behind =
                ap (λ i. drop i nodes) (omega arith)
                ∙ drop-part nodes place (suc (size k)) (preorder place (Some n) (tree b k empty)) (preorder (suc place + size k) (Some n) more ++ rest) stands as_many
                ∙ ap (λ i. preorder i (Some n) more ++ rest) (sym next_is);
            ordered = subst (λ ls. Each (AreOrderedBags text) ls) (sym (labels-beside s.done (tree b k empty))) (Each-append (AreOrderedBags text) (labels s.done) (labels (tree b k empty)) s.ordered first.1);
            written = Writes-as old new (terms s.done ++ terms (tree b k empty)) (terms (beside s.done (tree b k empty)))
                (λ label. opened (codes "(") 32 (texts_with label s.done) ++ (separator ++ text_with label b k))
                (λ label. opened (codes "(") 32 (texts_with label (beside s.done (tree b k empty))))
                (sym (terms-beside s.done (tree b k empty)))
                (λ label.
                ap (λ t. opened (codes "(") 32 (texts_with label s.done) ++ (t ++ text_with label b k)) (s.separator_is label)
                ∙ sym (opened-push (codes "(") 32 (texts_with label s.done) (text_with label b k))
                ∙ ap (opened (codes "(") 32) (sym (texts-beside label s.done (tree b k empty))))
                (Writes-then old mid new (terms s.done) (terms (tree b k empty)) (λ label. opened (codes "(") 32 (texts_with label s.done)) (λ label. separator ++ text_with label b k) s.written
                (Writes-then mid pushed new [] (terms (tree b k empty)) (λ label. separator) (λ label. text_with label b k) pushed_is first.2));
            separator_is = λ label. sym (ap (separator_behind (codes "(") 32) (texts-beside label s.done (tree b k empty)) ∙ separator_behind-push (codes "(") 32 (texts_with label s.done) (text_with label b k));
          }

      pub WritesSomeKids-next : place < next → next ≤ length nodes → WritesSomeKids nodes n place old mid separator → WritesSomeKids nodes n next old new (codes " ")
      WritesSomeKids-next forth within some = record {
        after = let h : n < place = some.after in omega arith;
        within = within;
        writes = λ kids rest stands above. let s = some.writes kids rest stands above in next_kid kids rest some.after above s s.left refl;
      }

    module _ (place : ℕ) (mid new : Written) (separator : List ℕ) (over : BeginsUnder n (drop place nodes) → ⊥) (none : place ≡ n + 1 → new ≡ mid) (closed : n + 1 < place → Writes mid new [] (λ label. codes ")")) where
      closing : (done : Forest (Node BagPairs)) → place ≡ suc n + size done → WritesForest text (opened (codes "(") 32) done old mid → WritesForest text (enclosed (codes "(") 32 (codes ")")) done old new
      closing empty place_is written = subst (λ w. Writes old w [] (λ label. [])) (sym (none (omega arith))) written
      closing (tree b kids more) place_is written =
          Writes-as old new (terms (tree b kids more) ++ []) (terms (tree b kids more))
          (λ label. opened (codes "(") 32 (texts_with label (tree b kids more)) ++ codes ")")
          (λ label. enclosed (codes "(") 32 (codes ")") (texts_with label (tree b kids more)))
          (append-nil (terms (tree b kids more)))
          (λ label. refl)
          (Writes-then old mid new (terms (tree b kids more)) [] (λ label. opened (codes "(") 32 (texts_with label (tree b kids more))) (λ label. codes ")") written (closed (omega arith)))

      last_kid : (kids : Forest (Node BagPairs)) (rest : List TreeNode) (s : SomeKids nodes n place old mid separator kids rest) → (left : Forest (Node BagPairs)) → s.left ≡ left →
          (place ≡ suc n + size kids) × Each (AreOrderedBags text) (labels kids) × WritesForest text (enclosed (codes "(") 32 (codes ")")) kids old new
      last_kid kids rest s (tree b k more) e =
          absurd (over (subst (λ zs. BeginsUnder n zs) (sym (s.behind ∙ ap (λ f. preorder place (Some n) f ++ rest) e)) refl))
      last_kid kids rest s empty e =
          let same : s.done ≡ kids = sym (s.all ∙ ap (beside s.done) e ∙ beside-empty s.done) in (
            s.place_is ∙ ap (λ f. suc n + size f) same,
            subst (λ f. Each (AreOrderedBags text) (labels f)) same s.ordered,
            subst (λ f. WritesForest text (enclosed (codes "(") 32 (codes ")")) f old new) same (closing s.done s.place_is s.written),
          )

      -- behind the last child
      pub WritesKids-end : WritesSomeKids nodes n place old mid separator → WritesKids text nodes n place old new
      WritesKids-end some = record { writes = λ kids rest stands above. let s = some.writes kids rest stands above in last_kid kids rest s s.left refl }
