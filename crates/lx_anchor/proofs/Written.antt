-- The tree that is written is that over the network of the tree and the entry, and it keeps its shape.
use Rattle.std.specs.Prelude.{◌≡◌, ℕ, zero, suc, ◌+◌, ◌≤◌, List, [], ◌∷◌, ◌++◌, map, length, Some, None, slice_get, if◌then◌else◌, refl}
use Rattle.std.specs.List.{AllZip}
use Rattle.std.proofs.Common.{inl, inr, ap, ap₂, subst, sym, ◌∙◌, arith, eq-eqb}
use Rattle.std.proofs.lemmas.Bool.Decides.{eqb_tells}
use Rattle.std.proofs.lemmas.List.{map-append}
use Rattle.std.proofs.lemmas.Option.{none-some}
use Rattle.gr_base.specs.Lists.{IsAmong, Each, IsRising}
use Rattle.gr_base.specs.Forests.{Forest, empty, tree, map_forest, AreAlike}
use Rattle.gr_base.proofs.ForestLemmas.{AreAlike-weaker, IsOneTree-alike}
use Rattle.gr_base.proofs.ListLemmas.{Each-append, Each-at, IsAmong-slice_get, IsAmong-gathered_from}
use Rattle.gr_terms.specs.BagViews.{pairs_of}
use Rattle.gr_terms.specs.Bags.{IsListed}
use Rattle.gr_terms.specs.Canonical.{Node, IsMet, literal_terms, map_literal}
use Rattle.gr_terms.specs.Canonical as canonical
use Rattle.gr_terms.specs.Constants.{ANCHOR, COANCHOR}
use Rattle.gr_terms.specs.LiteralViews.{literal_of, literals_of}
use Rattle.gr_terms.specs.Networks as net
use Rattle.gr_terms.specs.Networks.{Assertion, Agrees, HasValue, same}
use Rattle.gr_terms.specs.Views.{network_of, term_of}
use Rattle.gr_terms.specs.declared.Assertion as code
use Rattle.gr_terms.specs.declared.Literal.{Literal}
use Rattle.gr_terms.specs.declared.Term.{Term}
use Rattle.gr_terms.proofs.ViewLemmas.{term_from, term_of-term_from}
use Rattle.gr_store.specs.Contents.{IsMade}
use Rattle.gr_feats.specs.CanonicalBags.{StandsFor}
use Rattle.gr_feats.specs.Loading.{counted_from}
use Rattle.gr_feats.proofs.CanonicalLemmas.{stands_one}
use Rattle.td_tree.specs.Trees.{AreTreeNodes, BagPairs}
use Rattle.td_tree.specs.TreeNetworks.{Part, own_part, top_part, bottom_part, TreeSlot, at_node, at_interface, slots_at}
use Rattle.td_tree.specs.TreeViews.{lists_of}
use Rattle.td_tree.specs.declared.Tree.{Tree}
use Rattle.td_tree.specs.declared.TreeNode.{TreeNode}
use Rattle.td_model.specs.CanonicalTrees.{StandsForLiteral}
use Rattle.td_model.proofs.LeastTerms.{least_stands, term_root}
use Rattle.tg_grammar.specs.Marks.{is_marked, lists_at, marked, node_lists}
use Rattle.tg_grammar.specs.Shapes.{IsWellFormedTree}
use Rattle.tg_grammar.proofs.SightLemmas.{labels-nodes}
use Rattle.lx_lexicon.specs.declared.entry.Entry.{Entry}
use Rattle.tg_grammar.specs.NamedMarks.{HasNamedMarks, IsNamedMark}
use Rattle.lx_anchor.specs.Anchoring.{co_leaves}
use Rattle.lx_anchor.specs.Counts.{IsLiteralBelow, IsTreeBelow}
use Rattle.lx_anchor.specs.Networks.{Variable, Slot, in_tree, slots_in, tree_term, entry_term, anchored_network, anchored_tree}
use Rattle.lx_anchor.specs.Rows.{IsAnchoredTree}
use Rattle.lx_anchor.specs.Sharing.{AreEquations, counted_pairs}
use Rattle.lx_anchor.specs.TreesOver.{IsTreeOver, ListsNode, ListsSlot}
use Rattle.lx_anchor.specs.Writings.{IsJoint, IsJointNode, IsJointTree, added_at, counted_literals}
use Rattle.lx_anchor.proofs.AnchoredNetwork.{AddedAt, JointAt, base, joint-value, value-joint}
use Rattle.lx_anchor.proofs.Building.{Matches, IsBuilt, bags_of, built}
use Rattle.lx_anchor.proofs.Joining.{Fits, entry-fits, joint-fits, linked-written, network-agrees, tree-fits, written, written-home, written-linked, written-name}
use Rattle.lx_anchor.proofs.Marking.{node-keeps, node-named, number-there}
use Rattle.lx_anchor.proofs.Numbers.{in_store, in_store-entry, in_store-tree, owner}
use Rattle.lx_anchor.proofs.PairLemmas.{IsBagAt, bag-pair, bag_of, counted-in, counted-out, one-bag, pair-bag, pair-in, pair-out}
use Rattle.lx_anchor.proofs.ShapeKeeping.{Keeps, marked-kept, well_formed-kept}

-- ---- lists

each-mapped : {A B : Type 0} (P : B → Type 0) (f : A → B) (xs : List A) → ((n : ℕ) (x : A) → slice_get xs n ≡ Some x → P (f x)) → Each P (map f xs)
each-mapped P f [] h = tt
each-mapped P f (x ∷ xs) h = (h zero x refl, each-mapped P f xs (λ n y at. h (suc n) y at))

at-length : {A B : Type 0} (xs : List A) (ys : List B) (n : ℕ) (x : A) → length ys ≡ length xs → slice_get xs n ≡ Some x → (y : B) × (slice_get ys n ≡ Some y)
at-length [] ys n x e at = absurd (none-some x at)
at-length (z ∷ xs) [] n x e at = absurd (omega (arith, e))
at-length (z ∷ xs) (y ∷ ys) zero x e at = (y, refl)
at-length (z ∷ xs) (y ∷ ys) (suc n) x e at = at-length xs ys n x (omega (arith, e)) at

counted-listed : (first : ℕ) (bag : BagPairs) → map (λ p. p.0.0) (counted_pairs first bag) ≡ map (λ p. p.0.0) bag
counted-listed first [] = refl
counted-listed first (p ∷ ps) = ap (λ ks. p.0.0 ∷ ks) (counted-listed first ps)

alike-map : {A B : Type 0} (f : A → B) (R : B → B → Type 0) (F G : Forest A) → AreAlike (λ a b. R (f a) (f b)) F G → AreAlike R (map_forest f F) (map_forest f G)
alike-map f R empty empty h = tt
alike-map f R empty (tree b others rest) h = absurd h
alike-map f R (tree a kids more) empty h = absurd h
alike-map f R (tree a kids more) (tree b others rest) h = (h.0, alike-map f R kids others h.1, alike-map f R more rest h.2)

matches-from : (Q : Node Slot → Node BagPairs → Type 0) (K : Node BagPairs → Node BagPairs → Type 0) (n : ℕ) (xs ys : List TreeNode) → length ys ≡ length xs
    → ((i : ℕ) (x y : TreeNode) → slice_get xs i ≡ Some x → slice_get ys i ≡ Some y → (y.parent ≡ x.parent) × Q (slots_in (slots_at (n + i))) (bags_of y) × K (bags_of x) (bags_of y)) → Matches Q K n xs ys
matches-from Q K n [] [] e each = tt
matches-from Q K n [] (y ∷ ys) e each = absurd (omega (arith, e))
matches-from Q K n (x ∷ xs) [] e each = absurd (omega (arith, e))
matches-from Q K n (x ∷ xs) (y ∷ ys) e each =
    let here = each 0 x y refl refl in
    let zeroth : n + 0 ≡ n = omega arith in (
      here.0,
      subst (λ k. Q (slots_in (slots_at k)) (bags_of y)) zeroth here.1,
      here.2,
      matches-from Q K (suc n) xs ys (omega (arith, e)) (λ i z w at there.
          let r = each (suc i) z w at there in
          let next : n + suc i ≡ suc n + i = omega arith in
          (r.0, subst (λ k. Q (slots_in (slots_at k)) (bags_of w)) next r.1, r.2)),
    )

-- ---- what stands for a term is its root

module _ (NE : List (Assertion ℕ ℕ)) (agrees : Agrees NE) where
  stands-root : (z : net.Term ℕ) (v : Term) → StandsFor NE z v → term_of v ≡ term_root NE z
  stands-root z v h = ap term_of (stands_one NE z z v (term_from (term_root NE z)) agrees (same z) h (least_stands NE z)) ∙ term_of-term_from (term_root NE z)

  terms-root : (zs : List (net.Term ℕ)) (vs : List Term) → AllZip (StandsFor NE) zs vs → map term_of vs ≡ map (term_root NE) zs
  terms-root [] [] h = refl
  terms-root [] (v ∷ vs) h = absurd h
  terms-root (z ∷ zs) [] h = absurd h
  terms-root (z ∷ zs) (v ∷ vs) h = ap₂ (λ y ys. y ∷ ys) (stands-root z v h.0) (terms-root zs vs h.1)

  literal-root : (l : canonical.Literal (net.Term ℕ)) (k : Literal) → StandsForLiteral NE l k → literal_of k ≡ map_literal (term_root NE) l
  literal-root l k h =
      let a = stands-root l.handle k.handle h.handle in
      let b = stands-root l.pred k.pred h.pred in
      let c = terms-root l.args k.args h.args in
      λ i. record { handle = a i; pred = b i; args = c i }

  literals-root : (ls : List (canonical.Literal (net.Term ℕ))) (ks : List Literal) → AllZip (StandsForLiteral NE) ls ks → literals_of ks ≡ map (map_literal (term_root NE)) ls
  literals-root [] [] h = refl
  literals-root [] (k ∷ ks) h = absurd h
  literals-root (l ∷ ls) [] h = absurd h
  literals-root (l ∷ ls) (k ∷ ks) h = ap₂ (λ y ys. y ∷ ys) (literal-root l k h.0) (literals-root ls ks h.1)

module _ (t : Tree) (e : Entry) (first anchor : ℕ) (nodes : AreTreeNodes t.nodes) (one : marked ANCHOR (node_lists t.nodes) ≡ anchor ∷ []) (below : IsTreeBelow first t)
    (E : List code.Assertion) (equations : AreEquations t e first anchor E) (agrees : Agrees (network_of E)) (new : Tree) (joint : IsJointTree (network_of E) t e first anchor new) where
  abbrev N : List (Assertion Variable Slot)
  N = anchored_network nodes.forest t e

  abbrev NE : List (Assertion ℕ ℕ)
  NE = network_of E

  abbrev Joint : TreeSlot → ℕ → net.Term Variable → Type 0
  Joint = JointAt nodes.forest t e anchor one

  abbrev Added : TreeSlot → ℕ → net.Term ℕ → Type 0
  Added = AddedAt nodes.forest t e anchor one

  -- ---- all bags that were read are listed

  node-joint : (n : ℕ) (x : TreeNode) → slice_get t.nodes n ≡ Some x → (y : TreeNode) × IsJointNode NE x (added_at anchor n (counted_pairs first e.anchor)) y
  node-joint n x at = let r = at-length t.nodes new.nodes n x joint.nodes.as_many at in (r.0, joint.nodes.each n x r.0 at r.1)

  part-listed : (part : Part) (x y : TreeNode) (added : BagPairs) → IsJointNode NE x added y → IsListed (bag_of part x)
  part-listed own_part x y added h = h.own.bag_listed
  part-listed top_part x y added h = h.top.bag_listed
  part-listed bottom_part x y added h = h.bot.bag_listed

  listed : (s : TreeSlot) (bag : BagPairs) → IsBagAt t s bag → IsListed bag
  listed (at_node n part) bag h = let r = node-joint n h.0 h.1 in subst (λ b. IsListed b) (sym h.2) (part-listed part h.0 r.0 (added_at anchor n (counted_pairs first e.anchor)) r.1)
  listed at_interface bag h = subst (λ b. IsListed b) (sym h) joint.interface.bag_listed

  iface_listed : IsListed e.iface
  iface_listed = subst IsRising (counted-listed first e.iface) joint.interface.added_listed

  added-here : added_at anchor anchor (counted_pairs first e.anchor) ≡ counted_pairs first e.anchor
  added-here = ap (λ b. if b then counted_pairs first e.anchor else []) (eq-eqb anchor anchor refl)

  anchor_listed : IsListed e.anchor
  anchor_listed =
      let at = number-there 0 (is_marked ANCHOR) (node_lists t.nodes) anchor (subst (λ ks. IsAmong ks anchor) (sym one) (inl refl)) in
      let number : at.0 ≡ anchor = omega (arith, at.1) in
      let there = at-length (node_lists t.nodes) t.nodes at.0 at.2.0 (as_long t.nodes) at.2.1 in
      let node = node-joint anchor there.0 (subst (λ k. slice_get t.nodes k ≡ Some there.0) number there.1) in
      subst IsRising (counted-listed first e.anchor) (subst (λ b. IsListed b) added-here node.1.bot.added_listed)
    where
      as_long : (xs : List TreeNode) → length xs ≡ length (node_lists xs)
      as_long [] = refl
      as_long (x ∷ xs) = ap suc (as_long xs)

  -- what each term is written as
  abbrev W : net.Term Variable → net.Term ℕ
  W = written t e first anchor nodes one below E equations agrees listed iface_listed anchor_listed

  -- ---- slots

  lists-slot : (s : TreeSlot) (bag extra out : BagPairs) → IsBagAt t s bag → ((a : ℕ) (z : net.Term ℕ) → IsAmong (pairs_of extra) (a, z) → Added s a z) → ((a : ℕ) (z : net.Term ℕ) → Added s a z → IsAmong (pairs_of extra) (a, z))
      → IsJoint NE bag (counted_pairs first extra) out → ListsSlot N W (in_tree s) out
  lists-slot s bag extra out at forth return h = record {
    listed = h.listed;
    pairs = λ a v. (
      λ i.
          let r = pair-in out a v i in
          elim ((h.pairs (record { 0 = a }) r.0).0 r.1) [
            | inl w ↦ (
              tree_term (term_of w.0),
              joint-value nodes.forest t e anchor one s a (tree_term (term_of w.0)) (inl (term_of w.0, bag-pair t nodes s bag a (term_of w.0) at (pair-out bag a w.0 w.1), refl)),
              r.2 ∙ stands-root NE agrees (term_of w.0) r.0 w.2 ∙ ap (term_root NE) (sym (in_store-tree first (term_of w.0))),
            )
            | inr w ↦
                let y = counted-out first extra (record { 0 = a }) w.0 w.1 in (
                  entry_term (term_of y.0),
                  joint-value nodes.forest t e anchor one s a (entry_term (term_of y.0)) (inr (term_of y.0, forth a (term_of y.0) (pair-out extra a y.0 y.1), refl)),
                  r.2 ∙ stands-root NE agrees (term_of w.0) r.0 w.2 ∙ ap (λ k. term_root NE (term_of k)) y.2 ∙ ap (term_root NE) (sym (in_store-entry first y.0)),
                )
          ],
      λ (x, has, is). elim (value-joint nodes.forest t e anchor one (in_tree s) a x has) [
        | inl (z, pair, from) ↦
            let b = pair-bag t nodes s a z pair in
            let r = pair-in b.0 a z b.2 in
            let there : IsAmong bag (record { 0 = a }, r.0) = subst (λ k. IsAmong k (record { 0 = a }, r.0)) (one-bag t s b.0 bag b.1 at) r.1 in
            let root = term_root NE (term_of r.0) in
            let put = pair-out out a (term_from root) ((h.pairs (record { 0 = a }) (term_from root)).1 (inl (r.0, there, least_stands NE (term_of r.0)))) in
            let value : term_of (term_from root) ≡ v = term_of-term_from root ∙ ap (term_root NE) (sym (ap (in_store first) from ∙ in_store-tree first z ∙ r.2)) ∙ sym is in
            subst (λ k. IsAmong (pairs_of out) (a, k)) value put
        | inr (z, added, from) ↦
            let r = pair-in extra a z (return a z added) in
            let root = term_root NE (term_of (counted_from first r.0)) in
            let put =
            pair-out out a (term_from root) ((h.pairs (record { 0 = a }) (term_from root)).1 (inr (counted_from first r.0, counted-in first extra (record { 0 = a }) r.0 r.1, least_stands NE (term_of (counted_from first r.0)))))
            in
            let value : term_of (term_from root) ≡ v =
            term_of-term_from root ∙ ap (term_root NE) (sym (ap (in_store first) from ∙ ap (λ k. in_store first (entry_term k)) r.2 ∙ in_store-entry first r.0)) ∙ sym is
            in
            subst (λ k. IsAmong (pairs_of out) (a, k)) value put
      ],
    );
  }

  own-lists : (n : ℕ) (x y : TreeNode) → slice_get t.nodes n ≡ Some x → IsJoint NE x.own [] y.own → ListsSlot N W (in_tree (at_node n own_part)) y.own
  own-lists n x y at h = lists-slot (at_node n own_part) x.own [] y.own (x, at, refl) (λ a z i. absurd i) none h
    where
      none : (a : ℕ) (z : net.Term ℕ) → Added (at_node n own_part) a z → ⊥
      none a z (inl (there, i)) = cc
      none a z (inr (there, i)) = cc

  top-lists : (n : ℕ) (x y : TreeNode) → slice_get t.nodes n ≡ Some x → IsJoint NE x.top [] y.top → ListsSlot N W (in_tree (at_node n top_part)) y.top
  top-lists n x y at h = lists-slot (at_node n top_part) x.top [] y.top (x, at, refl) (λ a z i. absurd i) none h
    where
      none : (a : ℕ) (z : net.Term ℕ) → Added (at_node n top_part) a z → ⊥
      none a z (inl (there, i)) = cc
      none a z (inr (there, i)) = cc

  bottom-lists : (n : ℕ) (x y : TreeNode) → slice_get t.nodes n ≡ Some x → IsJoint NE x.bot (added_at anchor n (counted_pairs first e.anchor)) y.bot → ListsSlot N W (in_tree (at_node n bottom_part)) y.bot
  bottom-lists n x y at h = elim (eqb_tells n anchor) [
    | inl k ↦
        let is : added_at anchor n (counted_pairs first e.anchor) ≡ counted_pairs first e.anchor = ap (λ b. if b then counted_pairs first e.anchor else []) k.0 in
        lists-slot (at_node n bottom_part) x.bot e.anchor y.bot (x, at, refl) (λ a z i. inr (ap (λ m. at_node m bottom_part) k.1, i)) taken (subst (λ ps. IsJoint NE x.bot ps y.bot) is h)
    | inr k ↦
        let is : added_at anchor n (counted_pairs first e.anchor) ≡ [] = ap (λ b. if b then counted_pairs first e.anchor else []) k.0 in
        lists-slot (at_node n bottom_part) x.bot [] y.bot (x, at, refl) (λ a z i. absurd i) (none k.1) (subst (λ ps. IsJoint NE x.bot ps y.bot) is h)
  ]
    where
      taken : (a : ℕ) (z : net.Term ℕ) → Added (at_node n bottom_part) a z → IsAmong (pairs_of e.anchor) (a, z)
      taken a z (inl (there, i)) = absurd cc
      taken a z (inr (there, i)) = i

      none : (n ≡ anchor → ⊥) → (a : ℕ) (z : net.Term ℕ) → Added (at_node n bottom_part) a z → ⊥
      none apart a z (inl (there, i)) = cc
      none apart a z (inr (there, i)) = let number : n ≡ anchor = cc in apart number

  interface-lists : ListsSlot N W (in_tree at_interface) new.iface
  interface-lists = lists-slot at_interface t.iface e.iface new.iface refl (λ a z i. inl (refl, i)) taken joint.interface
    where
      taken : (a : ℕ) (z : net.Term ℕ) → Added at_interface a z → IsAmong (pairs_of e.iface) (a, z)
      taken a z (inl (there, i)) = i
      taken a z (inr (there, i)) = absurd cc

  -- ---- literals

  tree-terms : (zs : List Term) → map (term_root NE) (map term_of zs) ≡ map W (map tree_term (map term_of zs))
  tree-terms [] = refl
  tree-terms (z ∷ zs) = ap₂ (λ y ys. y ∷ ys) (ap (term_root NE) (sym (in_store-tree first (term_of z)))) (tree-terms zs)

  entry-terms : (zs : List Term) → map (term_root NE) (map term_of (map (counted_from first) zs)) ≡ map W (map entry_term (map term_of zs))
  entry-terms [] = refl
  entry-terms (z ∷ zs) = ap₂ (λ y ys. y ∷ ys) (ap (term_root NE) (sym (in_store-entry first z))) (entry-terms zs)

  tree-literals : (ls : List Literal) → map (map_literal (term_root NE)) (literals_of ls) ≡ map (map_literal W) (map (map_literal tree_term) (literals_of ls))
  tree-literals [] = refl
  tree-literals (l ∷ ls) =
      let a = ap (term_root NE) (sym (in_store-tree first (term_of l.handle))) in
      let b = ap (term_root NE) (sym (in_store-tree first (term_of l.pred))) in
      let c = tree-terms l.args in
      let rest = tree-literals ls in
      λ i. record { handle = a i; pred = b i; args = c i } ∷ rest i

  entry-literals : (ls : List Literal) → map (map_literal (term_root NE)) (literals_of (counted_literals first ls)) ≡ map (map_literal W) (map (map_literal entry_term) (literals_of ls))
  entry-literals [] = refl
  entry-literals (l ∷ ls) =
      let a = ap (term_root NE) (sym (in_store-entry first l.handle)) in
      let b = ap (term_root NE) (sym (in_store-entry first l.pred)) in
      let c = entry-terms l.args in
      let rest = entry-literals ls in
      λ i. record { handle = a i; pred = b i; args = c i } ∷ rest i

  literals-are : literals_of new.sem ≡ map (map_literal W) (map (map_literal tree_term) (literals_of t.sem) ++ map (map_literal entry_term) (literals_of e.sem))
  literals-are =
      literals-root NE agrees (literals_of (t.sem ++ counted_literals first e.sem)) new.sem joint.literals
      ∙ ap (map (map_literal (term_root NE))) (map-append literal_of t.sem (counted_literals first e.sem))
      ∙ map-append (map_literal (term_root NE)) (literals_of t.sem) (literals_of (counted_literals first e.sem))
      ∙ ap₂ (λ xs ys. xs ++ ys) (tree-literals t.sem) (entry-literals e.sem)
      ∙ sym (map-append (map_literal W) (map (map_literal tree_term) (literals_of t.sem)) (map (map_literal entry_term) (literals_of e.sem)))

  -- ---- the values that are met come back from the store

  abbrev F : net.Term Variable → Type 0
  F = Fits t e first anchor nodes one below

  tree-args : (zs : List Term) → Each (IsMade first) zs → Each F (map tree_term (map term_of zs))
  tree-args [] h = tt
  tree-args (z ∷ zs) h = (tree-fits t e first anchor nodes one below z h.0, tree-args zs h.1)

  entry-args : (zs : List Term) → Each F (map entry_term (map term_of zs))
  entry-args [] = tt
  entry-args (z ∷ zs) = (entry-fits t e first anchor nodes one below z, entry-args zs)

  tree-fit : (ls : List Literal) → Each (IsLiteralBelow first) ls → Each (λ l. Each F (literal_terms l)) (map (map_literal tree_term) (literals_of ls))
  tree-fit [] h = tt
  tree-fit (l ∷ ls) h = ((tree-fits t e first anchor nodes one below l.handle h.0.handle, (tree-fits t e first anchor nodes one below l.pred h.0.pred, tree-args l.args h.0.args)), tree-fit ls h.1)

  entry-fit : (ls : List Literal) → Each (λ l. Each F (literal_terms l)) (map (map_literal entry_term) (literals_of ls))
  entry-fit [] = tt
  entry-fit (l ∷ ls) = ((entry-fits t e first anchor nodes one below l.handle, (entry-fits t e first anchor nodes one below l.pred, entry-args l.args)), entry-fit ls)

  met-fits : (x : net.Term Variable) → IsMet N (anchored_tree nodes.forest t e) x → F x
  met-fits x (inl (s, a, i, has)) =
      joint-fits t e first anchor nodes one below (base nodes.forest t e anchor one s) a x (value-joint nodes.forest t e anchor one s a x has)
  met-fits x (inr i) =
      let all = map (map_literal tree_term) (literals_of t.sem) ++ map (map_literal entry_term) (literals_of e.sem) in
      let r = IsAmong-gathered_from literal_terms all x i in
      let each = Each-append (λ l. Each F (literal_terms l)) (map (map_literal tree_term) (literals_of t.sem)) (map (map_literal entry_term) (literals_of e.sem)) (tree-fit t.sem below.sem) (entry-fit e.sem) in
      Each-at F (literal_terms r.0) x (Each-at (λ l. Each F (literal_terms l)) all r.0 each r.1) r.2

  -- ---- the tree

  abbrev Q : Node Slot → Node BagPairs → Type 0
  Q slots bags = ListsNode N W slots bags

  abbrev K : Node BagPairs → Node BagPairs → Type 0
  K old out = HasNamedMarks t → Keeps (lists_of old) (lists_of out)

  named-node : (xs : List TreeNode) → Each IsNamedMark (node_lists xs) → (n : ℕ) (x : TreeNode) → slice_get xs n ≡ Some x → IsNamedMark (lists_at x)
  named-node xs h n x at = by xs h (IsAmong-slice_get xs n x at)
    where
      by : (xs : List TreeNode) → Each IsNamedMark (node_lists xs) → IsAmong xs x → IsNamedMark (lists_at x)
      by [] h i = absurd i
      by (z ∷ zs) h (inl is) = subst (λ w. IsNamedMark (lists_at w)) (sym is) h.0
      by (z ∷ zs) h (inr i) = by zs h.1 i

  pub marks-named : HasNamedMarks t → HasNamedMarks new
  marks-named named = each-mapped IsNamedMark lists_at new.nodes (λ n y there.
      let old = at-length new.nodes t.nodes n y (sym joint.nodes.as_many) there in
      node-named NE agrees old.0.own y.own (joint.nodes.each n old.0 y old.1 there).own (bags_of old.0) (bags_of y) refl refl (named-node t.nodes named n old.0 old.1))

  matches : Matches Q K 0 t.nodes new.nodes
  matches =
      matches-from Q K 0 t.nodes new.nodes joint.nodes.as_many
      (λ n x y at there.
      let h = joint.nodes.each n x y at there in
      let number : n ≡ 0 + n = omega arith in (
        h.parent,
        subst (λ k. Q (slots_in (slots_at k)) (bags_of y)) number (record { own = own-lists n x y at h.own; top = top-lists n x y at h.top; bottom = bottom-lists n x y at h.bot }),
        λ named. node-keeps NE agrees x.own y.own h.own (bags_of x) (bags_of y) refl refl (named-node t.nodes named n x at),
      ))

  tree-built : IsBuilt Q K 0 None nodes.forest new.nodes
  tree-built = built Q K 0 None nodes.forest new.nodes (subst (λ xs. Matches Q K 0 xs new.nodes) nodes.laid matches)

  new-nodes : AreTreeNodes new.nodes
  new-nodes = record {
    forest = tree-built.forest;
    one = IsOneTree-alike K nodes.forest tree-built.forest tree-built.kept nodes.one;
    few = subst (λ k. k ≤ 24) (sym joint.nodes.as_many) nodes.few;
    laid = tree-built.laid;
  }

  pub is-over : IsTreeOver N (anchored_tree nodes.forest t e) new
  unfolding new-nodes
  is-over = record {
    written = W;
    exact = record {
      linked = linked-written t e first anchor nodes one below E equations agrees listed iface_listed anchor_listed;
      classes = λ x y mx my. written-linked t e first anchor nodes one below E equations agrees listed iface_listed anchor_listed x y (met-fits x mx) (met-fits y my);
      names = λ x a mx. written-name t e first anchor nodes one below E equations agrees listed iface_listed anchor_listed x a (met-fits x mx);
      origin = owner first;
      home = λ x mx. written-home t e first anchor nodes one below E equations agrees listed iface_listed anchor_listed x (met-fits x mx);
    };
    nodes = new-nodes;
    bags = tree-built.slots;
    interface = interface-lists;
    literals = literals-are;
  }

  pub is-agreeing : Agrees N
  is-agreeing = network-agrees t e first anchor nodes one below E equations agrees listed iface_listed anchor_listed

  forests-alike : HasNamedMarks t → AreAlike Keeps (map_forest lists_of nodes.forest) (map_forest lists_of tree-built.forest)
  forests-alike named =
      alike-map lists_of Keeps nodes.forest tree-built.forest
      (AreAlike-weaker K (λ old out. Keeps (lists_of old) (lists_of out)) (λ old out keeps. keeps named) nodes.forest tree-built.forest tree-built.kept)

  pub leaves-kept : HasNamedMarks t → marked COANCHOR (node_lists new.nodes) ≡ co_leaves t
  unfolding new-nodes
  leaves-kept named =
      ap (marked COANCHOR) (sym (labels-nodes new.nodes new-nodes)) ∙ marked-kept (map_forest lists_of nodes.forest) (map_forest lists_of tree-built.forest) (forests-alike named) COANCHOR ∙ ap (marked COANCHOR) (labels-nodes t.nodes nodes)

-- so the tree that is written is that of the tree and the entry
pub anchored-tree : (t : Tree) (e : Entry) (first anchor : ℕ) → IsWellFormedTree t → marked ANCHOR (node_lists t.nodes) ≡ anchor ∷ [] → IsTreeBelow first t
    → (E : List code.Assertion) → AreEquations t e first anchor E → Agrees (network_of E) → (new : Tree) → IsJointTree (network_of E) t e first anchor new → IsAnchoredTree t e new
unfolding new-nodes
anchored-tree t e first anchor well one below E equations agrees new joint = record {
  agrees = λ nodes. is-agreeing t e first anchor nodes one below E equations agrees new joint;
  over = λ nodes. is-over t e first anchor nodes one below E equations agrees new joint;
  well_formed = λ named. record {
    nodes = new-nodes t e first anchor well.nodes one below E equations agrees new joint;
    well_formed =
        well_formed-kept (map_forest lists_of well.nodes.forest) (map_forest lists_of (tree-built t e first anchor well.nodes one below E equations agrees new joint).forest)
        (forests-alike t e first anchor well.nodes one below E equations agrees new joint named) well.well_formed;
  };
  named = marks-named t e first anchor well.nodes one below E equations agrees new joint;
  leaves = leaves-kept t e first anchor well.nodes one below E equations agrees new joint;
}
