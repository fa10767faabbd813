-- A tree over a network stays so when its variables are renamed, no two alike, and it keeps its shape, its names and its marks.
use Rattle.std.specs.Prelude.{◌≡◌, ℕ, suc, ◌+◌, ◌≤◌, List, [], ◌∷◌, ◌++◌, map, length, Bool, true, false, Option, Some, None, ◌==◌, if◌then◌else◌, refl}
use Rattle.std.specs.List.{AllZip}
use Rattle.std.proofs.Common.{ap, ap₂, subst, sym, ◌∙◌}
use Rattle.std.proofs.lemmas.List.{map-append}
use Rattle.gr_base.specs.Lists.{IsAmong, IsRising, Each}
use Rattle.gr_base.specs.Forests.{Forest, empty, tree, size, map_forest, AreAlike, IsOneTree}
use Rattle.gr_base.proofs.ListLemmas.{IsAmong-map, IsAmong-map_from}
use Rattle.gr_terms.specs.BagViews.{pairs_of}
use Rattle.gr_terms.specs.Canonical as canonical
use Rattle.gr_terms.specs.Canonical.{Decorated, IsMet, Node, map_literal}
use Rattle.gr_terms.specs.Constants.{CAT, COANCHOR, MARK}
use Rattle.gr_terms.specs.LiteralViews.{literal_of, literals_of}
use Rattle.gr_terms.specs.Networks as net
use Rattle.gr_terms.specs.Networks.{Assertion, AreLinked, HasValue, name, variable, put_term}
use Rattle.gr_terms.specs.Views.{term_of}
use Rattle.gr_terms.specs.declared.Literal.{Literal}
use Rattle.gr_terms.specs.declared.Sym.{Sym}
use Rattle.gr_terms.specs.declared.Term.{Term}
use Rattle.gr_terms.specs.declared.Term.TheVariants.{Const, Var}
use Rattle.td_tree.specs.Trees.{AreTreeNodes, BagPairs, node_of, preorder}
use Rattle.td_tree.specs.TreeViews.{Pairs, lists_of}
use Rattle.td_tree.specs.declared.Tree.{Tree}
use Rattle.td_tree.specs.declared.TreeNode.{TreeNode}
use Rattle.td_canon.specs.Renaming.{rename_bag, rename_literal, rename_node, rename_term, rename_tree}
use Rattle.tg_grammar.specs.Marks.{is_number, name_of, node_lists, value_of}
use Rattle.tg_grammar.specs.NamedMarks.{IsNamedMark}
use Rattle.tg_grammar.specs.Shapes.{IsWellFormedTree}
use Rattle.lx_lexicon.specs.declared.entry.Entry.{Entry}
use Rattle.lx_anchor.specs.Numberings.{IsNumberedTree}
use Rattle.lx_anchor.specs.Rows.{IsAnchored, IsAnchoredTree}
use Rattle.lx_anchor.specs.TreesOver.{AreWritten, IsTreeOver, ListsNode, ListsSlot}
use Rattle.lx_anchor.proofs.ShapeKeeping.{Keeps, well_formed-kept, zip-marked}

named-variable : {P : Type 0} (a v : ℕ) → ◌≡◌ {A = net.Term ℕ} (name a) (variable v) → P
named-variable a v e = absurd cc

some-named-variable : {P : Type 0} (a v : ℕ) → ◌≡◌ {A = Option (net.Term ℕ)} (Some (name a)) (Some (variable v)) → P
some-named-variable a v e = absurd cc

one-mapped : {A B : Type 0} (h : A → B) (F : Forest A) → IsOneTree F → IsOneTree (map_forest h F)
one-mapped h empty one = one
one-mapped h (tree a kids empty) one = tt
one-mapped h (tree a kids (tree b others more)) one = one

length-mapped : {A B : Type 0} (h : A → B) (xs : List A) → length (map h xs) ≡ length xs
length-mapped h [] = refl
length-mapped h (x ∷ xs) = ap suc (length-mapped h xs)

alike-mapped : {A B C : Type 0} (R : A → B → Type 0) (S : A → C → Type 0) (h : B → C) → ((a : A) (b : B) → R a b → S a (h b)) → (F : Forest A) (G : Forest B) → AreAlike R F G → AreAlike S F (map_forest h G)
alike-mapped R S h each empty empty k = tt
alike-mapped R S h each empty (tree b others rest) k = absurd k
alike-mapped R S h each (tree a kids more) empty k = absurd k
alike-mapped R S h each (tree a kids more) (tree b others rest) k = (each a b k.0, alike-mapped R S h each kids others k.1, alike-mapped R S h each more rest k.2)

module _ (f : ℕ → ℕ) where
  abbrev F : net.Term ℕ → net.Term ℕ
  F x = put_term (λ v. variable (f v)) x

  abbrev renamed_pair : ℕ × net.Term ℕ → ℕ × net.Term ℕ
  renamed_pair q = (q.0, F q.1)

  term-renamed : (z : Term) → term_of (rename_term f z) ≡ F (term_of z)
  term-renamed (Const s) = refl
  term-renamed (Var v) = refl

  pairs-renamed : (bag : BagPairs) → pairs_of (rename_bag f bag) ≡ map renamed_pair (pairs_of bag)
  pairs-renamed [] = refl
  pairs-renamed (p ∷ bag) = ap₂ (λ (z : net.Term ℕ) zs. (p.0.0, z) ∷ zs) (term-renamed p.1) (pairs-renamed bag)

  args-renamed : (zs : List Term) → map term_of (map (rename_term f) zs) ≡ map F (map term_of zs)
  args-renamed [] = refl
  args-renamed (z ∷ zs) = ap₂ (λ y ys. y ∷ ys) (term-renamed z) (args-renamed zs)

  literal-renamed : (l : Literal) → literal_of (rename_literal f l) ≡ map_literal F (literal_of l)
  literal-renamed l =
      let a = term-renamed l.handle in
      let b = term-renamed l.pred in
      let c = args-renamed l.args in
      λ i. record { handle = a i; pred = b i; args = c i }

  literals-renamed : (ls : List Literal) → literals_of (map (rename_literal f) ls) ≡ map (map_literal F) (literals_of ls)
  literals-renamed [] = refl
  literals-renamed (l ∷ ls) = ap₂ (λ y ys. y ∷ ys) (literal-renamed l) (literals-renamed ls)

  attributes-renamed : (bag : BagPairs) → map (λ (p : Sym × Term). p.0.0) bag ≡ map (λ (p : Sym × Term). p.0.0) (rename_bag f bag)
  attributes-renamed [] = refl
  attributes-renamed (p ∷ bag) = ap (λ ns. p.0.0 ∷ ns) (attributes-renamed bag)

  -- ---- nodes

  abbrev rename_slots : Node BagPairs → Node BagPairs
  rename_slots b = record { own = rename_bag f b.own; top = rename_bag f b.top; bottom = rename_bag f b.bottom }

  size-renamed : (G : Forest (Node BagPairs)) → size (map_forest rename_slots G) ≡ size G
  size-renamed empty = refl
  size-renamed (tree b kids more) = ap₂ (λ i j. suc (i + j)) (size-renamed kids) (size-renamed more)

  preorder-renamed : (n : ℕ) (parent : Option ℕ) (G : Forest (Node BagPairs)) → preorder n parent (map_forest rename_slots G) ≡ map (rename_node f) (preorder n parent G)
  preorder-renamed n parent empty = refl
  preorder-renamed n parent (tree b kids more) =
      ap (λ xs. node_of parent (rename_slots b) ∷ xs)
      (ap₂ (λ xs k. xs ++ preorder (suc n + k) parent (map_forest rename_slots more)) (preorder-renamed (suc n) (Some n) kids) (size-renamed kids)
      ∙ ap (λ ys. map (rename_node f) (preorder (suc n) (Some n) kids) ++ ys) (preorder-renamed (suc n + size kids) parent more)
      ∙ sym (map-append (rename_node f) (preorder (suc n) (Some n) kids) (preorder (suc n + size kids) parent more)))

  new-nodes : (nodes : List TreeNode) → AreTreeNodes nodes → AreTreeNodes (map (rename_node f) nodes)
  new-nodes nodes h = record {
    forest = map_forest rename_slots h.forest;
    one = one-mapped rename_slots h.forest h.one;
    few = subst (λ n. n ≤ 24) (sym (length-mapped (rename_node f) nodes)) h.few;
    laid = ap (map (rename_node f)) h.laid ∙ sym (preorder-renamed 0 None h.forest);
  }

  -- ---- names and marks are kept

  name-kept : (x : net.Term ℕ) → name_of (Some (F x)) ≡ name_of (Some x)
  name-kept (name a) = refl
  name-kept (variable v) = refl

  either-kept : (b : Bool) (x : net.Term ℕ) (new old : Option (net.Term ℕ)) → name_of new ≡ name_of old → name_of (if b then Some (F x) else new) ≡ name_of (if b then Some x else old)
  either-kept true x new old e = name-kept x
  either-kept false x new old e = e

  value-kept : (ps : Pairs) (a : ℕ) → name_of (value_of (map renamed_pair ps) a) ≡ name_of (value_of ps a)
  value-kept [] a = refl
  value-kept (p ∷ ps) a = either-kept (p.0 == a) p.1 (value_of (map renamed_pair ps) a) (value_of ps a) (value-kept ps a)

  bag-kept : (bag : BagPairs) (a : ℕ) → name_of (value_of (pairs_of (rename_bag f bag)) a) ≡ name_of (value_of (pairs_of bag) a)
  bag-kept bag a = ap (λ ps. name_of (value_of ps a)) (pairs-renamed bag) ∙ value-kept (pairs_of bag) a

  either-variable : (b : Bool) (x : net.Term ℕ) (new old : Option (net.Term ℕ)) → ((v : ℕ) → new ≡ Some (variable v) → (w : ℕ) × (old ≡ Some (variable w)))
      → (v : ℕ) → (if b then Some (F x) else new) ≡ Some (variable v) → (w : ℕ) × ((if b then Some x else old) ≡ Some (variable w))
  either-variable true (name a) new old h v e = some-named-variable a v e
  either-variable true (variable u) new old h v e = (u, refl)
  either-variable false x new old h v e = h v e

  variable-before : (ps : Pairs) (a v : ℕ) → value_of (map renamed_pair ps) a ≡ Some (variable v) → (w : ℕ) × (value_of ps a ≡ Some (variable w))
  variable-before [] a v e = absurd cc
  variable-before (p ∷ ps) a v e = either-variable (p.0 == a) p.1 (value_of (map renamed_pair ps) a) (value_of ps a) (λ w h. variable-before ps a w h) v e

  node-named : (x : TreeNode) → IsNamedMark (record { own = pairs_of x.own; top = pairs_of x.top; bottom = pairs_of x.bot })
      → (v : ℕ) → value_of (pairs_of (rename_bag f x.own)) MARK ≡ Some (variable v) → ⊥
  node-named x named v e =
      let r = variable-before (pairs_of x.own) MARK v (sym (ap (λ ps. value_of ps MARK) (pairs-renamed x.own)) ∙ e) in
      named r.0 r.1

  marks-named : (nodes : List TreeNode) → Each IsNamedMark (node_lists nodes) → Each IsNamedMark (node_lists (map (rename_node f) nodes))
  marks-named [] h = tt
  marks-named (x ∷ nodes) h = (node-named x h.0, marks-named nodes h.1)

  slots-keep : (b : Node BagPairs) → Keeps (lists_of b) (lists_of (rename_slots b))
  slots-keep b = record { marks = λ m. ap (λ o. is_number o m) (bag-kept b.own MARK); category = λ a e. bag-kept b.own CAT ∙ e }

  forest-keeps : (G : Forest (Node BagPairs)) → AreAlike Keeps (map_forest lists_of G) (map_forest lists_of (map_forest rename_slots G))
  forest-keeps empty = tt
  forest-keeps (tree b kids more) = (slots-keep b, forest-keeps kids, forest-keeps more)

  nodes-keep : (nodes : List TreeNode) → AllZip Keeps (node_lists nodes) (node_lists (map (rename_node f) nodes))
  nodes-keep [] = tt
  nodes-keep (x ∷ nodes) = (slots-keep (record { own = x.own; top = x.top; bottom = x.bot }), nodes-keep nodes)

  well_formed-renamed : (t : Tree) → IsWellFormedTree t → IsWellFormedTree (rename_tree f t)
  unfolding new-nodes
  well_formed-renamed t h = record {
    nodes = new-nodes t.nodes h.nodes;
    well_formed = well_formed-kept (map_forest lists_of h.nodes.forest) (map_forest lists_of (map_forest rename_slots h.nodes.forest)) (forest-keeps h.nodes.forest) h.well_formed;
  }

  -- ---- the tree over the network

  module _ (g : ℕ → ℕ) (undone : (v : ℕ) → g (f v) ≡ v) where
    abbrev G : net.Term ℕ → net.Term ℕ
    G x = put_term (λ v. variable (g v)) x

    term-undone : (x : net.Term ℕ) → G (F x) ≡ x
    term-undone (name a) = refl
    term-undone (variable v) = ap variable (undone v)

    name-before : (x : net.Term ℕ) (a : ℕ) → F x ≡ name a → x ≡ name a
    name-before (name b) a e = e
    name-before (variable v) a e = named-variable a (f v) (sym e)

    home-before : {V : Type 0} (origin : ℕ → V) (x : net.Term ℕ) → put_term (λ v. variable (origin v)) x ≡ put_term (λ v. variable (origin (g v))) (F x)
    home-before origin (name a) = refl
    home-before origin (variable v) = ap (λ n. variable (origin n)) (sym (undone v))

    module _ {V S : Type 0} (N : List (Assertion V S)) where
      written-renamed : (met : net.Term V → Type 0) (written : net.Term V → net.Term ℕ) → AreWritten N met written → AreWritten N met (λ x. F (written x))
      written-renamed met written h = record {
        linked = λ x y k. ap F (h.linked x y k);
        classes = λ x y mx my e. h.classes x y mx my (sym (term-undone (written x)) ∙ ap G e ∙ term-undone (written y));
        names = λ x a mx. (λ e. (h.names x a mx).0 (name-before (written x) a e), λ k. ap F ((h.names x a mx).1 k));
        origin = λ n. h.origin (g n);
        home = λ x mx. subst (λ z. AreLinked N x z) (home-before h.origin (written x)) (h.home x mx);
      }

      slot-renamed : (written : net.Term V → net.Term ℕ) (s : S) (bag : BagPairs) → ListsSlot N written s bag → ListsSlot N (λ x. F (written x)) s (rename_bag f bag)
      slot-renamed written s bag h = record {
        listed = subst IsRising (attributes-renamed bag) h.listed;
        pairs = λ a v. (
          λ i.
              let r = IsAmong-map_from renamed_pair (pairs_of bag) (a, v) (subst (λ ps. IsAmong ps (a, v)) (pairs-renamed bag) i) in
              let k = (h.pairs r.0.0 r.0.1).0 r.1 in
              (k.0, subst (λ b. HasValue N s b k.0) (sym (ap (λ (q : ℕ × net.Term ℕ). q.0) r.2)) k.1, ap (λ (q : ℕ × net.Term ℕ). q.1) r.2 ∙ ap F k.2),
          λ k.
              let there = (h.pairs a (written k.0)).1 (k.0, k.1, refl) in
              subst (λ ps. IsAmong ps (a, v)) (sym (pairs-renamed bag))
              (subst (λ z. IsAmong (map renamed_pair (pairs_of bag)) (a, z)) (sym k.2) (IsAmong-map renamed_pair (pairs_of bag) (a, written k.0) there)),
        );
      }

      node-renamed : (written : net.Term V → net.Term ℕ) (slots : Node S) (bags : Node BagPairs) → ListsNode N written slots bags → ListsNode N (λ x. F (written x)) slots (rename_slots bags)
      node-renamed written slots bags h = record {
        own = slot-renamed written slots.own bags.own h.own;
        top = slot-renamed written slots.top bags.top h.top;
        bottom = slot-renamed written slots.bottom bags.bottom h.bottom;
      }

      map-twice : (written : net.Term V → net.Term ℕ) (ls : List (canonical.Literal (net.Term V))) → map (map_literal F) (map (map_literal written) ls) ≡ map (map_literal (λ x. F (written x))) ls
      map-twice written [] = refl
      map-twice written (l ∷ ls) =
          let args = args-twice l.args in
          ap₂ (λ y ys. y ∷ ys) (λ i. record { handle = F (written l.handle); pred = F (written l.pred); args = args i }) (map-twice written ls)
        where
          args-twice : (xs : List (net.Term V)) → map F (map written xs) ≡ map (λ x. F (written x)) xs
          args-twice [] = refl
          args-twice (x ∷ xs) = ap (λ ys. F (written x) ∷ ys) (args-twice xs)

      pub over-renamed : (u : Decorated S (net.Term V)) (t : Tree) → IsTreeOver N u t → IsTreeOver N u (rename_tree f t)
      unfolding new-nodes
      over-renamed u t h = record {
        written = λ x. F (h.written x);
        exact = written-renamed (IsMet N u) h.written h.exact;
        nodes = new-nodes t.nodes h.nodes;
        bags = alike-mapped (ListsNode N h.written) (ListsNode N (λ x. F (h.written x))) rename_slots (node-renamed h.written) u.nodes h.nodes.forest h.bags;
        interface = slot-renamed h.written u.interface t.iface h.interface;
        literals = literals-renamed t.sem ∙ ap (map (map_literal F)) h.literals ∙ map-twice h.written u.literals;
      }

pub anchored-renamed : (t : Tree) (e : Entry) (f g : ℕ → ℕ) (joint : Tree) → ((v : ℕ) → g (f v) ≡ v) → IsAnchoredTree t e joint → IsAnchoredTree t e (rename_tree f joint)
anchored-renamed t e f g joint undone h = record {
  agrees = h.agrees;
  over = λ nodes. over-renamed f g undone _ _ joint (h.over nodes);
  well_formed = λ named. well_formed-renamed f joint (h.well_formed named);
  named = λ named. marks-named f joint.nodes (h.named named);
  leaves = λ named. zip-marked COANCHOR 0 (node_lists joint.nodes) (node_lists (map (rename_node f) joint.nodes)) (nodes-keep f joint.nodes) ∙ h.leaves named;
}

-- the tree with its variables numbered is that of the tree and the entry
pub anchored-numbered : (t : Tree) (e : Entry) (joint new : Tree) → IsAnchoredTree t e joint → IsNumberedTree joint new → IsAnchored t e (Some new)
anchored-numbered t e joint new h n = (subst (λ u. IsAnchoredTree t e u) n.renamed (anchored-renamed t e n.there n.back joint n.undone h), n.dense)
