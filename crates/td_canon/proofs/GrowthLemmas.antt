-- More names in the table change no text.
use Rattle.std.specs.Prelude.{◌≡◌, ℕ, suc, ◌+◌, ◌<◌, ◌≤◌, Bool, true, false, ◌==◌, List, [], ◌∷◌, ◌++◌, map, length, codes, Option, Some, None, ⊤, if◌then◌else◌, refl}
use Rattle.std.specs.List.{join_with_byte}
use Rattle.std.proofs.Common.{inl, inr, ap, ap₂, sym, ◌∙◌, subst, arith, length-append}
use Rattle.gr_base.specs.Lists.{IsAmong, Each, NoneTwice, gathered}
use Rattle.gr_base.specs.Forests.{Forest, empty, tree, labels, map_forest, size}
use Rattle.gr_base.proofs.ListLemmas.{Each-at, Each-append, Each-left, Each-members, Each-right, IsAmong-append_left, IsAmong-map_from}
use Rattle.gr_symbols.specs.Numbers.{Grows}
use Rattle.gr_symbols.proofs.NumberLemmas.{Names-grows}
use Rattle.gr_terms.specs.Bags.{IsListed}
use Rattle.gr_terms.specs.BagViews.{pairs_of}
use Rattle.gr_terms.specs.Canonical as canonical
use Rattle.gr_terms.specs.Canonical.{Decorated, Label, Literal, Node, category, properties, literal_terms, map_literal}
use Rattle.gr_terms.specs.Constants.{CAT}
use Rattle.gr_terms.specs.LiteralViews.{literal_of, literals_of}
use Rattle.gr_terms.specs.Networks.{Term}
use Rattle.gr_terms.specs.Views.{term_of}
use Rattle.gr_terms.specs.declared.Literal.{Literal as CodeLiteral}
use Rattle.gr_terms.specs.declared.Sym.{Sym}
use Rattle.gr_terms.specs.declared.Term.{Term as Value}
use Rattle.gr_terms.specs.declared.Term.TheVariants.{Const, Var}
use Rattle.td_tree.specs.Trees.{BagPairs, IsListedNode, node_of, preorder}
use Rattle.td_tree.specs.TreeNetworks.{slotted, tree_network}
use Rattle.td_tree.specs.TreeViews.{Pairs, decorated_of, lists_of}
use Rattle.td_tree.specs.declared.Tree.{Tree}
use Rattle.td_tree.specs.declared.TreeNode.{TreeNode}
use Rattle.td_canon.specs.CanonicalTexts.{HasText, IsListedTree, IsNamedBag, IsNamedLiteral, IsNamedNode, IsNamedTerm, IsNamedTree, text_in}
use Rattle.td_canon.specs.TreeSets.{Entry, IsWhole}
use Rattle.td_canon.specs.TreeText.{category_text, decorated_text, enclosed, label_text, literal_text, node_text, pair_texts, spelled, tree_texts}
use Rattle.td_canon.specs.Writing.{AreOrderedBags, IsOrderedBag, category_in, form_node, form_of, forest_terms, in_order, is_before, label_in, labelled, meet_all, node_terms, properties_in, put_in_order, tree_terms, values_in}
use Rattle.td_canon.proofs.FormLemmas.{IsOrderedTree, canonical_form}
use Rattle.td_canon.proofs.OrderLemmas.{in_order-order, in_order-within, text_named}
use Rattle.td_canon.proofs.SortLemmas.{named_attributes, once_by_text}
use Rattle.td_canon.proofs.TellingLemmas.{tree_tells}
use Rattle.td_canon.proofs.TextLemmas.{ordered_lists, ordered_pairs}
use Rattle.td_canon.proofs.UniqueForms.{one_form}
use Rattle.td_canon.proofs.ValueLemmas.{text_in-names}

-- ---- texts that agree on the numbers below a count

module _ (A B : ℕ → List ℕ) (count : ℕ) (same : (n : ℕ) → n < count → A n ≡ B n) where
  abbrev NamedPairs : Pairs → Type 0
  NamedPairs ps = Each (λ (p : ℕ × Term ℕ). p.0 < count) ps

  put_same : (p : ℕ × Term ℕ) (qs : Pairs) → p.0 < count → NamedPairs qs → put_in_order A p qs ≡ put_in_order B p qs
  put_same p [] h each = refl
  put_same p (q ∷ qs) h each =
      ap₂ (λ b zs. if b then (p ∷ q ∷ qs) else (q ∷ zs)) (ap₂ is_before (same p.0 h) (same q.0 each.0)) (put_same p qs h each.1)

  in_order_same : (ps : Pairs) → NamedPairs ps → in_order A ps ≡ in_order B ps
  in_order_same [] each = refl
  in_order_same (p ∷ ps) each =
      put_same p (in_order A ps) each.0 (Each-members (λ (q : ℕ × Term ℕ). q.0 < count) (in_order A ps) (λ x i. Each-at (λ (q : ℕ × Term ℕ). q.0 < count) ps x each.1 (in_order-within A ps x i)))
      ∙ ap (put_in_order B p) (in_order_same ps each.1)

  bag_same : (bag : BagPairs) → IsNamedBag count bag → in_order A (pairs_of bag) ≡ in_order B (pairs_of bag)
  bag_same bag each = in_order_same (pairs_of bag) (named_attributes count bag each)

  record NamedBags (b : Node BagPairs) : Type 0 where
    own : IsNamedBag count b.own
    top : IsNamedBag count b.top
    bottom : IsNamedBag count b.bottom

  node_form_same : (label : Term ℕ → Label) (b : Node BagPairs) → NamedBags b → form_node A label (lists_of b) ≡ form_node B label (lists_of b)
  node_form_same label b h =
      let own = bag_same b.own h.own in
      let top = bag_same b.top h.top in
      let bottom = bag_same b.bottom h.bottom in
      λ i. record { own = labelled label (own i); top = labelled label (top i); bottom = labelled label (bottom i) }

  node_terms_same : (b : Node BagPairs) → NamedBags b → node_terms A (lists_of b) ≡ node_terms B (lists_of b)
  node_terms_same b h =
      let own = bag_same b.own h.own in
      let top = bag_same b.top h.top in
      let bottom = bag_same b.bottom h.bottom in
      λ i. category_in (own i) ++ values_in (properties_in (own i)) ++ values_in (top i) ++ values_in (bottom i)

  forest_form_same : (label : Term ℕ → Label) (f : Forest (Node BagPairs)) → Each NamedBags (labels f) → map_forest (form_node A label) (map_forest lists_of f) ≡ map_forest (form_node B label) (map_forest lists_of f)
  forest_form_same label empty h = refl
  forest_form_same label (tree b kids more) h =
      let here = node_form_same label b h.0 in
      let below = forest_form_same label kids (Each-left NamedBags (labels kids) (labels more) h.1) in
      let beside = forest_form_same label more (Each-right NamedBags (labels kids) (labels more) h.1) in
      λ i. tree (here i) (below i) (beside i)

  forest_terms_same : (f : Forest (Node BagPairs)) → Each NamedBags (labels f) → forest_terms A (map_forest lists_of f) ≡ forest_terms B (map_forest lists_of f)
  forest_terms_same f h = by (labels f) (labels (map_forest lists_of f)) (labels_lists f) h
    where
      labels_lists : (f : Forest (Node BagPairs)) → labels (map_forest lists_of f) ≡ map lists_of (labels f)
      labels_lists empty = refl
      labels_lists (tree b kids more) = ap (λ zs. lists_of b ∷ zs) (ap₂ (λ xs ys. xs ++ ys) (labels_lists kids) (labels_lists more) ∙ sym (map_append (labels kids) (labels more)))
        where
          map_append : (xs ys : List (Node BagPairs)) → map lists_of (xs ++ ys) ≡ map lists_of xs ++ map lists_of ys
          map_append [] ys = refl
          map_append (x ∷ xs) ys = ap (λ zs. lists_of x ∷ zs) (map_append xs ys)

      all_same : (bs : List (Node BagPairs)) → Each NamedBags bs → gathered (node_terms A) (map lists_of bs) ≡ gathered (node_terms B) (map lists_of bs)
      all_same [] h = refl
      all_same (b ∷ bs) h = ap₂ (λ xs ys. xs ++ ys) (node_terms_same b h.0) (all_same bs h.1)

      by : (bs : List (Node BagPairs)) (ls : List (Node Pairs)) → ls ≡ map lists_of bs → Each NamedBags bs → gathered (node_terms A) ls ≡ gathered (node_terms B) ls
      by bs ls e h = ap (gathered (node_terms A)) e ∙ all_same bs h ∙ sym (ap (gathered (node_terms B)) e)

  -- ---- texts of forms whose names are below the count

  abbrev NamedLabel : Label → Type 0
  NamedLabel (canonical.named a) = a < count
  NamedLabel (canonical.numbered k) = ⊤

  abbrev NamedPair : ℕ × Label → Type 0
  NamedPair p = (p.0 < count) × NamedLabel p.1

  label_same : (v : Label) → NamedLabel v → label_text A v ≡ label_text B v
  label_same (canonical.named a) h = ap spelled (same a h)
  label_same (canonical.numbered k) h = refl

  pairs_same : (ps : canonical.Pairs) → Each NamedPair ps → pair_texts A ps ≡ pair_texts B ps
  pairs_same [] h = refl
  pairs_same (p ∷ ps) h =
      let attribute = same p.0 h.0.0 in
      let value = label_same p.1 h.0.1 in
      let rest = pairs_same ps h.1 in
      λ i. (attribute i ++ codes "=" ++ value i) ∷ rest i

  category_same : (ps : canonical.Pairs) → Each NamedPair ps → category_text A (category ps) ≡ category_text B (category ps)
  category_same [] h = refl
  category_same (p ∷ ps) h = by (p.0 == CAT) (category_same ps h.1)
    where
      by : (b : Bool) → category_text A (category ps) ≡ category_text B (category ps) → category_text A (if b then (p.1 ∷ []) else category ps) ≡ category_text B (if b then (p.1 ∷ []) else category ps)
      by true later = label_same p.1 h.0.1
      by false later = later

  properties_named : (ps : canonical.Pairs) → Each NamedPair ps → Each NamedPair (properties ps)
  properties_named [] h = tt
  properties_named (p ∷ ps) h = by (p.0 == CAT) (properties_named ps h.1)
    where
      by : (b : Bool) → Each NamedPair (properties ps) → Each NamedPair (if b then properties ps else (p ∷ properties ps))
      by true later = later
      by false later = (h.0, later)

  record NamedForm (n : Node canonical.Pairs) : Type 0 where
    own : Each NamedPair n.own
    top : Each NamedPair n.top
    bottom : Each NamedPair n.bottom

  node_same : (n : Node canonical.Pairs) → NamedForm n → node_text A n ≡ node_text B n
  node_same n h =
      let first = category_same n.own h.own in
      let second = pairs_same (properties n.own) (properties_named n.own h.own) in
      let third = pairs_same n.top h.top in
      let fourth = pairs_same n.bottom h.bottom in
      λ i. ((first i ++ enclosed (codes "{") 44 (codes "}") (second i)) ++ enclosed (codes "^[") 44 (codes "]") (third i)) ++ enclosed (codes "/[") 44 (codes "]") (fourth i)

  trees_same : (f : Forest (Node canonical.Pairs)) → Each NamedForm (labels f) → tree_texts A f ≡ tree_texts B f
  trees_same empty h = refl
  trees_same (tree n kids more) h =
      let here = node_same n h.0 in
      let below = trees_same kids (Each-left NamedForm (labels kids) (labels more) h.1) in
      let beside = trees_same more (Each-right NamedForm (labels kids) (labels more) h.1) in
      λ i. (here i ++ enclosed (codes "(") 32 (codes ")") (below i)) ∷ beside i

  record NamedWords (l : Literal Label) : Type 0 where
    handle : NamedLabel l.handle
    pred : NamedLabel l.pred
    args : Each NamedLabel l.args

  arguments_same : (vs : List Label) → Each NamedLabel vs → map (label_text A) vs ≡ map (label_text B) vs
  arguments_same [] h = refl
  arguments_same (v ∷ vs) h = ap₂ (λ z zs. z ∷ zs) (label_same v h.0) (arguments_same vs h.1)

  literals_same : (ls : List (Literal Label)) → Each NamedWords ls → gathered (λ l. codes " " ++ literal_text A l) ls ≡ gathered (λ l. codes " " ++ literal_text B l) ls
  literals_same [] h = refl
  literals_same (l ∷ ls) h =
      let handle = label_same l.handle h.0.handle in
      let pred = label_same l.pred h.0.pred in
      let args = arguments_same l.args h.0.args in
      let rest = literals_same ls h.1 in
      λ i. (codes " " ++ (handle i ++ codes ":" ++ pred i ++ codes "(" ++ join_with_byte 32 (args i) ++ codes ")")) ++ rest i

  record NamedWhole (c : Decorated canonical.Pairs Label) : Type 0 where
    nodes : Each NamedForm (labels c.nodes)
    interface : Each NamedPair c.interface
    literals : Each NamedWords c.literals

  whole_same : (c : Decorated canonical.Pairs Label) → NamedWhole c → decorated_text A c ≡ decorated_text B c
  whole_same c h =
      let nodes = trees_same c.nodes h.nodes in
      let interface = pairs_same c.interface h.interface in
      let literals = literals_same c.literals h.literals in
      λ i. (join_with_byte 32 (nodes i) ++ enclosed (codes " iface[") 44 (codes "]") (interface i)) ++ literals i

  -- ---- the form of a named tree is named

  named_term : (met : List ℕ) (v : Value) → IsNamedTerm count v → NamedLabel (label_in met (term_of v))
  named_term met (Const s) h = h
  named_term met (Var v) h = tt

  named_bag : (met : List ℕ) (bag : BagPairs) → IsNamedBag count bag → Each NamedPair (labelled (label_in met) (in_order B (pairs_of bag)))
  named_bag met bag h =
      Each-members NamedPair (labelled (label_in met) (in_order B (pairs_of bag))) (λ q i.
      let r = IsAmong-map_from (λ (z : ℕ × Term ℕ). (z.0, label_in met z.1)) (in_order B (pairs_of bag)) q i in
      let p = IsAmong-map_from (λ (z : Sym × Value). (z.0.0, term_of z.1)) bag r.0 (in_order-within B (pairs_of bag) r.0 r.1) in
      let n = Each-at (λ (z : Sym × Value). (z.0.0 < count) × IsNamedTerm count z.1) bag p.0 h p.1 in
      subst NamedPair (sym (r.2 ∙ ap (λ (z : ℕ × Term ℕ). (z.0, label_in met z.1)) p.2)) (n.0, named_term met p.0.1 n.1))

  named_forms : (met : List ℕ) (f : Forest (Node BagPairs)) → Each NamedBags (labels f) → Each NamedForm (labels (map_forest (form_node B (label_in met)) (map_forest lists_of f)))
  named_forms met empty h = tt
  named_forms met (tree b kids more) h = (
    record { own = named_bag met b.own h.0.own; top = named_bag met b.top h.0.top; bottom = named_bag met b.bottom h.0.bottom },
    Each-append NamedForm (labels (map_forest (form_node B (label_in met)) (map_forest lists_of kids))) (labels (map_forest (form_node B (label_in met)) (map_forest lists_of more)))
        (named_forms met kids (Each-left NamedBags (labels kids) (labels more) h.1)) (named_forms met more (Each-right NamedBags (labels kids) (labels more) h.1)),
  )

  named_terms : (met : List ℕ) (vs : List Value) → Each (IsNamedTerm count) vs → Each NamedLabel (map (label_in met) (map term_of vs))
  named_terms met [] h = tt
  named_terms met (v ∷ vs) h = (named_term met v h.0, named_terms met vs h.1)

  named_literals : (met : List ℕ) (ls : List CodeLiteral) → Each (IsNamedLiteral count) ls → Each NamedWords (map (map_literal (label_in met)) (literals_of ls))
  named_literals met [] h = tt
  named_literals met (l ∷ ls) h =
      (record { handle = named_term met l.handle h.0.handle; pred = named_term met l.pred h.0.pred; args = named_terms met l.args h.0.args }, named_literals met ls h.1)

  named_nodes : (n : ℕ) (parent : Option ℕ) (f : Forest (Node BagPairs)) → Each (IsNamedNode count) (preorder n parent f) → Each NamedBags (labels f)
  named_nodes n parent empty h = tt
  named_nodes n parent (tree b kids more) h = (
    record { own = h.0.own; top = h.0.top; bottom = h.0.bot },
    Each-append NamedBags (labels kids) (labels more)
        (named_nodes (suc n) (Some n) kids (Each-left (IsNamedNode count) (preorder (suc n) (Some n) kids) (preorder (suc n + size kids) parent more) h.1))
        (named_nodes (suc n + size kids) parent more (Each-right (IsNamedNode count) (preorder (suc n) (Some n) kids) (preorder (suc n + size kids) parent more) h.1)),
  )

  -- the text of a named tree by the one numbering is that by the other
  texts_same : (t : Tree) (f : Forest (Node BagPairs)) → t.nodes ≡ preorder 0 None f → IsNamedTree count t →
      decorated_text A (form_of A (label_in (meet_all [] (tree_terms A (decorated_of f t)))) (decorated_of f t))
      ≡ decorated_text B (form_of B (label_in (meet_all [] (tree_terms B (decorated_of f t)))) (decorated_of f t))
  texts_same t f laid h =
      let d = decorated_of f t in
      let bags : Each NamedBags (labels f) = named_nodes 0 None f (subst (λ ns. Each (IsNamedNode count) ns) laid h.nodes) in
      let iface = bag_same t.iface h.iface in
      let walk : tree_terms A d ≡ tree_terms B d = λ i. forest_terms_same f bags i ++ values_in (iface i) ++ gathered literal_terms d.literals in
      let met = meet_all [] (tree_terms B d) in
      let form : form_of A (label_in met) d ≡ form_of B (label_in met) d =
      λ i. record { nodes = forest_form_same (label_in met) f bags i; interface = labelled (label_in met) (iface i); literals = map (map_literal (label_in met)) d.literals } in
      ap (λ ts. decorated_text A (form_of A (label_in (meet_all [] ts)) d)) walk
      ∙ ap (decorated_text A) form
      ∙ whole_same (form_of B (label_in met) d) (record { nodes = named_forms met f bags; interface = named_bag met t.iface h.iface; literals = named_literals met t.sem h.sem })

-- ---- names below a count are below a greater one

module _ (small large : ℕ) (le : small ≤ large) where
  more_term : (v : Value) → IsNamedTerm small v → IsNamedTerm large v
  more_term (Const s) h = omega (arith, h, le)
  more_term (Var v) h = tt

  more_bag : (bag : BagPairs) → IsNamedBag small bag → IsNamedBag large bag
  more_bag [] h = tt
  more_bag (p ∷ bag) h = ((omega (arith, h.0.0, le), more_term p.1 h.0.1), more_bag bag h.1)

  more_nodes : (ns : List TreeNode) → Each (IsNamedNode small) ns → Each (IsNamedNode large) ns
  more_nodes [] h = tt
  more_nodes (n ∷ ns) h = (record { own = more_bag n.own h.0.own; top = more_bag n.top h.0.top; bot = more_bag n.bot h.0.bot }, more_nodes ns h.1)

  more_terms : (vs : List Value) → Each (IsNamedTerm small) vs → Each (IsNamedTerm large) vs
  more_terms [] h = tt
  more_terms (v ∷ vs) h = (more_term v h.0, more_terms vs h.1)

  more_literals : (ls : List CodeLiteral) → Each (IsNamedLiteral small) ls → Each (IsNamedLiteral large) ls
  more_literals [] h = tt
  more_literals (l ∷ ls) h = (record { handle = more_term l.handle h.0.handle; pred = more_term l.pred h.0.pred; args = more_terms l.args h.0.args }, more_literals ls h.1)

  pub more_tree : (t : Tree) → IsNamedTree small t → IsNamedTree large t
  more_tree t h = record { nodes = more_nodes t.nodes h.nodes; iface = more_bag t.iface h.iface; sem = more_literals t.sem h.sem }

-- ---- a table that grows

module _ (texts : List (List ℕ)) (once : NoneTwice texts) where
  ordered_bag : (bag : BagPairs) → IsListed bag → IsNamedBag (length texts) bag → IsOrderedBag (text_in texts) bag
  ordered_bag bag listed h = record { listed = listed; order = in_order-order (text_in texts) (pairs_of bag) (once_by_text texts bag once listed h) }

  ordered_nodes : (n : ℕ) (parent : Option ℕ) (f : Forest (Node BagPairs)) → Each (IsNamedNode (length texts)) (preorder n parent f) → Each IsListedNode (preorder n parent f) → Each (AreOrderedBags (text_in texts)) (labels f)
  ordered_nodes n parent empty h k = tt
  ordered_nodes n parent (tree b kids more) h k = (
    record { own = ordered_bag b.own k.0.own h.0.own; top = ordered_bag b.top k.0.top h.0.top; bottom = ordered_bag b.bottom k.0.bot h.0.bot },
    Each-append (AreOrderedBags (text_in texts)) (labels kids) (labels more)
        (ordered_nodes (suc n) (Some n) kids (Each-left (IsNamedNode (length texts)) (preorder (suc n) (Some n) kids) (preorder (suc n + size kids) parent more) h.1) (Each-left IsListedNode (preorder (suc n) (Some n) kids) (preorder (suc n + size kids) parent more) k.1))
        (ordered_nodes (suc n + size kids) parent more (Each-right (IsNamedNode (length texts)) (preorder (suc n) (Some n) kids) (preorder (suc n + size kids) parent more) h.1) (Each-right IsListedNode (preorder (suc n) (Some n) kids) (preorder (suc n + size kids) parent more) k.1)),
  )

  pub ordered_tree : (t : Tree) (f : Forest (Node BagPairs)) → t.nodes ≡ preorder 0 None f → IsNamedTree (length texts) t → IsListedTree t → IsOrderedTree (text_in texts) (decorated_of f t)
  ordered_tree t f laid h k = record {
    nodes = ordered_lists (text_in texts) f (ordered_nodes 0 None f (subst (λ ns. Each (IsNamedNode (length texts)) ns) laid h.nodes) (subst (λ ns. Each IsListedNode ns) laid k.nodes));
    interface = ordered_pairs (text_in texts) t.iface (ordered_bag t.iface k.iface h.iface);
  }

NoneTwice-front : {X : Type 0} (xs ys : List X) → NoneTwice (xs ++ ys) → NoneTwice xs
NoneTwice-front [] ys h = tt
NoneTwice-front (x ∷ xs) ys h = (λ i. h.0 (IsAmong-append_left xs ys x i), NoneTwice-front xs ys h.1)

pub text_stays : (old new : List (List ℕ)) (t : Tree) (x : List ℕ) → NoneTwice new → Grows old new → HasText old t x → HasText new t x
text_stays old new t x once grows has =
    let once_old : NoneTwice old = NoneTwice-front old grows.0 (subst (λ ts. NoneTwice ts) grows.1 once) in
    let longer : length old ≤ length new = omega (arith, ap (λ (ts : List (List ℕ)). length ts) grows.1, length-append old grows.0) in
    let same : (n : ℕ) → n < length old → text_in old n ≡ text_in new n =
    λ n h. sym (text_in-names new n (text_in old n) (Names-grows old new n (text_in old n) (text_named old n h) grows)) in
    let f = has.nodes.forest in
    let d = decorated_of f t in
    let tells = tree_tells old t f once_old has.nodes.laid has.named in
    let ordered = ordered_tree old once_old t f has.nodes.laid has.named has.listed in
    let form = one_form (text_in old) (tree_network d) (slotted d) (λ p q (s, v, i, h) (r, w, j, k) e. tells p q s r v w i j h k e) has.spells.form
    (form_of (text_in old) (label_in (meet_all [] (tree_terms (text_in old) d))) d) has.spells.canonical (canonical_form (text_in old) d ordered) in
    record {
      nodes = has.nodes;
      named = more_tree (length old) (length new) longer t has.named;
      listed = has.listed;
      spells = record {
        form = form_of (text_in new) (label_in (meet_all [] (tree_terms (text_in new) d))) d;
        canonical = canonical_form (text_in new) d (ordered_tree new once t f has.nodes.laid (more_tree (length old) (length new) longer t has.named) has.listed);
        spells = has.spells.spells ∙ ap (decorated_text (text_in old)) form ∙ texts_same (text_in old) (text_in new) (length old) same t f has.nodes.laid has.named;
      };
    }

pub set_stays : (old new : List (List ℕ)) (set : List Entry) → NoneTwice new → Grows old new → IsWhole old set → IsWhole new set
set_stays old new set once grows whole = record { is_set = whole.is_set; texts_are = all set whole.texts_are }
  where
    all : (es : List Entry) → Each (λ (e : Entry). HasText old e.tree e.text) es → Each (λ (e : Entry). HasText new e.tree e.text) es
    all [] h = tt
    all (e ∷ es) h = (text_stays old new e.tree e.text once grows h.0, all es h.1)
