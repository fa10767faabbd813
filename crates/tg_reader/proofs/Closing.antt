-- A tree that stands for a form has its text.
use Rattle.std.specs.Prelude.{◌≡◌, ℕ, zero, suc, ◌+◌, List, [], ◌∷◌, ◌++◌, map, length, slice_get, Some, None, refl}
use Rattle.std.proofs.Common.{ap, sym, ◌∙◌, subst, arith}
use Rattle.std.proofs.lemmas.Option.{same_Some}
use Rattle.gr_base.specs.Lists.{Each, InByteOrder, IsAmong, NoneTwice}
use Rattle.gr_base.specs.Forests.{Forest, empty, tree, AreAlike, IsOneTree, labels, map_forest, numbered as with_numbers, size}
use Rattle.gr_base.proofs.ForestLemmas.{IsOneTree-alike, length-labels}
use Rattle.gr_base.proofs.ListLemmas.{Each-append, Each-left, Each-members, Each-right, IsAmong-map, IsAmong-map_from, slice_get-append_left, slice_get-append_right}
use Rattle.gr_symbols.specs.Numbers.{Names}
use Rattle.gr_terms.specs.BagViews.{pairs_of}
use Rattle.gr_terms.specs.Canonical as canonical
use Rattle.gr_terms.specs.Canonical.{Decorated, IsCanonicalForm, IsExact, IsMet, IsNumberedFrom, Label, ListsNode, ListsSlot, Node, Pairs, map_literal, named, numbered, walked}
use Rattle.gr_terms.specs.Constants.{CAT}
use Rattle.gr_terms.specs.LiteralViews.{literal_of, literals_of}
use Rattle.gr_terms.specs.Networks.{AreLinked, Term, name, variable, same}
use Rattle.gr_terms.specs.Views.{term_of}
use Rattle.gr_terms.specs.declared.Literal.{Literal}
use Rattle.gr_terms.specs.declared.Sym.{Sym}
use Rattle.gr_terms.specs.declared.Term.{Term as Value}
use Rattle.gr_terms.specs.declared.Term.TheVariants.{Const, Var}
use Rattle.td_canon.specs.CanonicalTexts.{HasText, IsListedTree, IsNamedTree, text_in}
use Rattle.td_canon.specs.TreeText.{decorated_text}
use Rattle.td_canon.proofs.FormLemmas.{IsOrderedTree, one_value_at}
use Rattle.td_canon.proofs.GrowthLemmas.{ordered_tree}
use Rattle.td_canon.proofs.MeetingLemmas.{named-numbered, same_named, same_numbered}
use Rattle.td_canon.proofs.UniqueForms.{attribute_text}
use Rattle.td_tree.specs.Trees.{AreTreeNodes, BagPairs, preorder}
use Rattle.td_tree.specs.TreeNetworks.{Part, TreeSlot, at_interface, at_node, bottom_part, own_part, slots_at, slotted, top_part, tree_network}
use Rattle.td_tree.specs.TreeViews.{decorated_of, lists_of}
use Rattle.td_tree.specs.declared.Tree.{Tree}
use Rattle.td_tree.proofs.TreeNetworkLemmas.{IsPairAt, list_of, pair_value, same_terms, value_pair}
use Rattle.tg_reader.specs.Reading.{AppendsLiterals, AppendsValues, StandsFor, StandsForLiteral, StandsForNode, StandsForTree}
use Rattle.tg_reader.proofs.Held.{Holds, list_holds, own_holds}
use Rattle.tg_reader.proofs.Moved.{FoundForm, FoundLabel, FoundLiteral, FoundNode, FoundPair, attributes_moved, form_moved, moved, moved_form, moved_is, moved_label, moved_node, moved_pairs, numbers_moved, walked_moved}

-- the nodes' lists are in byte order of their attributes
pub record IsOrderedNode (text : ℕ → List ℕ) (n : Node Pairs) : Type 0 where
  pub own : InByteOrder (map (attribute_text text) n.own)
  pub top : InByteOrder (map (attribute_text text) n.top)
  pub bottom : InByteOrder (map (attribute_text text) n.bottom)

-- and so is the interface; and the numbers are given by first meeting
pub record IsOrderedForm (text : ℕ → List ℕ) (c : Decorated Pairs Label) : Type 0 where
  pub nodes : Each (IsOrderedNode text) (labels c.nodes)
  pub interface : InByteOrder (map (attribute_text text) c.interface)
  pub numbers : IsNumberedFrom 0 (walked c)

-- a name is its label, and so is a variable
abbrev pub lab : Term ℕ → Label
lab (name a) = named a
lab (variable k) = numbered k

lab_apart : (x y : Term ℕ) → lab x ≡ lab y → x ≡ y
lab_apart (name a) (name b) e = ap name (same_named a b e)
lab_apart (name a) (variable k) e = named-numbered a k e
lab_apart (variable k) (name b) e = named-numbered b k (sym e)
lab_apart (variable k) (variable l) e = ap variable (same_numbered k l e)

module _ (text : ℕ → List ℕ) (texts : List (List ℕ)) (once : NoneTwice texts) (cat : Names texts CAT (text CAT)) (only : (a : ℕ) → text a ≡ text CAT → a ≡ CAT) where
  -- ---- what was read has the labels of what was written

  stands_found : (v : Label) (x : Value) → StandsFor text texts v x → FoundLabel text texts once v
  stands_found (named a) (Const s) stands = (s.0, stands)
  stands_found (named a) (Var v) stands = absurd stands
  stands_found (numbered k) x stands = tt

  stands_label : (v : Label) (x : Value) → StandsFor text texts v x → moved_label text texts once v ≡ lab (term_of x)
  stands_label (named a) (Const s) stands = ap named (moved_is text texts once a s.0 stands)
  stands_label (named a) (Var v) stands = absurd stands
  stands_label (numbered k) x stands = ap (λ y. lab (term_of y)) (sym stands)

  found_pairs : (ps : Pairs) (bag : BagPairs) → Holds text texts ps bag → Each (FoundPair text texts once) ps
  found_pairs ps bag holds = Each-members (FoundPair text texts once) ps (λ p i. let q = holds.there p i in ((q.0.0.0, q.2.0), stands_found p.1 q.0.1 q.2.1))

  -- ---- nodes

  pub record HoldsNode (n : Node Pairs) (b : Node BagPairs) : Type 0 where
    pub own : Holds text texts n.own b.own
    pub top : Holds text texts n.top b.top
    pub bottom : Holds text texts n.bottom b.bottom

  node_holds : (n : Node Pairs) (b : Node BagPairs) → IsOrderedNode text n → StandsForNode text texts n b → HoldsNode n b
  node_holds n b order stands = record {
    own = own_holds text texts cat only n.own stands.first b.own order.own stands.category stands.properties;
    top = list_holds text texts n.top b.top order.top stands.top;
    bottom = list_holds text texts n.bottom b.bottom order.bottom stands.bottom;
  }

  pub nodes_hold : (f : Forest (Node Pairs)) (g : Forest (Node BagPairs)) → Each (IsOrderedNode text) (labels f) → AreAlike (StandsForNode text texts) f g → AreAlike HoldsNode f g
  nodes_hold empty empty order alike = tt
  nodes_hold empty (tree b others rest) order alike = absurd alike
  nodes_hold (tree n kids more) empty order alike = absurd alike
  nodes_hold (tree n kids more) (tree b others rest) order alike = (
    node_holds n b order.0 alike.0,
    nodes_hold kids others (Each-left (IsOrderedNode text) (labels kids) (labels more) order.1) alike.1,
    nodes_hold more rest (Each-right (IsOrderedNode text) (labels kids) (labels more) order.1) alike.2,
  )

  found_nodes : (f : Forest (Node Pairs)) (g : Forest (Node BagPairs)) → AreAlike HoldsNode f g → Each (FoundNode text texts once) (labels f)
  found_nodes empty g alike = tt
  found_nodes (tree n kids more) empty alike = absurd alike
  found_nodes (tree n kids more) (tree b others rest) alike = (
    record { own = found_pairs n.own b.own alike.0.own; top = found_pairs n.top b.top alike.0.top; bottom = found_pairs n.bottom b.bottom alike.0.bottom },
    Each-append (FoundNode text texts once) (labels kids) (labels more) (found_nodes kids others alike.1) (found_nodes more rest alike.2),
  )

  -- ---- literals

  found_values : (vs : List Label) (old xs : List Value) → AppendsValues text texts vs old xs → Each (FoundLabel text texts once) vs
  found_values [] old xs turns = tt
  found_values (v ∷ vs) old xs (mid, (x, stands, e), turns) = (stands_found v x stands, found_values vs mid xs turns)

  found_literals : (ls : List (canonical.Literal Label)) (old xs : List Literal) → AppendsLiterals text texts ls old xs → Each (FoundLiteral text texts once) ls
  found_literals [] old xs turns = tt
  found_literals (l ∷ ls) old xs (mid, (x, stands, e), turns) = (
    record { handle = stands_found l.handle x.handle stands.handle; pred = stands_found l.pred x.pred stands.pred; args = found_values l.args [] x.args stands.args },
    found_literals ls mid xs turns,
  )

  values_same : (vs : List Label) (old xs : List Value) → AppendsValues text texts vs old xs → map lab (map term_of xs) ≡ map lab (map term_of old) ++ map (moved_label text texts once) vs
  values_same [] old xs turns = ap (λ zs. map lab (map term_of zs)) turns ∙ sym (append_nothing (map lab (map term_of old)))
    where
      append_nothing : (zs : List Label) → zs ++ [] ≡ zs
      append_nothing [] = refl
      append_nothing (z ∷ zs) = ap (λ ys. z ∷ ys) (append_nothing zs)
  values_same (v ∷ vs) old xs (mid, (x, stands, e), turns) =
      values_same vs mid xs turns
      ∙ ap (λ zs. map lab (map term_of zs) ++ map (moved_label text texts once) vs) e
      ∙ pushed old
    where
      pushed : (ys : List Value) → map lab (map term_of (ys ++ x ∷ [])) ++ map (moved_label text texts once) vs ≡ map lab (map term_of ys) ++ moved_label text texts once v ∷ map (moved_label text texts once) vs
      pushed [] = ap (λ z. z ∷ map (moved_label text texts once) vs) (sym (stands_label v x stands))
      pushed (y ∷ ys) = ap (λ zs. lab (term_of y) ∷ zs) (pushed ys)

  literal_same : (l : canonical.Literal Label) (x : Literal) → StandsForLiteral text texts l x → map_literal lab (literal_of x) ≡ map_literal (moved_label text texts once) l
  literal_same l x stands =
      let handle = stands_label l.handle x.handle stands.handle in
      let pred = stands_label l.pred x.pred stands.pred in
      let args = values_same l.args [] x.args stands.args in
      sym (λ i. record { handle = handle i; pred = pred i; args = sym args i })

  literals_same : (ls : List (canonical.Literal Label)) (old xs : List Literal) → AppendsLiterals text texts ls old xs →
      map (map_literal lab) (literals_of xs) ≡ map (map_literal lab) (literals_of old) ++ map (map_literal (moved_label text texts once)) ls
  literals_same [] old xs turns = ap (λ zs. map (map_literal lab) (literals_of zs)) turns ∙ sym (append_nothing (map (map_literal lab) (literals_of old)))
    where
      append_nothing : (zs : List (canonical.Literal Label)) → zs ++ [] ≡ zs
      append_nothing [] = refl
      append_nothing (z ∷ zs) = ap (λ ys. z ∷ ys) (append_nothing zs)
  literals_same (l ∷ ls) old xs (mid, (x, stands, e), turns) =
      literals_same ls mid xs turns
      ∙ ap (λ zs. map (map_literal lab) (literals_of zs) ++ map (map_literal (moved_label text texts once)) ls) e
      ∙ pushed old
    where
      pushed : (ys : List Literal) → map (map_literal lab) (literals_of (ys ++ x ∷ [])) ++ map (map_literal (moved_label text texts once)) ls ≡ map (map_literal lab) (literals_of ys) ++ map_literal (moved_label text texts once) l ∷ map (map_literal (moved_label text texts once)) ls
      pushed [] = ap (λ z. z ∷ map (map_literal (moved_label text texts once)) ls) (literal_same l x stands)
      pushed (y ∷ ys) = ap (λ zs. map_literal lab (literal_of y) ∷ zs) (pushed ys)

  -- ---- the form of the tree

  module _ (c : Decorated Pairs Label) (t : Tree) (g : Forest (Node BagPairs)) (laid : t.nodes ≡ preorder 0 None g) (named_all : IsNamedTree (length texts) t) (listed : IsListedTree t) (order : IsOrderedForm text c) (nodes : AreAlike HoldsNode c.nodes g)
      (interface : Holds text texts c.interface t.iface) (literals : AppendsLiterals text texts c.literals [] t.sem) where
    abbrev d : Decorated (List (ℕ × Term ℕ)) (Term ℕ)
    d = decorated_of g t

    ordered : IsOrderedTree (text_in texts) (decorated_of g t)
    ordered = ordered_tree texts once t g laid named_all listed

    linked_same : (x y : Term ℕ) → AreLinked (tree_network (decorated_of g t)) x y → x ≡ y
    linked_same = same_terms (decorated_of g t) (one_value_at (text_in texts) (decorated_of g t) ordered)

    exact_name : (x : Term ℕ) (a : ℕ) → lab x ≡ named a → AreLinked (tree_network (decorated_of g t)) x (name a)
    exact_name x a e = subst (λ y. AreLinked (tree_network (decorated_of g t)) x y) (lab_apart x (name a) e) (same x)

    exact : IsExact (tree_network (decorated_of g t)) (IsMet (tree_network (decorated_of g t)) (slotted (decorated_of g t))) lab
    exact = record {
      linked = λ x y h. ap lab (linked_same x y h);
      classes = λ x y i j e. subst (λ z. AreLinked (tree_network (decorated_of g t)) x z) (lab_apart x y e) (same x);
      names = λ x a i. (exact_name x a, λ h. ap lab (linked_same x (name a) h));
    }

    lists_slot : (s : TreeSlot) (ps : Pairs) (bag : BagPairs) → ((a : ℕ) (x : Term ℕ) → IsPairAt (decorated_of g t) s (a, x) → IsAmong (pairs_of bag) (a, x)) →
        ((a : ℕ) (x : Term ℕ) → IsAmong (pairs_of bag) (a, x) → IsPairAt (decorated_of g t) s (a, x)) → InByteOrder (map (attribute_text text) ps) → Holds text texts ps bag →
        ListsSlot (text_in texts) (tree_network (decorated_of g t)) lab s (moved_pairs text texts once ps)
    lists_slot s ps bag there back in_order holds = record {
      order = subst (λ ks. InByteOrder ks) (sym (attributes_moved text texts once ps (found_pairs ps bag holds))) in_order;
      pairs = λ a v. (
        λ i.
            let r = IsAmong-map_from (λ (p : ℕ × Label). (moved text texts once p.0, moved_label text texts once p.1)) ps (a, v) i in
            let q = holds.there r.0 r.1 in
            let attribute : q.0.0.0 ≡ a = sym (ap (λ (z : ℕ × Label). z.0) r.2 ∙ moved_is text texts once r.0.0 q.0.0.0 q.2.0) in
            let value : v ≡ lab (term_of q.0.1) = ap (λ (z : ℕ × Label). z.1) r.2 ∙ stands_label r.0.1 q.0.1 q.2.1 in
            let among : IsAmong (pairs_of bag) (q.0.0.0, term_of q.0.1) = IsAmong-map (λ (z : Sym × Value). (z.0.0, term_of z.1)) bag q.0 q.1 in
            (term_of q.0.1, pair_value (decorated_of g t) s a (term_of q.0.1) (back a (term_of q.0.1) (subst (λ b. IsAmong (pairs_of bag) (b, term_of q.0.1)) attribute among)), value),
        λ (x, h, e).
            let r = IsAmong-map_from (λ (z : Sym × Value). (z.0.0, term_of z.1)) bag (a, x) (there a x (value_pair (decorated_of g t) s a x h)) in
            let p = holds.back r.0 r.1 in
            let attribute : moved text texts once p.0.0 ≡ a = moved_is text texts once p.0.0 r.0.0.0 p.2.0 ∙ sym (ap (λ (z : ℕ × Term ℕ). z.0) r.2) in
            let value : moved_label text texts once p.0.1 ≡ v = stands_label p.0.1 r.0.1 p.2.1 ∙ sym (e ∙ ap (λ (z : ℕ × Term ℕ). lab z.1) r.2) in
            subst (λ (z : ℕ × Label). IsAmong (moved_pairs text texts once ps) z) (λ k. (attribute k, value k))
            (IsAmong-map (λ (p : ℕ × Label). (moved text texts once p.0, moved_label text texts once p.1)) ps p.0 p.1),
      );
    }

    lists_node : (n : ℕ) (p : Node Pairs) (b : Node BagPairs) → slice_get (labels (decorated_of g t).nodes) n ≡ Some (lists_of b) → IsOrderedNode text p → HoldsNode p b →
        ListsNode (text_in texts) (tree_network (decorated_of g t)) lab (slots_at n) (moved_node text texts once p)
    lists_node n p b at in_order holds = record {
      own = lists_slot (at_node n own_part) p.own b.own (λ a x h. here own_part a x h) (λ a x i. (lists_of b, at, i)) in_order.own holds.own;
      top = lists_slot (at_node n top_part) p.top b.top (λ a x h. here top_part a x h) (λ a x i. (lists_of b, at, i)) in_order.top holds.top;
      bottom = lists_slot (at_node n bottom_part) p.bottom b.bottom (λ a x h. here bottom_part a x h) (λ a x i. (lists_of b, at, i)) in_order.bottom holds.bottom;
    }
      where
        here : (part : Part) (a : ℕ) (x : Term ℕ) → IsPairAt (decorated_of g t) (at_node n part) (a, x) → IsAmong (list_of part (lists_of b)) (a, x)
        here part a x (others, at', i) = subst (λ z. IsAmong (list_of part z) (a, x)) (same_Some others (lists_of b) (sym at' ∙ at)) i

    lists_forest : (k : ℕ) (f : Forest (Node Pairs)) (h : Forest (Node BagPairs)) → ((i : ℕ) (lists : Node (List (ℕ × Term ℕ))) → slice_get (labels (map_forest lists_of h)) i ≡ Some lists → slice_get (labels (decorated_of g t).nodes) (k + i) ≡ Some lists) →
        Each (IsOrderedNode text) (labels f) → AreAlike HoldsNode f h →
        AreAlike (ListsNode (text_in texts) (tree_network (decorated_of g t)) lab) (map_forest (λ p. slots_at p.0) (with_numbers k (map_forest lists_of h))) (map_forest (moved_node text texts once) f)
    lists_forest k empty empty at in_order alike = tt
    lists_forest k empty (tree b others rest) at in_order alike = absurd alike
    lists_forest k (tree p kids more) empty at in_order alike = absurd alike
    lists_forest k (tree p kids more) (tree b others rest) at in_order alike =
        let count : length (labels (map_forest lists_of others)) ≡ size (map_forest lists_of others) = length-labels (map_forest lists_of others) in (
          lists_node k p b (subst (λ m. slice_get (labels (decorated_of g t).nodes) m ≡ Some (lists_of b)) (omega arith) (at zero (lists_of b) refl)) in_order.0 alike.0,
          lists_forest (suc k) kids others
              (λ i lists e. subst (λ m. slice_get (labels (decorated_of g t).nodes) m ≡ Some lists) (omega arith) (at (suc i) lists (slice_get-append_left (labels (map_forest lists_of others)) (labels (map_forest lists_of rest)) i lists e)))
              (Each-left (IsOrderedNode text) (labels kids) (labels more) in_order.1) alike.1,
          lists_forest (suc k + size (map_forest lists_of others)) more rest
              (λ i lists e. subst (λ m. slice_get (labels (decorated_of g t).nodes) m ≡ Some lists) (omega arith) (at (suc (length (labels (map_forest lists_of others)) + i)) lists (slice_get-append_right (labels (map_forest lists_of others)) (labels (map_forest lists_of rest)) i ∙ e)))
              (Each-right (IsOrderedNode text) (labels kids) (labels more) in_order.1) alike.2,
        )

    found : FoundForm text texts once c
    found = record { nodes = found_nodes c.nodes g nodes; interface = found_pairs c.interface t.iface interface; literals = found_literals c.literals [] t.sem literals }

    pub canonical_moved : IsCanonicalForm (text_in texts) (tree_network (decorated_of g t)) (slotted (decorated_of g t)) (moved_form text texts once c)
    canonical_moved = record {
      label = lab;
      exact = exact;
      nodes = lists_forest 0 c.nodes g (λ i lists e. subst (λ m. slice_get (labels (decorated_of g t).nodes) m ≡ Some lists) (omega arith) e) order.nodes nodes;
      interface = lists_slot at_interface c.interface t.iface (λ a x h. h) (λ a x h. h) order.interface interface;
      literals = sym (literals_same c.literals [] t.sem literals);
      order = subst (λ vs. IsNumberedFrom 0 vs) (sym (walked_moved text texts once cat only c found)) (numbers_moved text texts once 0 (walked c) order.numbers);
    }

    pub text_moved : decorated_text (text_in texts) (moved_form text texts once c) ≡ decorated_text text c
    text_moved = form_moved text texts once cat only c found

  -- ---- so it has the text

  pub closing : (c : Decorated Pairs Label) (t : Tree) → IsOneTree c.nodes → IsOrderedForm text c → StandsForTree text texts c t → AreTreeNodes t.nodes → IsNamedTree (length texts) t → IsListedTree t → HasText texts t (decorated_text text c)
  closing c t one order stands tree_nodes named_all listed =
      let g = stands.nodes.0 in
      let laid : t.nodes ≡ preorder 0 None g = stands.nodes.2 in
      let nodes = nodes_hold c.nodes g order.nodes stands.nodes.1 in
      let interface = list_holds text texts c.interface t.iface order.interface stands.interface in
      record {
        nodes = record { forest = g; one = IsOneTree-alike (StandsForNode text texts) c.nodes g stands.nodes.1 one; few = tree_nodes.few; laid = laid };
        named = named_all;
        listed = listed;
        spells = record {
          form = moved_form text texts once c;
          canonical = canonical_moved c t g laid named_all listed order nodes interface stands.literals;
          spells = sym (text_moved c t g laid named_all listed order nodes interface stands.literals);
        };
      }
