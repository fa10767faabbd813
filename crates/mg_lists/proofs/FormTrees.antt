-- A tree whose canonical form can be written can be written itself.
use Rattle.std.specs.Prelude.{◌≡◌, ℕ, suc, ◌+◌, List, [], ◌∷◌, map, Some, None, slice_get, Option, refl}
use Rattle.std.proofs.Common.{inl, inr, ap, sym, ◌∙◌, subst, arith}
use Rattle.std.proofs.lemmas.Option.{same_Some}
use Rattle.gr_base.specs.Lists.{IsAmong, IsRising, Each, gathered}
use Rattle.gr_base.specs.Forests.{Forest, empty, tree, labels, numbered as with_numbers, size}
use Rattle.gr_base.proofs.ListLemmas.{Each-at, Each-append, Each-left, Each-right, Each-members, IsAmong-append_left, IsAmong-append_right, IsAmong-gathered, IsAmong-map, IsAmong-slice_get, slice_get-IsAmong, slice_get-mapped}
use Rattle.gr_base.proofs.RisingKeys.{IsRising-same}
use Rattle.gr_base.proofs.ForestLemmas.{labels-map}
use Rattle.gr_base.proofs.Zips.{labels-alike}
use Rattle.gr_terms.specs.BagViews.{pairs_of}
use Rattle.gr_terms.specs.Bags.{IsListed}
use Rattle.gr_terms.specs.Canonical.{Decorated, Label, Node, Pairs as LabelPairs, named, numbered, node_slots, tree_slots, literal_terms, map_literal, IsMet, IsCanonicalForm, ListsSlot, ListsNode}
use Rattle.gr_terms.specs.LiteralViews.{literal_of, literals_of}
use Rattle.gr_terms.specs.Networks.{Term, Assertion, name, variable, HasValue, same}
use Rattle.gr_terms.specs.Views.{term_of}
use Rattle.gr_terms.specs.declared.Literal.{Literal}
use Rattle.gr_terms.specs.declared.Sym.{Sym}
use Rattle.gr_terms.specs.declared.Term as code
use Rattle.gr_terms.specs.declared.Term.TheVariants.{Const, Var}
use Rattle.gr_terms.proofs.ViewLemmas.{IsAmong-pairs_of, IsRising-pairs_of}
use Rattle.td_canon.specs.CanonicalTexts.{text_in, IsListedTree}
use Rattle.td_tree.proofs.SameForms.{zip_answer}
use Rattle.td_tree.specs.Trees.{BagPairs, AreTreeNodes, IsListedNode, node_of, preorder}
use Rattle.td_tree.specs.TreeNetworks.{Part, own_part, top_part, bottom_part, TreeSlot, at_node, at_interface, slots_at, slotted, tree_network}
use Rattle.td_tree.specs.TreeViews.{Pairs, decorated_of, lists_of}
use Rattle.td_tree.specs.declared.Tree.{Tree}
use Rattle.td_tree.specs.declared.TreeNode.{TreeNode}
use Rattle.td_tree.proofs.TreeNetworkLemmas.{IsPairAt, labels-numbered, list_of, pair_value, same_terms, IsAmong-count_from}
use Rattle.tg_reader.specs.Writable.{IsMark, IsWritableTerm, IsWritablePair, IsWritableOwn, IsWritableNode, IsWritableLiteral, IsWritableTree}
use Rattle.mg_lists.proofs.ModelForms.{IsFineForm, IsFineNode, IsFineFeature, IsFineProperty, IsFineLabel, IsMarkLabel}

-- ---- nodes in preorder and their numbers

-- what holds of the bags of each node of a forest holds of the nodes
laid_nodes : (P : TreeNode → Type 0) (Q : Node BagPairs → Type 0) → ((parent : Option ℕ) (b : Node BagPairs) → Q b → P (node_of parent b)) → (n : ℕ) (parent : Option ℕ) (f : Forest (Node BagPairs)) → Each Q (labels f) → Each P (preorder n parent f)
laid_nodes P Q one n parent empty h = tt
laid_nodes P Q one n parent (tree b kids more) h = (
  one parent b h.0,
  Each-append P (preorder (suc n) (Some n) kids) (preorder (suc n + size kids) parent more)
      (laid_nodes P Q one (suc n) (Some n) kids (Each-left Q (labels kids) (labels more) h.1))
      (laid_nodes P Q one (suc n + size kids) parent more (Each-right Q (labels kids) (labels more) h.1)),
)

-- and the other way round
forest_bags : (P : TreeNode → Type 0) (Q : Node BagPairs → Type 0) → ((parent : Option ℕ) (b : Node BagPairs) → P (node_of parent b) → Q b) → (n : ℕ) (parent : Option ℕ) (f : Forest (Node BagPairs)) → Each P (preorder n parent f) → Each Q (labels f)
forest_bags P Q one n parent empty h = tt
forest_bags P Q one n parent (tree b kids more) h =
    let under = preorder (suc n) (Some n) kids in
    let right = preorder (suc n + size kids) parent more in (
      one parent b h.0,
      Each-append Q (labels kids) (labels more)
          (forest_bags P Q one (suc n) (Some n) kids (Each-left P under right h.1))
          (forest_bags P Q one (suc n + size kids) parent more (Each-right P under right h.1)),
    )

-- the lists of bags whose attributes rise
record IsListedBags (b : Node BagPairs) : Type 0 where
  pub own : IsListed b.own
  pub top : IsListed b.top
  pub bottom : IsListed b.bottom

-- bags that can be written
record AreWritableBags (texts : List (List ℕ)) (b : Node BagPairs) : Type 0 where
  pub own : Each (IsWritableOwn texts) b.own
  pub top : Each (IsWritablePair texts) b.top
  pub bottom : Each (IsWritablePair texts) b.bottom

record AreRisingLists (n : Node Pairs) : Type 0 where
  pub own : IsRising (map (λ (p : ℕ × Term ℕ). p.0) n.own)
  pub top : IsRising (map (λ (p : ℕ × Term ℕ). p.0) n.top)
  pub bottom : IsRising (map (λ (p : ℕ × Term ℕ). p.0) n.bottom)

module _ (texts : List (List ℕ)) (t : Tree) (listed : IsListedTree t) (nodes : AreTreeNodes t.nodes) where
  abbrev d : Decorated Pairs (Term ℕ)
  d = decorated_of nodes.forest t

  abbrev M : List (Assertion ℕ TreeSlot)
  M = tree_network d

  -- ---- the tree's network links nothing

  listed_bags : Each IsListedBags (labels nodes.forest)
  listed_bags = forest_bags IsListedNode IsListedBags (λ parent b h. record { own = h.own; top = h.top; bottom = h.bot }) 0 None nodes.forest (subst (Each IsListedNode) nodes.laid listed.nodes)

  part_rising : (part : Part) (n : Node Pairs) → AreRisingLists n → IsRising (map (λ (p : ℕ × Term ℕ). p.0) (list_of part n))
  part_rising own_part n h = h.own
  part_rising top_part n h = h.top
  part_rising bottom_part n h = h.bottom

  rising_lists : Each AreRisingLists (labels d.nodes)
  rising_lists = subst (Each AreRisingLists) (sym (labels-map lists_of nodes.forest)) (by (labels nodes.forest) listed_bags)
    where
      by : (bs : List (Node BagPairs)) → Each IsListedBags bs → Each AreRisingLists (map lists_of bs)
      by [] h = tt
      by (b ∷ bs) h = (record { own = IsRising-pairs_of b.own h.0.own; top = IsRising-pairs_of b.top h.0.top; bottom = IsRising-pairs_of b.bottom h.0.bottom }, by bs h.1)

  one_of : (ps : Pairs) (a : ℕ) (x y : Term ℕ) → IsRising (map (λ (p : ℕ × Term ℕ). p.0) ps) → IsAmong ps (a, x) → IsAmong ps (a, y) → x ≡ y
  one_of ps a x y rising i j = ap (λ (p : ℕ × Term ℕ). p.1) (IsRising-same (λ (p : ℕ × Term ℕ). p.0) ps (a, x) (a, y) rising i j refl)

  once : (s : TreeSlot) (a : ℕ) (x y : Term ℕ) → IsPairAt d s (a, x) → IsPairAt d s (a, y) → x ≡ y
  once (at_node n part) a x y (lists, at, i) (others, at', j) =
      let same_lists : lists ≡ others = same_Some lists others (sym at ∙ at') in
      let rising : AreRisingLists lists = Each-at AreRisingLists (labels d.nodes) lists rising_lists (IsAmong-slice_get (labels d.nodes) n lists at) in
      one_of (list_of part lists) a x y (part_rising part lists rising) i (subst (λ z. IsAmong (list_of part z) (a, y)) (sym same_lists) j)
  once at_interface a x y i j = one_of (pairs_of t.iface) a x y (IsRising-pairs_of t.iface listed.iface) i j

  module _ (c : Decorated LabelPairs Label) (form : IsCanonicalForm (text_in texts) M (slotted d) c) where
    abbrev label : Term ℕ → Label
    label = form.label

    abbrev IsMetHere : Term ℕ → Type 0
    IsMetHere x = IsMet M (slotted d) x

    -- ---- values

    term_writable : (v : code.Term) → IsMetHere (term_of v) → IsFineLabel texts (label (term_of v)) → IsWritableTerm texts v
    term_writable (Const s) met h = subst (IsFineLabel texts) ((form.exact.names (name s.0) s.0 met).1 (same (name s.0))) h
    term_writable (Var y) met h = tt

    mark_writable : (v : code.Term) → IsMetHere (term_of v) → IsMarkLabel (label (term_of v)) → IsMark v
    mark_writable (Const s) met h = subst IsMarkLabel ((form.exact.names (name s.0) s.0 met).1 (same (name s.0))) h
    mark_writable (Var y) met h = by (label (variable y)) refl h
      where
        by : (l : Label) → label (variable y) ≡ l → IsMarkLabel l → ⊥
        by (named a) e k = let no : variable y ≡ name a = same_terms d once (variable y) (name a) ((form.exact.names (variable y) a met).0 e) in absurd cc
        by (numbered k) e h = h

    -- ---- a list of the tree, and the one of the form

    module _ (s : TreeSlot) (there : IsAmong (tree_slots (slotted d)) s) (bag : BagPairs) (pairs : (p : ℕ × Term ℕ) → IsAmong (pairs_of bag) p → IsPairAt d s p) (ps : LabelPairs) (lists : ListsSlot (text_in texts) M label s ps) where
      has_value : (attr : Sym) (v : code.Term) → IsAmong bag (attr, v) → HasValue M s attr.0 (term_of v)
      has_value attr v i = pair_value d s attr.0 (term_of v) (pairs (attr.0, term_of v) ((IsAmong-pairs_of bag attr v).1 i))

      met_value : (attr : Sym) (v : code.Term) → IsAmong bag (attr, v) → IsMetHere (term_of v)
      met_value attr v i = inl (s, attr.0, there, has_value attr v i)

      in_form : (attr : Sym) (v : code.Term) → IsAmong bag (attr, v) → IsAmong ps (attr.0, label (term_of v))
      in_form attr v i = (lists.pairs attr.0 (label (term_of v))).1 (term_of v, has_value attr v i, refl)

      pair_writable : (attr : Sym) (v : code.Term) → IsAmong bag (attr, v) → IsFineFeature texts (attr.0, label (term_of v)) → IsWritablePair texts (attr, v)
      pair_writable attr v i h = record { attribute = h.attribute; value = term_writable v (met_value attr v i) h.value }

      features_writable : Each (IsFineFeature texts) ps → Each (IsWritablePair texts) bag
      features_writable h = Each-members (IsWritablePair texts) bag (λ p i. pair_writable p.0 p.1 i (Each-at (IsFineFeature texts) ps (p.0.0, label (term_of p.1)) h (in_form p.0 p.1 i)))

      properties_writable : Each (IsFineProperty texts) ps → Each (IsWritableOwn texts) bag
      properties_writable h = Each-members (IsWritableOwn texts) bag (λ p i.
          let k : IsFineProperty texts (p.0.0, label (term_of p.1)) = Each-at (IsFineProperty texts) ps (p.0.0, label (term_of p.1)) h (in_form p.0 p.1 i) in
          record { pair = pair_writable p.0 p.1 i k.pair; uncoloured = k.uncoloured; mark = λ e. mark_writable p.1 (met_value p.0 p.1 i) (k.mark e) })

    -- ---- nodes

    slots_there : (i : ℕ) (b : Node BagPairs) → slice_get (labels nodes.forest) i ≡ Some b → IsAmong (labels (slotted d).nodes) (slots_at i)
    slots_there i b at =
        let lists : slice_get (labels d.nodes) i ≡ Some (lists_of b) = ap (λ xs. slice_get xs i) (labels-map lists_of nodes.forest) ∙ slice_get-mapped lists_of (labels nodes.forest) i b at in
        let counted = subst (λ xs. IsAmong xs (0 + i, lists_of b)) (sym (labels-numbered 0 d.nodes)) (IsAmong-count_from 0 i (labels d.nodes) (lists_of b) lists) in
        let mapped = subst (λ xs. IsAmong xs (slots_at (0 + i))) (sym (labels-map (λ (p : ℕ × Node Pairs). slots_at p.0) (with_numbers 0 d.nodes)))
        (IsAmong-map (λ (p : ℕ × Node Pairs). slots_at p.0) (labels (with_numbers 0 d.nodes)) (0 + i, lists_of b) counted) in
        subst (λ k. IsAmong (labels (slotted d).nodes) (slots_at k)) (omega arith) mapped

    slot_there : (n : Node TreeSlot) → IsAmong (labels (slotted d).nodes) n → (s : TreeSlot) → IsAmong (node_slots n) s → IsAmong (tree_slots (slotted d)) s
    slot_there n i s j = IsAmong-append_left (gathered node_slots (labels (slotted d).nodes)) (at_interface ∷ []) s (IsAmong-gathered node_slots (labels (slotted d).nodes) n s i j)

    bags_writable : Each (IsFineNode texts) (labels c.nodes) → (i : ℕ) (b : Node BagPairs) → slice_get (labels nodes.forest) i ≡ Some b → AreWritableBags texts b
    bags_writable fine i b at =
        let lists : slice_get (labels d.nodes) i ≡ Some (lists_of b) = ap (λ xs. slice_get xs i) (labels-map lists_of nodes.forest) ∙ slice_get-mapped lists_of (labels nodes.forest) i b at in
        let i' = slots_there i b at in
        let r = zip_answer (ListsNode (text_in texts) M label) (labels (slotted d).nodes) (labels c.nodes) (slots_at i) (labels-alike (ListsNode (text_in texts) M label) (slotted d).nodes c.nodes form.nodes) i' in
        let f : IsFineNode texts r.0 = Each-at (IsFineNode texts) (labels c.nodes) r.0 fine r.1 in
        record {
          own = properties_writable (at_node i own_part) (slot_there (slots_at i) i' (at_node i own_part) (inl refl)) b.own (λ p k. (lists_of b, lists, k)) r.0.own r.2.own f.own;
          top = features_writable (at_node i top_part) (slot_there (slots_at i) i' (at_node i top_part) (inr (inl refl))) b.top (λ p k. (lists_of b, lists, k)) r.0.top r.2.top f.top;
          bottom = features_writable (at_node i bottom_part) (slot_there (slots_at i) i' (at_node i bottom_part) (inr (inr (inl refl)))) b.bottom (λ p k. (lists_of b, lists, k)) r.0.bottom r.2.bottom f.bottom;
        }

    nodes_writable : Each (IsFineNode texts) (labels c.nodes) → Each (IsWritableNode texts) t.nodes
    nodes_writable fine = subst (Each (IsWritableNode texts)) (sym nodes.laid)
        (laid_nodes (IsWritableNode texts) (AreWritableBags texts) (λ parent b h. record { own = h.own; top = h.top; bot = h.bottom }) 0 None nodes.forest
        (Each-members (AreWritableBags texts) (labels nodes.forest) (λ b j. let r = slice_get-IsAmong (labels nodes.forest) b j in bags_writable fine r.0 b r.1)))

    -- ---- literals

    met_literal : (l : Literal) → IsAmong t.sem l → (x : Term ℕ) → IsAmong (literal_terms (literal_of l)) x → IsMetHere x
    met_literal l i x j = inr (IsAmong-gathered literal_terms (literals_of t.sem) (literal_of l) x (IsAmong-map literal_of t.sem l i) j)

    terms_writable : (vs : List code.Term) → ((x : Term ℕ) → IsAmong (map term_of vs) x → IsMetHere x) → Each (IsFineLabel texts) (map label (map term_of vs)) → Each (IsWritableTerm texts) vs
    terms_writable [] met h = tt
    terms_writable (v ∷ vs) met h = (term_writable v (met (term_of v) (inl refl)) h.0, terms_writable vs (λ x i. met x (inr i)) h.1)

    literal_writable : (l : Literal) → IsAmong t.sem l → Each (IsFineLabel texts) (literal_terms (map_literal label (literal_of l))) → IsWritableLiteral texts l
    literal_writable l i h = record {
      handle = term_writable l.handle (met_literal l i (term_of l.handle) (inl refl)) h.0;
      pred = term_writable l.pred (met_literal l i (term_of l.pred) (inr (inl refl))) h.1.0;
      args = terms_writable l.args (λ x j. met_literal l i x (inr (inr j))) h.1.1;
    }

    literals_writable : Each (λ l. Each (IsFineLabel texts) (literal_terms l)) c.literals → Each (IsWritableLiteral texts) t.sem
    literals_writable h = Each-members (IsWritableLiteral texts) t.sem (λ l i.
        literal_writable l i
        (Each-at (λ l. Each (IsFineLabel texts) (literal_terms l)) (map (map_literal label) (literals_of t.sem)) (map_literal label (literal_of l))
        (subst (Each (λ l. Each (IsFineLabel texts) (literal_terms l))) form.literals h)
        (IsAmong-map (map_literal label) (literals_of t.sem) (literal_of l) (IsAmong-map literal_of t.sem l i))))

    pub tree_writable : IsFineForm texts c → IsWritableTree texts t
    tree_writable fine = record {
      nodes = nodes_writable fine.nodes;
      iface = features_writable at_interface (IsAmong-append_right (gathered node_slots (labels (slotted d).nodes)) (at_interface ∷ []) at_interface (inl refl)) t.iface (λ p i. i) c.interface form.interface fine.interface;
      sem = literals_writable fine.literals;
    }
