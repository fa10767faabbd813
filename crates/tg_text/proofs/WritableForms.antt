-- The form of a tree that can be written: its names can be written, its numbers are small, and its properties break no rule.
use Rattle.std.specs.Prelude.{◌≡◌, ℕ, suc, ◌+◌, ◌<◌, ◌≤◌, ◌^◌, true, List, [], ◌∷◌, map, length, codes, Option, Some, None, if◌then◌else◌, refl}
use Rattle.std.proofs.Common.{inl, inr, ap, sym, ◌∙◌, subst, arith}
use Rattle.std.proofs.lemmas.List.{length-map}
use Rattle.gr_base.specs.Lists.{IsAmong, Each}
use Rattle.gr_base.specs.Forests.{Forest, empty, tree, labels, map_forest, size}
use Rattle.gr_base.proofs.ListLemmas.{Each-at, Each-append, Each-left, Each-members, Each-right, IsAmong-map_from}
use Rattle.gr_base.proofs.ForestLemmas.{size-map, one_tree-map}
use Rattle.gr_text.specs.Words.{is_word, quoted}
use Rattle.gr_terms.specs.BagViews.{pairs_of}
use Rattle.gr_terms.specs.Bags.{IsListed}
use Rattle.gr_terms.specs.Canonical.{Label, Node, Pairs, category, properties, map_literal}
use Rattle.gr_terms.specs.Constants.{CAT, MARK, ANCHOR, COANCHOR, SUBST, FOOT, LEX, NADJ}
use Rattle.gr_terms.specs.LiteralViews.{literals_of}
use Rattle.gr_terms.specs.Networks.{Term}
use Rattle.gr_terms.specs.Views.{term_of}
use Rattle.gr_terms.specs.declared.Literal.{Literal as CodeLiteral}
use Rattle.gr_terms.specs.declared.Sym.{Sym}
use Rattle.gr_terms.specs.declared.Term.{Term as Value}
use Rattle.gr_terms.specs.declared.Term.TheVariants.{Const, Var}
use Rattle.td_tree.specs.Trees.{BagPairs, IsListedNode, preorder}
use Rattle.td_tree.specs.TreeNetworks.{slotted, tree_network}
use Rattle.td_tree.specs.TreeViews.{decorated_of, lists_of}
use Rattle.td_tree.specs.declared.Tree.{Tree}
use Rattle.td_tree.proofs.PreorderLemmas.{length-preorder}
use Rattle.td_canon.specs.CanonicalTexts.{HasText, IsNamedBag, IsNamedNode, IsNamedTerm, text_in}
use Rattle.td_canon.specs.TreeText.{decorated_text, label_text}
use Rattle.td_canon.specs.Writing.{AreOrderedBags, IsOrderedBag, form_node, form_of, in_order, label_in, labelled, meet_all, tree_terms}
use Rattle.td_canon.proofs.CountLemmas.{length-meet_all}
use Rattle.td_canon.proofs.FormLemmas.{IsOrderedTree, canonical_form, walked-form}
use Rattle.td_canon.proofs.OrderLemmas.{in_order-order, in_order-within, texts_apart}
use Rattle.td_canon.proofs.SortLemmas.{once_by_text}
use Rattle.td_canon.proofs.TellingLemmas.{tree_tells}
use Rattle.td_canon.proofs.TextLemmas.{ordered_lists, ordered_pairs}
use Rattle.td_canon.proofs.UniqueForms.{one_form}
use Rattle.tg_syntax.specs.Breaks.{reserved, marks}
use Rattle.tg_reader.specs.Writable.{IsMark, IsTable, IsWritableLiteral, IsWritableNode, IsWritableOwn, IsWritablePair, IsWritableTerm, IsWritableTree}
use Rattle.tg_reader.proofs.Held.{category_from, properties_from}
use Rattle.tg_reader.proofs.Readable.{place_within}
use Rattle.tg_reader.proofs.WalkLengths.{walk_length}
use Rattle.tg_text.proofs.FileTexts.{IsTaken}
use Rattle.tg_text.proofs.FormTexts.{CanWrite, CanWriteForm, CanWriteLiteral, CanWriteNode, CanWritePair, CanWriteProperty, form_takes}

module _ (texts : List (List ℕ)) (table : IsTable texts) where
  abbrev text : ℕ → List ℕ
  text = text_in texts

  -- ---- the form of the text

  ordered_bag : (bag : BagPairs) → IsListed bag → IsNamedBag (length texts) bag → IsOrderedBag text bag
  ordered_bag bag listed named = record { listed = listed; order = in_order-order text (pairs_of bag) (once_by_text texts bag table.once listed named) }

  ordered_bags : (n : ℕ) (parent : Option ℕ) (f : Forest (Node BagPairs)) → Each (IsNamedNode (length texts)) (preorder n parent f) → Each IsListedNode (preorder n parent f) → Each (AreOrderedBags text) (labels f)
  ordered_bags n parent empty named listed = tt
  ordered_bags n parent (tree b kids more) named listed =
      let under = preorder (suc n) (Some n) kids in
      let right = preorder (suc n + size kids) parent more in (
        record { own = ordered_bag b.own listed.0.own named.0.own; top = ordered_bag b.top listed.0.top named.0.top; bottom = ordered_bag b.bottom listed.0.bot named.0.bot },
        Each-append (AreOrderedBags text) (labels kids) (labels more)
            (ordered_bags (suc n) (Some n) kids (Each-left (IsNamedNode (length texts)) under right named.1) (Each-left IsListedNode under right listed.1))
            (ordered_bags (suc n + size kids) parent more (Each-right (IsNamedNode (length texts)) under right named.1) (Each-right IsListedNode under right listed.1)),
      )

  abbrev all_met : Tree → Forest (Node BagPairs) → List ℕ
  all_met t f = meet_all [] (tree_terms text (decorated_of f t))

  form_is : (t : Tree) (x : List ℕ) (has : HasText texts t x) → x ≡ decorated_text text (form_of text (label_in (all_met t has.nodes.forest)) (decorated_of has.nodes.forest t))
  form_is t x has =
      let f = has.nodes.forest in
      let d = decorated_of f t in
      let bags = ordered_bags 0 None f (subst (Each (IsNamedNode (length texts))) has.nodes.laid has.named.nodes) (subst (Each IsListedNode) has.nodes.laid has.listed.nodes) in
      let ordered : IsOrderedTree text d = record { nodes = ordered_lists text f bags; interface = ordered_pairs text t.iface (ordered_bag t.iface has.listed.iface has.named.iface) } in
      let tells = tree_tells texts t f table.once has.nodes.laid has.named in
      has.spells.spells
      ∙ ap (decorated_text text)
      (one_form text (tree_network d) (slotted d) (λ p q (s, v, i, h) (r, w, j, k) e. tells p q s r v w i j h k e) has.spells.form (form_of text (label_in (all_met t f)) d) has.spells.canonical (canonical_form text d ordered))

  -- ---- the first texts of the table

  abbrev more : List (List ℕ)
  more = table.first.0

  enough : 9 < length texts
  enough = let e = ap length table.first.1 in omega (arith, e)

  -- a mark by its number is one by its text, and is spelled by it
  mark_spelled : (n m : ℕ) (t : List ℕ) → n ≡ m → text m ≡ t → is_word t ≡ true → (if is_word (text n) then text n else quoted (text n)) ≡ t
  mark_spelled n m t e f w =
      let is : text n ≡ t = ap text e ∙ f in
      ap (λ z. if is_word z then z else quoted z) is ∙ ap (λ b. if b then t else quoted t) w

  module _ (met : List ℕ) (few : suc (length met) < 10 ^ 9) where
    abbrev label : Term ℕ → Label
    label = label_in met

    mark_written : (v : Value) → IsMark v → IsAmong marks (label_text text (label (term_of v)))
    mark_written (Var v) h = absurd h
    mark_written (Const s) (inl e) = inl (mark_spelled s.0 ANCHOR (codes "anchor") e (ap (λ z. text_in z ANCHOR) table.first.1) refl)
    mark_written (Const s) (inr (inl e)) = inr (inl (mark_spelled s.0 COANCHOR (codes "coanchor") e (ap (λ z. text_in z COANCHOR) table.first.1) refl))
    mark_written (Const s) (inr (inr (inl e))) = inr (inr (inl (mark_spelled s.0 SUBST (codes "subst") e (ap (λ z. text_in z SUBST) table.first.1) refl)))
    mark_written (Const s) (inr (inr (inr (inl e)))) = inr (inr (inr (inl (mark_spelled s.0 FOOT (codes "foot") e (ap (λ z. text_in z FOOT) table.first.1) refl))))
    mark_written (Const s) (inr (inr (inr (inr (inl e))))) = inr (inr (inr (inr (inl (mark_spelled s.0 LEX (codes "lex") e (ap (λ z. text_in z LEX) table.first.1) refl)))))
    mark_written (Const s) (inr (inr (inr (inr (inr (inl e)))))) = inr (inr (inr (inr (inr (inl (mark_spelled s.0 NADJ (codes "nadj") e (ap (λ z. text_in z NADJ) table.first.1) refl))))))
    mark_written (Const s) (inr (inr (inr (inr (inr (inr i)))))) = absurd i

    -- ---- terms and pairs

    write_term : (v : Value) → IsWritableTerm texts v → CanWrite text (label (term_of v))
    write_term (Const s) h = h
    write_term (Var v) h = omega (arith, few, place_within v met)

    abbrev pair_of : Sym × Value → ℕ × Label
    pair_of p = (p.0.0, label (term_of p.1))

    write_pair : (p : Sym × Value) → IsWritablePair texts p → CanWritePair text (pair_of p)
    write_pair p h = record { attribute = h.attribute; value = write_term p.1 h.value }

    write_property : (p : Sym × Value) → p.0.0 < length texts → IsWritableOwn texts p → (p.0.0 ≡ CAT → ⊥) → CanWriteProperty text (pair_of p)
    write_property p named h other = record { pair = write_pair p h.pair; free = free; mark = mark }
      where
        free : IsAmong reserved (text_in texts p.0.0) → ⊥
        free (inl e) = other (texts_apart texts p.0.0 CAT table.once named (omega (arith, enough)) (e ∙ sym (ap (λ z. text_in z CAT) table.first.1)))
        free (inr (inl e)) = h.uncoloured e
        free (inr (inr e)) = e

        mark : text_in texts p.0.0 ≡ codes "mark" → IsAmong marks (label_text (text_in texts) (label_in met (term_of p.1)))
        mark e = mark_written p.1 (h.mark (texts_apart texts p.0.0 MARK table.once named (omega (arith, enough)) (e ∙ sym (ap (λ z. text_in z MARK) table.first.1))))

    abbrev pairs_in : BagPairs → Pairs
    pairs_in bag = labelled label (in_order text (pairs_of bag))

    -- each pair of the form is one of the bag
    from_bag : (bag : BagPairs) (q : ℕ × Label) → IsAmong (pairs_in bag) q → (p : Sym × Value) × IsAmong bag p × (q ≡ pair_of p)
    from_bag bag q i =
        let r = IsAmong-map_from (λ (z : ℕ × Term ℕ). (z.0, label z.1)) (in_order text (pairs_of bag)) q i in
        let p = IsAmong-map_from (λ (z : Sym × Value). (z.0.0, term_of z.1)) bag r.0 (in_order-within text (pairs_of bag) r.0 r.1) in
        (p.0, p.1, r.2 ∙ ap (λ (z : ℕ × Term ℕ). (z.0, label z.1)) p.2)

    write_bag : (bag : BagPairs) → Each (IsWritablePair texts) bag → Each (CanWritePair text) (pairs_in bag)
    write_bag bag h =
        Each-members (CanWritePair text) (pairs_in bag) (λ q i.
        let r = from_bag bag q i in subst (CanWritePair text) (sym r.2) (write_pair r.0 (Each-at (IsWritablePair texts) bag r.0 h r.1)))

    write_category : (bag : BagPairs) → Each (IsWritableOwn texts) bag → Each (CanWrite text) (category (pairs_in bag))
    write_category bag h =
        Each-members (CanWrite text) (category (pairs_in bag)) (λ v i.
        let r = from_bag bag (CAT, v) (category_from (pairs_in bag) v i) in
        subst (CanWrite text) (sym (ap (λ (z : ℕ × Label). z.1) r.2)) (write_term r.0.1 (Each-at (IsWritableOwn texts) bag r.0 h r.1).pair.value))

    write_properties : (bag : BagPairs) → IsNamedBag (length texts) bag → Each (IsWritableOwn texts) bag → Each (CanWriteProperty text) (properties (pairs_in bag))
    write_properties bag named h =
        Each-members (CanWriteProperty text) (properties (pairs_in bag)) (λ q i.
        let c = properties_from (pairs_in bag) q i in
        let r = from_bag bag q c.0 in
        let n = Each-at (λ (z : Sym × Value). (z.0.0 < length texts) × IsNamedTerm (length texts) z.1) bag r.0 named r.1 in
        subst (CanWriteProperty text) (sym r.2) (write_property r.0 n.0 (Each-at (IsWritableOwn texts) bag r.0 h r.1) (λ e. c.1 (ap (λ (z : ℕ × Label). z.0) r.2 ∙ e))))

    -- ---- nodes and literals

    write_nodes : (n : ℕ) (parent : Option ℕ) (f : Forest (Node BagPairs)) → Each (IsNamedNode (length texts)) (preorder n parent f) → Each (IsWritableNode texts) (preorder n parent f) →
        Each (CanWriteNode text) (labels (map_forest (form_node text label) (map_forest lists_of f)))
    write_nodes n parent empty named h = tt
    write_nodes n parent (tree b kids more) named h =
        let under = preorder (suc n) (Some n) kids in
        let right = preorder (suc n + size kids) parent more in (
          record { category = write_category b.own h.0.own; properties = write_properties b.own named.0.own h.0.own; top = write_bag b.top h.0.top; bottom = write_bag b.bottom h.0.bot },
          Each-append (CanWriteNode text) (labels (map_forest (form_node text label) (map_forest lists_of kids))) (labels (map_forest (form_node text label) (map_forest lists_of more)))
              (write_nodes (suc n) (Some n) kids (Each-left (IsNamedNode (length texts)) under right named.1) (Each-left (IsWritableNode texts) under right h.1))
              (write_nodes (suc n + size kids) parent more (Each-right (IsNamedNode (length texts)) under right named.1) (Each-right (IsWritableNode texts) under right h.1)),
        )

    write_terms : (vs : List Value) → Each (IsWritableTerm texts) vs → Each (CanWrite text) (map label (map term_of vs))
    write_terms [] h = tt
    write_terms (v ∷ vs) h = (write_term v h.0, write_terms vs h.1)

    write_literals : (ls : List CodeLiteral) → Each (IsWritableLiteral texts) ls → Each (CanWriteLiteral text) (map (map_literal label) (literals_of ls))
    write_literals [] h = tt
    write_literals (l ∷ ls) h = (record { handle = write_term l.handle h.0.handle; pred = write_term l.pred h.0.pred; args = write_terms l.args h.0.args }, write_literals ls h.1)

    write_form : (t : Tree) (x : List ℕ) (has : HasText texts t x) → IsWritableTree texts t → CanWriteForm text (form_of text label (decorated_of has.nodes.forest t))
    write_form t x has h =
        let f = has.nodes.forest in
        let laid = has.nodes.laid in
        let count : size (map_forest (form_node text label) (map_forest lists_of f)) ≡ length t.nodes =
        size-map (form_node text label) (map_forest lists_of f) ∙ size-map lists_of f ∙ sym (length-preorder 0 None f) ∙ ap length (sym laid) in
        record {
          one = one_tree-map (form_node text label) (map_forest lists_of f) (one_tree-map lists_of f has.nodes.one);
          few = omega (arith, count, has.nodes.few);
          nodes = write_nodes 0 None f (subst (Each (IsNamedNode (length texts))) laid has.named.nodes) (subst (Each (IsWritableNode texts)) laid h.nodes);
          interface = write_bag t.iface h.iface;
          literals = write_literals t.sem h.sem;
        }

  -- ---- so the text is taken

  met_few : (t : Tree) (x : List ℕ) (has : HasText texts t x) → length (all_met t has.nodes.forest) ≤ length x
  met_few t x has =
      let d = decorated_of has.nodes.forest t in
      let label = label_in (all_met t has.nodes.forest) in
      let walk : length (tree_terms text d) ≡ length (map label (tree_terms text d)) = sym (length-map (tree_terms text d) label) in
      let same = ap length (walked-form text label d) in
      let long = ap length (form_is t x has) in
      omega (arith, length-meet_all [] (tree_terms text d), walk, same, long, walk_length text (form_of text label d))

  pub tree_taken : (t : Tree) (x : List ℕ) → HasText texts t x → IsWritableTree texts t → suc (length x) < 10 ^ 9 → IsTaken x
  tree_taken t x has h few rest =
      let met = all_met t has.nodes.forest in
      let small : suc (length met) < 10 ^ 9 = omega (arith, few, met_few t x has) in
      subst IsTaken (sym (form_is t x has)) (form_takes text (form_of text (label_in met) (decorated_of has.nodes.forest t)) (write_form met small t x has h)) rest
