-- The form of a tree that can be written can be read.
use Rattle.std.specs.Prelude.{◌≡◌, ◌≢◌, ℕ, suc, ◌+◌, ◌<◌, ◌≤◌, ◌^◌, Bool, true, false, ◌==◌, List, [], ◌∷◌, map, length, codes, Option, Some, None, ◌⊎◌, if◌then◌else◌, refl}
use Rattle.std.proofs.Common.{inl, inr, ap, sym, ◌∙◌, subst, arith}
use Rattle.std.proofs.lemmas.List.{length-map}
use Rattle.gr_base.specs.Lists.{Each, IsAmong}
use Rattle.gr_base.specs.Forests.{Forest, empty, tree, AreAlike, labels, map_forest, size}
use Rattle.gr_base.proofs.ListLemmas.{Each-append, Each-at, Each-left, Each-members, Each-right, IsAmong-map_from}
use Rattle.gr_base.proofs.ForestLemmas.{size-map, one_tree-map}
use Rattle.gr_terms.specs.BagViews.{pairs_of}
use Rattle.gr_terms.specs.Canonical.{Decorated, Label, ListsNode, Node, Pairs, category, map_literal, named, numbered, properties, walked}
use Rattle.gr_terms.specs.Constants.{ANCHOR, CAT, COANCHOR, FOOT, LEX, MARK, NADJ, SUBST}
use Rattle.gr_terms.specs.LiteralViews.{literals_of}
use Rattle.gr_terms.specs.Networks.{Assertion, Term}
use Rattle.gr_terms.specs.Views.{term_of}
use Rattle.gr_terms.specs.declared.Literal.{Literal}
use Rattle.gr_terms.specs.declared.Sym.{Sym}
use Rattle.gr_terms.specs.declared.Term.{Term as Value}
use Rattle.gr_terms.specs.declared.Term.TheVariants.{Const, Var}
use Rattle.td_canon.specs.CanonicalTexts.{HasText, text_in}
use Rattle.td_canon.specs.TreeText.{decorated_text}
use Rattle.td_canon.specs.Writing.{form_node, form_of, in_order, label_in, labelled, meet_all, tree_terms}
use Rattle.td_canon.proofs.CountLemmas.{length-meet_all}
use Rattle.td_canon.proofs.FormLemmas.{canonical_form, walked-form}
use Rattle.td_canon.proofs.GrowthLemmas.{ordered_tree}
use Rattle.td_canon.proofs.MeetingLemmas.{is_met, place, place-absent, stands_in}
use Rattle.td_canon.proofs.OrderLemmas.{in_order-within}
use Rattle.td_canon.proofs.TellingLemmas.{tree_tells}
use Rattle.td_canon.proofs.UniqueForms.{one_form}
use Rattle.td_tree.specs.Trees.{BagPairs, node_of, preorder}
use Rattle.td_tree.specs.TreeNetworks.{slotted, tree_network}
use Rattle.td_tree.specs.TreeViews.{decorated_of, lists_of}
use Rattle.td_tree.specs.declared.Tree.{Tree}
use Rattle.td_tree.specs.declared.TreeNode.{TreeNode}
use Rattle.td_tree.proofs.PreorderLemmas.{length-preorder}
use Rattle.tg_reader.specs.Reading.{CanRead, CanReadCategory, CanReadLiteral, CanReadNode, CanReadPair, CanReadPairs, CanReadTree}
use Rattle.tg_reader.specs.Writable.{IsMark, IsTable, IsWritableLiteral, IsWritableNode, IsWritableOwn, IsWritablePair, IsWritableTerm, IsWritableTree}
use Rattle.tg_reader.proofs.Closing.{IsOrderedForm, IsOrderedNode}
use Rattle.tg_reader.proofs.Held.{properties_from}
use Rattle.tg_reader.proofs.Tables.{first_is, first_names, only_number}
use Rattle.tg_reader.proofs.WalkLengths.{walk_length}
use Rattle.gr_text.specs.Limits.{IsShort}

-- ---- forms in order

ordered_nodes : {V S : Type 0} (text : ℕ → List ℕ) (N : List (Assertion V S)) (label : Term V → Label) (f : Forest (Node S)) (g : Forest (Node Pairs)) → AreAlike (ListsNode text N label) f g → Each (IsOrderedNode text) (labels g)
ordered_nodes text N label empty empty alike = tt
ordered_nodes text N label empty (tree p others rest) alike = absurd alike
ordered_nodes text N label (tree n kids more) empty alike = absurd alike
ordered_nodes text N label (tree n kids more) (tree p others rest) alike = (
  record { own = alike.0.own.order; top = alike.0.top.order; bottom = alike.0.bottom.order },
  Each-append (IsOrderedNode text) (labels others) (labels rest) (ordered_nodes text N label kids others alike.1) (ordered_nodes text N label more rest alike.2),
)

-- ---- marks by their texts

abbrev pub IsMarkText : (ℕ → List ℕ) → Label → Type 0
IsMarkText text (named a) =
    (text a ≡ codes "anchor") ⊎ ((text a ≡ codes "coanchor") ⊎ ((text a ≡ codes "subst") ⊎ ((text a ≡ codes "foot") ⊎ ((text a ≡ codes "lex") ⊎ (text a ≡ codes "nadj")))))
IsMarkText text (numbered k) = ⊥

pub record StandsWell (text : ℕ → List ℕ) (p : ℕ × Label) : Type 0 where
  pub can : CanReadPair text p
  pub uncoloured : text p.0 ≢ codes "color"
  pub mark : text p.0 ≡ codes "mark" → IsMarkText text p.1

-- ---- categories and properties

category_can : (text : ℕ → List ℕ) (ps : Pairs) → CanReadPairs text ps → CanReadCategory text (category ps)
category_can text [] can = tt
category_can text (p ∷ ps) can = by (p.0 == CAT) (category_can text ps can.1)
  where
    by : (b : Bool) → CanReadCategory text (category ps) → CanReadCategory text (if b then (p.1 ∷ []) else category ps)
    by true later = can.0.value
    by false later = later

properties_can : (text : ℕ → List ℕ) (ps : Pairs) → CanReadPairs text ps → CanReadPairs text (properties ps)
properties_can text ps can = Each-members (CanReadPair text) (properties ps) (λ p i. Each-at (CanReadPair text) ps p can (properties_from ps p i).0)

-- a variable's place is not behind those that were met
pub place_within : (v : ℕ) (met : List ℕ) → place v met ≤ length met
place_within v met = by (is_met v met) refl
  where
    by : (b : Bool) → is_met v met ≡ b → place v met ≤ length met
    by true e = let h : place v met < length met = (stands_in v met [] e).within in omega arith
    by false e = let h : place v met ≡ length met = place-absent v met e in omega arith

module _ (old : List (List ℕ)) (table : IsTable old) (met : List ℕ) (few : suc (length met) < 10 ^ 9) where
  can_term : (v : Value) → IsWritableTerm old v → CanRead (text_in old) (label_in met (term_of v))
  can_term (Const s) writable = writable
  can_term (Var v) writable = omega (arith, few, place_within v met)

  can_pair : (p : Sym × Value) → IsWritablePair old p → CanReadPair (text_in old) (p.0.0, label_in met (term_of p.1))
  can_pair p writable = record { attribute = writable.attribute; value = can_term p.1 writable.value }

  -- what holds of each pair holds of each pair in order with its label
  each_labelled : (P : ℕ × Label → Type 0) (bag : BagPairs) → ((p : Sym × Value) → IsAmong bag p → P (p.0.0, label_in met (term_of p.1))) → Each P (labelled (label_in met) (in_order (text_in old) (pairs_of bag)))
  each_labelled P bag each = Each-members P (labelled (label_in met) (in_order (text_in old) (pairs_of bag))) (λ q i.
      let r = IsAmong-map_from (λ (z : ℕ × Term ℕ). (z.0, label_in met z.1)) (in_order (text_in old) (pairs_of bag)) q i in
      let p = IsAmong-map_from (λ (z : Sym × Value). (z.0.0, term_of z.1)) bag r.0 (in_order-within (text_in old) (pairs_of bag) r.0 r.1) in
      subst P (sym (r.2 ∙ ap (λ (z : ℕ × Term ℕ). (z.0, label_in met z.1)) p.2)) (each p.0 p.1))

  can_bag : (bag : BagPairs) → Each (IsWritablePair old) bag → CanReadPairs (text_in old) (labelled (label_in met) (in_order (text_in old) (pairs_of bag)))
  can_bag bag writable = each_labelled (CanReadPair (text_in old)) bag (λ p i. can_pair p (Each-at (IsWritablePair old) bag p writable i))

  own_pairs_of : (bag : BagPairs) → Each (IsWritableOwn old) bag → Each (IsWritablePair old) bag
  own_pairs_of bag writable = Each-members (IsWritablePair old) bag (λ p i. (Each-at (IsWritableOwn old) bag p writable i).pair)

  is_first : (n : ℕ) (s : Sym) (t : List ℕ) → text_in old n ≡ t → s.0 ≡ n → text_in old s.0 ≡ t
  is_first n s t is e = ap (text_in old) e ∙ is

  mark_text : (v : Value) → IsMark v → IsMarkText (text_in old) (label_in met (term_of v))
  mark_text (Var v) mark = mark
  mark_text (Const s) (inl e) = inl (is_first ANCHOR s _ (first_is old table.once table.first ANCHOR (codes "anchor") refl) e)
  mark_text (Const s) (inr (inl e)) = inr (inl (is_first COANCHOR s _ (first_is old table.once table.first COANCHOR (codes "coanchor") refl) e))
  mark_text (Const s) (inr (inr (inl e))) = inr (inr (inl (is_first SUBST s _ (first_is old table.once table.first SUBST (codes "subst") refl) e)))
  mark_text (Const s) (inr (inr (inr (inl e)))) = inr (inr (inr (inl (is_first FOOT s _ (first_is old table.once table.first FOOT (codes "foot") refl) e))))
  mark_text (Const s) (inr (inr (inr (inr (inl e))))) = inr (inr (inr (inr (inl (is_first LEX s _ (first_is old table.once table.first LEX (codes "lex") refl) e)))))
  mark_text (Const s) (inr (inr (inr (inr (inr (inl e)))))) = inr (inr (inr (inr (inr (is_first NADJ s _ (first_is old table.once table.first NADJ (codes "nadj") refl) e)))))
  mark_text (Const s) (inr (inr (inr (inr (inr (inr i)))))) = absurd i

  well : (bag : BagPairs) → Each (IsWritableOwn old) bag → Each (StandsWell (text_in old)) (labelled (label_in met) (in_order (text_in old) (pairs_of bag)))
  well bag writable = each_labelled (StandsWell (text_in old)) bag (λ p i.
      let own = Each-at (IsWritableOwn old) bag p writable i in
      record {
        can = can_pair p own.pair;
        uncoloured = own.uncoloured;
        mark = λ e. mark_text p.1 (own.mark (only_number old table.once table.first MARK p.0.0 (codes "mark") (first_names old table.once table.first MARK (codes "mark") refl) (λ h. absurd cc) e));
      })

  -- ---- nodes

  pub record IsGoodNode (n : Node Pairs) : Type 0 where
    pub can : CanReadNode (text_in old) n
    pub well : Each (StandsWell (text_in old)) n.own

  good_node : (parent : Option ℕ) (b : Node BagPairs) → IsWritableNode old (node_of parent b) → IsGoodNode (form_node (text_in old) (label_in met) (lists_of b))
  good_node parent b writable =
      let own = can_bag b.own (own_pairs_of b.own writable.own) in
      record {
        can = record { category = category_can (text_in old) _ own; properties = properties_can (text_in old) _ own; top = can_bag b.top writable.top; bottom = can_bag b.bottom writable.bot };
        well = well b.own writable.own;
      }

  good_nodes : (n : ℕ) (parent : Option ℕ) (f : Forest (Node BagPairs)) → Each (IsWritableNode old) (preorder n parent f) → Each IsGoodNode (labels (map_forest (form_node (text_in old) (label_in met)) (map_forest lists_of f)))
  good_nodes n parent empty writable = tt
  good_nodes n parent (tree b kids more) writable = (
    good_node parent b writable.0,
    Each-append IsGoodNode (labels (map_forest (form_node (text_in old) (label_in met)) (map_forest lists_of kids))) (labels (map_forest (form_node (text_in old) (label_in met)) (map_forest lists_of more)))
        (good_nodes (suc n) (Some n) kids (Each-left (IsWritableNode old) (preorder (suc n) (Some n) kids) (preorder (suc n + size kids) parent more) writable.1))
        (good_nodes (suc n + size kids) parent more (Each-right (IsWritableNode old) (preorder (suc n) (Some n) kids) (preorder (suc n + size kids) parent more) writable.1)),
  )

  can_of : (ns : List (Node Pairs)) → Each IsGoodNode ns → Each (CanReadNode (text_in old)) ns
  can_of [] good = tt
  can_of (n ∷ ns) good = (good.0.can, can_of ns good.1)

  -- ---- literals

  can_terms : (vs : List Value) → Each (IsWritableTerm old) vs → Each (CanRead (text_in old)) (map (label_in met) (map term_of vs))
  can_terms [] writable = tt
  can_terms (v ∷ vs) writable = (can_term v writable.0, can_terms vs writable.1)

  can_literals : (ls : List Literal) → Each (IsWritableLiteral old) ls → Each (CanReadLiteral (text_in old)) (map (map_literal (label_in met)) (literals_of ls))
  can_literals [] writable = tt
  can_literals (l ∷ ls) writable = (
    record { handle = can_term l.handle writable.0.handle; pred = can_term l.pred writable.0.pred; args = can_terms l.args writable.0.args },
    can_literals ls writable.1,
  )

-- ---- a tree that can be written

pub record IsWell (text : ℕ → List ℕ) (n : Node Pairs) : Type 0 where
  pub own : Each (StandsWell text) n.own

-- its form undoes its text
pub record Readable (old : List (List ℕ)) (x : List ℕ) (form : Decorated Pairs Label) : Type 0 where
  pub text_is : x ≡ decorated_text (text_in old) form
  pub can : CanReadTree (text_in old) form
  pub ordered : IsOrderedForm (text_in old) form
  pub well : Each (IsWell (text_in old)) (labels form.nodes)

pub readable : (old : List (List ℕ)) → IsTable old → (t : Tree) (x : List ℕ) → (has : HasText old t x) → IsWritableTree old t → IsShort x → Readable old x has.spells.form
readable old table t x has writable short =
    let f = has.nodes.forest in
    let d = decorated_of f t in
    let text = text_in old in
    let met = meet_all [] (tree_terms text d) in
    let tells = tree_tells old t f table.once has.nodes.laid has.named in
    let in_order_all = ordered_tree old table.once t f has.nodes.laid has.named has.listed in
    let canonical = canonical_form text d in_order_all in
    let same = one_form text (tree_network d) (slotted d) (λ p q (s, v, i, h) (r, w, j, k) e. tells p q s r v w i j h k e) has.spells.form (form_of text (label_in met) d) has.spells.canonical canonical in
    let text_is : x ≡ decorated_text text (form_of text (label_in met) d) = has.spells.spells ∙ ap (decorated_text text) same in
    let long : length x ≡ length (decorated_text text (form_of text (label_in met) d)) = ap (λ (z : List ℕ). length z) text_is in
    let walk : length (walked (form_of text (label_in met) d)) ≡ length (tree_terms text d) = ap (λ (z : List Label). length z) (walked-form text (label_in met) d) ∙ length-map (tree_terms text d) (label_in met) in
    let few : suc (length met) < 10 ^ 9 = omega (arith, short, long, walk, walk_length text (form_of text (label_in met) d), length-meet_all [] (tree_terms text d)) in
    let good = good_nodes old table met few 0 None f (subst (λ ns. Each (IsWritableNode old) ns) has.nodes.laid writable.nodes) in
    let sizes : length t.nodes ≡ size f = ap (λ (z : List TreeNode). length z) has.nodes.laid ∙ length-preorder 0 None f in
    subst (λ c. Readable old x c) (sym same) (record {
      text_is = text_is;
      can = record {
        one = one_tree-map (form_node text (label_in met)) (map_forest lists_of f) (one_tree-map lists_of f has.nodes.one);
        few = omega (arith, has.nodes.few, sizes, size-map (form_node text (label_in met)) (map_forest lists_of f), size-map lists_of f);
        nodes = can_of old table met few _ good;
        interface = can_bag old table met few t.iface writable.iface;
        literals = can_literals old table met few t.sem writable.sem;
      };
      ordered = record { nodes = ordered_nodes text (tree_network d) canonical.label _ _ canonical.nodes; interface = canonical.interface.order; numbers = canonical.order };
      well = well_all (labels (map_forest (form_node text (label_in met)) (map_forest lists_of f))) met few good;
    })
  where
    well_all : (ns : List (Node Pairs)) (met : List ℕ) (few : suc (length met) < 10 ^ 9) → Each (IsGoodNode old table met few) ns → Each (IsWell (text_in old)) ns
    well_all [] met few good = tt
    well_all (n ∷ ns) met few good = (record { own = good.0.well }, well_all ns met few good.1)
