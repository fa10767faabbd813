-- The canonical text of a tree that can be written is UTF-8 and has no byte below 32, so none that ends a line.
use Rattle.std.specs.Prelude.{◌≡◌, ℕ, zero, suc, ◌+◌, ◌≤◌, ◌/◌, ◌%◌, ◌<◌, ◌==◌, ◌&&◌, nat_le, nat_lt, Bool, true, false, List, [], ◌∷◌, ◌++◌, map, codes, get_or, ◌⊎◌, ⊤, Option, Some, None, if◌then◌else◌, refl}
use Rattle.std.specs.Fmt.{decimal, digits, digits_onto, digit_glyph}
use Rattle.std.specs.List.{join_with_byte}
use Rattle.std.specs.Str.{IsUtf8}
use Rattle.std.proofs.Common.{inl, inr, sym, ◌∙◌, subst, arith}
use Rattle.std.proofs.lemmas.Bool.{leb-true, and_parts}
use Rattle.std.proofs.lemmas.Str.{IsUtf8-append, IsUtf8-from_ascii, IsUtf8-nil}
use Rattle.gr_base.specs.Lists.{IsAmong, Each, gathered}
use Rattle.gr_base.specs.Forests.{Forest, empty, tree, AreAlike, labels, map_forest, size}
use Rattle.gr_base.proofs.ListLemmas.{Each-append, Each-at, Each-left, Each-members, Each-right, IsAmong-append_left, IsAmong-append_right, IsAmong-slice_get, IsAmong-gathered}
use Rattle.gr_text.specs.Words.{is_word, quoted}
use Rattle.gr_terms.specs.BagViews.{pairs_of}
use Rattle.gr_terms.specs.Canonical.{Decorated, IsCanonicalForm, IsMet, Label, ListsNode, ListsSlot, Literal, Node, Pairs, category, literal_terms, map_literal, named, tree_slots, numbered as counted, properties, node_slots}
use Rattle.gr_terms.specs.Constants.{CAT}
use Rattle.gr_terms.specs.LiteralViews.{literals_of}
use Rattle.gr_terms.specs.Networks.{AreLinked, Assertion, HasValue, Term, back, entry, equate, equated, name, next, same, same_slot, shared, variable}
use Rattle.gr_terms.specs.Views.{term_of}
use Rattle.gr_terms.specs.declared.Literal.{Literal as CodeLiteral}
use Rattle.gr_terms.specs.declared.Term.{Term as Value}
use Rattle.gr_terms.specs.declared.Term.TheVariants.{Const, Var}
use Rattle.td_tree.specs.Trees.{BagPairs, preorder}
use Rattle.td_tree.specs.TreeNetworks.{Part, TreeSlot, at_interface, at_node, bottom_part, own_part, slotted, top_part, tree_network}
use Rattle.td_tree.specs.TreeViews.{decorated_of, lists_of, Pairs as TreePairs}
use Rattle.td_tree.specs.declared.Tree.{Tree}
use Rattle.td_tree.proofs.TreeNetworkLemmas.{IsPairAt, in_interface, in_node, list_of, tree_entry, value_pair, TreeEntry}
use Rattle.td_canon.specs.CanonicalTexts.{HasText, text_in}
use Rattle.td_canon.specs.Spelling.{Lacks}
use Rattle.td_canon.specs.TreeText.{category_text, decorated_text, enclosed, label_text, literal_text, node_text, pair_texts, spelled, tree_texts}
use Rattle.tg_reader.specs.Writable.{IsName, IsTreeText, IsWritableLiteral, IsWritableNode, IsWritableOwn, IsWritablePair, IsWritableTerm, IsWritableTree}

-- no byte is below 32, and the whole is UTF-8
pub record IsFine (bytes : List ℕ) : Type 0 where
  pub high : Each (λ b. 32 ≤ b) bytes
  pub utf8 : IsUtf8 bytes

pub fine_append : (xs ys : List ℕ) → IsFine xs → IsFine ys → IsFine (xs ++ ys)
fine_append xs ys a b = record { high = Each-append (λ b. 32 ≤ b) xs ys a.high b.high; utf8 = IsUtf8-append xs ys a.utf8 b.utf8 }

fine_nil : IsFine []
fine_nil = record { high = tt; utf8 = IsUtf8-nil }

-- bytes that are written out, by a test
abbrev pub are_plain : List ℕ → Bool
are_plain [] = true
are_plain (b ∷ bs) = nat_le 32 b && (nat_le b 127 && are_plain bs)

fine_byte : (b : ℕ) → 32 ≤ b → b ≤ 127 → IsFine (b ∷ [])
fine_byte b low high = record { high = (low, tt); utf8 = IsUtf8-from_ascii (b ∷ []) (λ i. at i) }
  where
    at : (i : ℕ) → get_or (b ∷ []) i 0 < 128
    at zero = omega arith
    at (suc i) = omega arith

pub plain : (bs : List ℕ) → are_plain bs ≡ true → IsFine bs
plain [] h = fine_nil
plain (b ∷ bs) h =
    let low = and_parts (nat_le 32 b) (nat_le b 127 && are_plain bs) h in
    let high = and_parts (nat_le b 127) (are_plain bs) low.1 in
    fine_append (b ∷ []) bs (fine_byte b (leb-true 32 b low.0) (leb-true b 127 high.0)) (plain bs high.1)

high_lacks : (bytes : List ℕ) → Each (λ b. 32 ≤ b) bytes → Lacks 10 bytes
high_lacks [] h = tt
high_lacks (b ∷ bs) h = (λ e. absurd (omega (arith, e, h.0)), high_lacks bs h.1)

pub fine_lacks : (bytes : List ℕ) → IsFine bytes → Lacks 10 bytes
fine_lacks bytes h = high_lacks bytes h.high

pub plain_lacks : (bytes : List ℕ) → are_plain bytes ≡ true → Lacks 10 bytes
plain_lacks bytes h = fine_lacks bytes (plain bytes h)

pub fine_name : (bytes : List ℕ) → IsName bytes → IsFine bytes
fine_name bytes h = record { high = by bytes h.bytes; utf8 = h.utf8 }
  where
    by : (bs : List ℕ) → Each (λ b. (32 ≤ b) × (b ≡ 34 → ⊥) × (b ≡ 92 → ⊥) × (b ≡ 127 → ⊥)) bs → Each (λ b. 32 ≤ b) bs
    by [] k = tt
    by (b ∷ bs) k = (k.0.0, by bs k.1)

-- ---- numbers

fine_glyph : (d : ℕ) → d < 10 → IsFine (digit_glyph false d ∷ [])
fine_glyph d low = by (nat_lt d 10)
  where
    by : (b : Bool) → IsFine ((if b then 48 + d else (if false then 55 + d else 87 + d)) ∷ [])
    by true = fine_byte (48 + d) (omega arith) (omega arith)
    by false = fine_byte (87 + d) (omega arith) (omega arith)

fine_onto : (k n : ℕ) (more : List ℕ) → IsFine more → IsFine (digits_onto k 10 false n more)
fine_onto zero n more h = h
fine_onto (suc k) n more h =
    let here : IsFine (digit_glyph false (n % 10) ∷ more) = fine_append (digit_glyph false (n % 10) ∷ []) more (fine_glyph (n % 10) (omega arith)) h in
    by (n / 10 == 0) here (fine_onto k (n / 10) (digit_glyph false (n % 10) ∷ more) here)
  where
    by : (b : Bool) → IsFine (digit_glyph false (n % 10) ∷ more) → IsFine (digits_onto k 10 false (n / 10) (digit_glyph false (n % 10) ∷ more)) → IsFine (if b then digit_glyph false (n % 10) ∷ more else digits_onto k 10 false (n / 10) (digit_glyph false (n % 10) ∷ more))
    by true here later = here
    by false here later = later

pub fine_decimal : (n : ℕ) → IsFine (decimal n)
unfolding digits
fine_decimal n = fine_onto 64 n [] fine_nil

-- ---- the text of a form

fine_join : (between : ℕ) (texts : List (List ℕ)) → IsFine (between ∷ []) → Each IsFine texts → IsFine (join_with_byte between texts)
fine_join between [] h each = fine_nil
fine_join between (t ∷ []) h each = each.0
fine_join between (t ∷ u ∷ ts) h each = fine_append t (between ∷ join_with_byte between (u ∷ ts)) each.0 (fine_append (between ∷ []) (join_with_byte between (u ∷ ts)) h (fine_join between (u ∷ ts) h each.1))

fine_enclosed : (before : List ℕ) (between : ℕ) (after : List ℕ) (texts : List (List ℕ)) → IsFine before → IsFine (between ∷ []) → IsFine after → Each IsFine texts → IsFine (enclosed before between after texts)
fine_enclosed before between after [] a h b each = fine_nil
fine_enclosed before between after (t ∷ ts) a h b each =
    fine_append (before ++ join_with_byte between (t ∷ ts)) after (fine_append before (join_with_byte between (t ∷ ts)) a (fine_join between (t ∷ ts) h each)) b

fine_spelled : (t : List ℕ) → IsFine t → IsFine (spelled t)
fine_spelled t h = by (is_word t)
  where
    by : (b : Bool) → IsFine (if b then t else quoted t)
    by true = h
    by false = fine_append (34 ∷ t) (34 ∷ []) (fine_append (34 ∷ []) t (plain (34 ∷ []) refl) h) (plain (34 ∷ []) refl)

module _ (text : ℕ → List ℕ) where
  abbrev pub IsFineLabel : Label → Type 0
  IsFineLabel (named a) = IsFine (text a)
  IsFineLabel (counted k) = ⊤

  abbrev pub IsFinePair : ℕ × Label → Type 0
  IsFinePair p = IsFine (text p.0) × IsFineLabel p.1

  pub record IsFineNode (n : Node Pairs) : Type 0 where
    pub own : Each IsFinePair n.own
    pub top : Each IsFinePair n.top
    pub bottom : Each IsFinePair n.bottom

  pub record IsFineLiteral (l : Literal Label) : Type 0 where
    pub handle : IsFineLabel l.handle
    pub pred : IsFineLabel l.pred
    pub args : Each IsFineLabel l.args

  fine_label : (v : Label) → IsFineLabel v → IsFine (label_text text v)
  fine_label (named a) h = fine_spelled (text a) h
  fine_label (counted k) h = fine_append (codes "?") (decimal k) (plain (codes "?") refl) (fine_decimal k)

  fine_pairs : (ps : Pairs) → Each IsFinePair ps → Each IsFine (pair_texts text ps)
  fine_pairs [] h = tt
  fine_pairs (p ∷ ps) h = (
    fine_append (text p.0 ++ codes "=") (label_text text p.1) (fine_append (text p.0) (codes "=") h.0.0 (plain (codes "=") refl)) (fine_label p.1 h.0.1),
    fine_pairs ps h.1,
  )

  fine_labels : (vs : List Label) → Each IsFineLabel vs → Each IsFine (map (label_text text) vs)
  fine_labels [] h = tt
  fine_labels (v ∷ vs) h = (fine_label v h.0, fine_labels vs h.1)

  fine_category : (ps : Pairs) → Each IsFinePair ps → IsFine (category_text text (category ps))
  fine_category [] h = plain (codes "-") refl
  fine_category (p ∷ ps) h = by (p.0 == CAT) (fine_category ps h.1)
    where
      by : (b : Bool) → IsFine (category_text text (category ps)) → IsFine (category_text text (if b then (p.1 ∷ []) else category ps))
      by true later = fine_label p.1 h.0.1
      by false later = later

  fine_properties : (ps : Pairs) → Each IsFinePair ps → Each IsFinePair (properties ps)
  fine_properties [] h = tt
  fine_properties (p ∷ ps) h = by (p.0 == CAT) (fine_properties ps h.1)
    where
      by : (b : Bool) → Each IsFinePair (properties ps) → Each IsFinePair (if b then properties ps else (p ∷ properties ps))
      by true later = later
      by false later = (h.0, later)

  fine_bag : (before after : List ℕ) (ps : Pairs) → are_plain before ≡ true → are_plain after ≡ true → Each IsFinePair ps → IsFine (enclosed before 44 after (pair_texts text ps))
  fine_bag before after ps a b h = fine_enclosed before 44 after (pair_texts text ps) (plain before a) (plain (44 ∷ []) refl) (plain after b) (fine_pairs ps h)

  fine_node : (n : Node Pairs) → IsFineNode n → IsFine (node_text text n)
  fine_node n h =
      let own = fine_bag (codes "{") (codes "}") (properties n.own) refl refl (fine_properties n.own h.own) in
      let top = fine_bag (codes "^[") (codes "]") n.top refl refl h.top in
      let bottom = fine_bag (codes "/[") (codes "]") n.bottom refl refl h.bottom in
      fine_append _ _ (fine_append _ _ (fine_append _ _ (fine_category n.own h.own) own) top) bottom

  fine_trees : (f : Forest (Node Pairs)) → Each IsFineNode (labels f) → Each IsFine (tree_texts text f)
  fine_trees empty h = tt
  fine_trees (tree n kids more) h = (
    fine_append (node_text text n) (enclosed (codes "(") 32 (codes ")") (tree_texts text kids)) (fine_node n h.0)
        (fine_enclosed (codes "(") 32 (codes ")") (tree_texts text kids) (plain (codes "(") refl) (plain (32 ∷ []) refl) (plain (codes ")") refl) (fine_trees kids (Each-left IsFineNode (labels kids) (labels more) h.1))),
    fine_trees more (Each-right IsFineNode (labels kids) (labels more) h.1),
  )

  fine_literal : (l : Literal Label) → IsFineLiteral l → IsFine (literal_text text l)
  fine_literal l h =
      let args = fine_join 32 (map (label_text text) l.args) (plain (32 ∷ []) refl) (fine_labels l.args h.args) in
      let front = fine_append _ (label_text text l.pred) (fine_append (label_text text l.handle) (codes ":") (fine_label l.handle h.handle) (plain (codes ":") refl)) (fine_label l.pred h.pred) in
      fine_append _ (codes ")") (fine_append _ (join_with_byte 32 (map (label_text text) l.args)) (fine_append _ (codes "(") front (plain (codes "(") refl)) args) (plain (codes ")") refl)

  fine_literals : (ls : List (Literal Label)) → Each IsFineLiteral ls → IsFine (gathered (λ l. codes " " ++ literal_text text l) ls)
  fine_literals [] h = fine_nil
  fine_literals (l ∷ ls) h =
      fine_append (codes " " ++ literal_text text l) (gathered (λ l. codes " " ++ literal_text text l) ls)
      (fine_append (codes " ") (literal_text text l) (plain (codes " ") refl) (fine_literal l h.0)) (fine_literals ls h.1)

  pub fine_form : (c : Decorated Pairs Label) → Each IsFineNode (labels c.nodes) → Each IsFinePair c.interface → Each IsFineLiteral c.literals → IsFine (decorated_text text c)
  fine_form c nodes interface literals =
      fine_append _ _
      (fine_append (join_with_byte 32 (tree_texts text c.nodes)) (enclosed (codes " iface[") 44 (codes "]") (pair_texts text c.interface)) (fine_join 32 (tree_texts text c.nodes) (plain (32 ∷ []) refl) (fine_trees c.nodes nodes))
      (fine_bag (codes " iface[") (codes "]") c.interface refl refl interface))
      (fine_literals c.literals literals)

-- ---- the names of a form are those of the tree

-- what holds of each part of the second forest
alike_each : {A B : Type 0} (R : A → B → Type 0) (Q : B → Type 0) (f : Forest A) (g : Forest B) → ((a : A) (b : B) → IsAmong (labels f) a → R a b → Q b) → AreAlike R f g → Each Q (labels g)
alike_each R Q empty empty step h = tt
alike_each R Q empty (tree b kids more) step h = absurd h
alike_each R Q (tree a kids more) empty step h = absurd h
alike_each R Q (tree a kids more) (tree b others rest) step h = (
  step a b (inl refl) h.0,
  Each-append Q (labels others) (labels rest)
      (alike_each R Q kids others (λ x y i. step x y (inr (IsAmong-append_left (labels kids) (labels more) x i))) h.1)
      (alike_each R Q more rest (λ x y i. step x y (inr (IsAmong-append_right (labels kids) (labels more) x i))) h.2),
)

-- a term stands at some entry
abbrev pub Occurs : {V S : Type 0} → List (Assertion V S) → Term V → Type 0
Occurs {V} {S} N x = (s : S) × (a : ℕ) × IsAmong N (entry s a x)

module _ (texts : List (List ℕ)) where
  abbrev IsFineTerm : Term ℕ → Type 0
  IsFineTerm (name b) = IsFine (text_in texts b)
  IsFineTerm (variable v) = ⊤

  abbrev IsFineEntry : ℕ × Term ℕ → Type 0
  IsFineEntry p = IsFine (text_in texts p.0) × IsFineTerm p.1

  record AreFineLists (n : Node TreePairs) : Type 0 where
    own : Each IsFineEntry n.own
    top : Each IsFineEntry n.top
    bottom : Each IsFineEntry n.bottom

  fine_term : (v : Value) → IsWritableTerm texts v → IsFineTerm (term_of v)
  fine_term (Const s) h = fine_name (text_in texts s.0) h
  fine_term (Var v) h = tt

  fine_code_bag : (bag : BagPairs) → Each (IsWritablePair texts) bag → Each IsFineEntry (pairs_of bag)
  fine_code_bag [] h = tt
  fine_code_bag (p ∷ bag) h = ((fine_name (text_in texts p.0.0) h.0.attribute.name, fine_term p.1 h.0.value), fine_code_bag bag h.1)

  own_pairs : (bag : BagPairs) → Each (IsWritableOwn texts) bag → Each (IsWritablePair texts) bag
  own_pairs [] h = tt
  own_pairs (p ∷ bag) h = (h.0.pair, own_pairs bag h.1)

  fine_lists : (n : ℕ) (parent : Option ℕ) (f : Forest (Node BagPairs)) → Each (IsWritableNode texts) (preorder n parent f) → Each AreFineLists (labels (map_forest lists_of f))
  fine_lists n parent empty h = tt
  fine_lists n parent (tree b kids more) h = (
    record { own = fine_code_bag b.own (own_pairs b.own h.0.own); top = fine_code_bag b.top h.0.top; bottom = fine_code_bag b.bottom h.0.bot },
    Each-append AreFineLists (labels (map_forest lists_of kids)) (labels (map_forest lists_of more))
        (fine_lists (suc n) (Some n) kids (Each-left (IsWritableNode texts) (preorder (suc n) (Some n) kids) (preorder (suc n + size kids) parent more) h.1))
        (fine_lists (suc n + size kids) parent more (Each-right (IsWritableNode texts) (preorder (suc n) (Some n) kids) (preorder (suc n + size kids) parent more) h.1)),
  )

  fine_part : (lists : Node TreePairs) (part : Part) → AreFineLists lists → Each IsFineEntry (list_of part lists)
  fine_part lists own_part h = h.own
  fine_part lists top_part h = h.top
  fine_part lists bottom_part h = h.bottom

  fine_terms : (vs : List Value) → Each (IsWritableTerm texts) vs → Each IsFineTerm (map term_of vs)
  fine_terms [] h = tt
  fine_terms (v ∷ vs) h = (fine_term v h.0, fine_terms vs h.1)

  fine_met : (ls : List CodeLiteral) → Each (IsWritableLiteral texts) ls → Each IsFineTerm (gathered literal_terms (literals_of ls))
  fine_met [] h = tt
  fine_met (l ∷ ls) h =
      (fine_term l.handle h.0.handle, (fine_term l.pred h.0.pred, Each-append IsFineTerm (map term_of l.args) (gathered literal_terms (literals_of ls)) (fine_terms l.args h.0.args) (fine_met ls h.1)))

  module _ (d : Decorated TreePairs (Term ℕ)) (nodes : Each AreFineLists (labels d.nodes)) (interface : Each IsFineEntry d.interface) (literals : Each IsFineTerm (gathered literal_terms d.literals)) where
    fine_at : (s : TreeSlot) (a : ℕ) (x : Term ℕ) → IsPairAt d s (a, x) → IsFineEntry (a, x)
    fine_at (at_node n part) a x (lists, at, i) =
        Each-at IsFineEntry (list_of part lists) (a, x) (fine_part lists part (Each-at AreFineLists (labels d.nodes) lists nodes (IsAmong-slice_get (labels d.nodes) n lists at))) i
    fine_at at_interface a x i = Each-at IsFineEntry d.interface (a, x) interface i

    fine_value : (s : TreeSlot) (a : ℕ) (x : Term ℕ) → HasValue (tree_network d) s a x → IsFineEntry (a, x)
    fine_value s a x h = fine_at s a x (value_pair d s a x h)

    fine_occurs : (x : Term ℕ) → Occurs (tree_network d) x → IsFineTerm x
    fine_occurs x (s, a, i) = (fine_value s a x (s, same_slot s, i)).1

    no_equation : (x y : Term ℕ) → IsAmong (tree_network d) (equate x y) → ⊥
    no_equation x y i = by (tree_entry d (equate x y) i)
      where
        by : TreeEntry d (equate x y) → ⊥
        by (in_node n lists at e) = let h : equate x y ≡ entry (at_node n e.part) e.pair.0 e.pair.1 = e.is in absurd cc
        by (in_interface p j h) = absurd cc

    -- linked terms are one, or both stand at entries
    linked_occur : (x y : Term ℕ) → AreLinked (tree_network d) x y → (x ≡ y) ⊎ (Occurs (tree_network d) x × Occurs (tree_network d) y)
    linked_occur x y (equated _ _ i) = absurd (no_equation x y i)
    linked_occur x y (shared s t a _ _ h i j) = inr ((s, a, i), (t, a, j))
    linked_occur x _ (same _) = inl refl
    linked_occur x y (back _ _ h) = turned (linked_occur y x h)
      where
        turned : (y ≡ x) ⊎ (Occurs (tree_network d) y × Occurs (tree_network d) x) → (x ≡ y) ⊎ (Occurs (tree_network d) x × Occurs (tree_network d) y)
        turned (inl e) = inl (sym e)
        turned (inr (p, q)) = inr (q, p)
    linked_occur x z (next _ y _ h k) = joined_by (linked_occur x y h) (linked_occur y z k)
      where
        joined_by : (x ≡ y) ⊎ (Occurs (tree_network d) x × Occurs (tree_network d) y) → (y ≡ z) ⊎ (Occurs (tree_network d) y × Occurs (tree_network d) z) → (x ≡ z) ⊎ (Occurs (tree_network d) x × Occurs (tree_network d) z)
        joined_by (inl e) (inl f) = inl (e ∙ f)
        joined_by (inl e) (inr (p, q)) = inr (subst (λ w. Occurs (tree_network d) w) (sym e) p, q)
        joined_by (inr (p, q)) (inl f) = inr (p, subst (λ w. Occurs (tree_network d) w) f q)
        joined_by (inr (p, q)) (inr (r, t)) = inr (p, t)

    fine_name_met : (x : Term ℕ) (b : ℕ) → IsFineTerm x → AreLinked (tree_network d) x (name b) → IsFine (text_in texts b)
    fine_name_met x b fine h = by (linked_occur x (name b) h)
      where
        by : (x ≡ name b) ⊎ (Occurs (tree_network d) x × Occurs (tree_network d) (name b)) → IsFine (text_in texts b)
        by (inl e) = let P : Term ℕ → Type 0 = λ w. IsFineTerm w in subst P e fine
        by (inr (p, q)) = fine_occurs (name b) q

    module _ (c : Decorated Pairs Label) (form : IsCanonicalForm (text_in texts) (tree_network d) (slotted d) c) where
      met_label : (x : Term ℕ) → IsFineTerm x → IsMet (tree_network d) (slotted d) x → IsFineLabel (text_in texts) (form.label x)
      met_label x fine met = by (form.label x) refl
        where
          by : (v : Label) → form.label x ≡ v → IsFineLabel (text_in texts) v
          by (named b) e = fine_name_met x b fine ((form.exact.names x b met).0 e)
          by (counted k) e = tt

      fine_slot : (s : TreeSlot) (ps : Pairs) → IsAmong (tree_slots (slotted d)) s → ListsSlot (text_in texts) (tree_network d) form.label s ps → Each (IsFinePair (text_in texts)) ps
      fine_slot s ps there lists = Each-members (IsFinePair (text_in texts)) ps (λ p i.
          let r = (lists.pairs p.0 p.1).0 i in
          let fine = fine_value s p.0 r.0 r.1 in
          (fine.0, subst (λ v. IsFineLabel (text_in texts) v) (sym r.2) (met_label r.0 fine.1 (inl (s, p.0, there, r.1)))))

      slot_there : (n : Node TreeSlot) (s : TreeSlot) → IsAmong (labels (slotted d).nodes) n → IsAmong (node_slots n) s → IsAmong (tree_slots (slotted d)) s
      slot_there n s i j = IsAmong-append_left (gathered node_slots (labels (slotted d).nodes)) (at_interface ∷ []) s (IsAmong-gathered node_slots (labels (slotted d).nodes) n s i j)

      fine_nodes : Each (IsFineNode (text_in texts)) (labels c.nodes)
      fine_nodes = alike_each (ListsNode (text_in texts) (tree_network d) form.label) (IsFineNode (text_in texts)) (slotted d).nodes c.nodes (λ n p i h. record {
        own = fine_slot n.own p.own (slot_there n n.own i (inl refl)) h.own;
        top = fine_slot n.top p.top (slot_there n n.top i (inr (inl refl))) h.top;
        bottom = fine_slot n.bottom p.bottom (slot_there n n.bottom i (inr (inr (inl refl)))) h.bottom;
      }) form.nodes

      fine_interface : Each (IsFinePair (text_in texts)) c.interface
      fine_interface = fine_slot at_interface c.interface (IsAmong-append_right (gathered node_slots (labels (slotted d).nodes)) (at_interface ∷ []) at_interface (inl refl)) form.interface

      fine_there : (x : Term ℕ) → IsAmong (gathered literal_terms d.literals) x → IsFineLabel (text_in texts) (form.label x)
      fine_there x i = met_label x (Each-at (λ y. IsFineTerm y) (gathered literal_terms d.literals) x literals i) (inr i)

      fine_args : (xs : List (Term ℕ)) → ((x : Term ℕ) → IsAmong xs x → IsFineLabel (text_in texts) (form.label x)) → Each (IsFineLabel (text_in texts)) (map form.label xs)
      fine_args [] there = tt
      fine_args (x ∷ xs) there = (there x (inl refl), fine_args xs (λ y i. there y (inr i)))

      fine_all : (ls : List (Literal (Term ℕ))) → ((x : Term ℕ) → IsAmong (gathered literal_terms ls) x → IsFineLabel (text_in texts) (form.label x)) → Each (IsFineLiteral (text_in texts)) (map (map_literal form.label) ls)
      fine_all [] there = tt
      fine_all (l ∷ ls) there = (
        record {
          handle = there l.handle (inl refl);
          pred = there l.pred (inr (inl refl));
          args = fine_args l.args (λ x i. there x (inr (inr (IsAmong-append_left l.args (gathered literal_terms ls) x i))));
        },
        fine_all ls (λ x i. there x (IsAmong-append_right (literal_terms l) (gathered literal_terms ls) x i)),
      )

      fine_text : IsFine (decorated_text (text_in texts) c)
      fine_text = fine_form (text_in texts) c fine_nodes fine_interface (subst (λ ls. Each (IsFineLiteral (text_in texts)) ls) (sym form.literals) (fine_all d.literals fine_there))

-- the canonical text of a tree that can be written has no byte below 32
pub fine_tree : (texts : List (List ℕ)) (t : Tree) (text : List ℕ) → HasText texts t text → IsWritableTree texts t → IsFine text
fine_tree texts t text has writable =
    let f = has.nodes.forest in
    let nodes = fine_lists texts 0 None f (subst (λ ns. Each (IsWritableNode texts) ns) has.nodes.laid writable.nodes) in
    subst (λ x. IsFine x) (sym has.spells.spells)
    (fine_text texts (decorated_of f t) nodes (fine_code_bag texts t.iface writable.iface) (fine_met texts t.sem writable.sem) has.spells.form has.spells.canonical)

pub tree_text_fine : (text : List ℕ) → IsTreeText text → IsFine text
tree_text_fine text h = fine_tree h.texts h.tree text h.has h.writable

pub tree_text_line : (text : List ℕ) → IsTreeText text → Lacks 10 text
tree_text_line text h = fine_lacks text (tree_text_fine text h)
