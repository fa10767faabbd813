-- The text of a tree has one list of names, by whatever tables and trees it is that of a tree.
use Rattle.std.specs.Prelude.{◌≡◌, ℕ, ◌<◌, true, not, ◌==◌, List, [], ◌∷◌, ◌++◌, map, length, codes, refl}
use Rattle.std.proofs.Common.{inl, inr, ap, ap₂, sym, ◌∙◌, subst, arith}
use Rattle.std.proofs.lemmas.Bool.{cases_lt}
use Rattle.std.proofs.lemmas.Bool.Decides.{nat_tests}
use Rattle.std.proofs.lemmas.List.{get_or_past}
use Rattle.gr_base.specs.Lists.{Each, InByteOrder, IsAmong, NoneTwice, gathered}
use Rattle.gr_base.specs.Forests.{IsOneTree, labels}
use Rattle.gr_base.proofs.ForestLemmas.{labels-map, one_tree-map}
use Rattle.gr_symbols.specs.Numbers.{Grows, Names, first_texts, with_texts}
use Rattle.gr_symbols.proofs.NumberLemmas.{Grows-trans, IsAmong-Names, Names-IsAmong, Names-within, with_texts-grows, with_texts-once, IsAmong-grows, with_texts-has}
use Rattle.gr_terms.specs.Canonical.{Decorated, Label, Literal, Node, Pairs, category, literal_terms, map_literal, named, numbered, properties}
use Rattle.gr_terms.specs.Constants.{CAT}
use Rattle.gr_text.specs.Limits.{IsShort}
use Rattle.gr_text.specs.Words.{IsStringByte}
use Rattle.td_canon.specs.CanonicalTexts.{text_in}
use Rattle.td_canon.specs.TreeText.{decorated_text}
use Rattle.td_canon.proofs.FormSpelling.{CanSpellForm, CanSpellLiteral, forms_apart}
use Rattle.td_canon.proofs.OrderLemmas.{text_named, texts_apart}
use Rattle.td_canon.proofs.SpellingLemmas.{CanSpell, CanSpellPair}
use Rattle.td_canon.proofs.TreeSpelling.{CanSpellNode}
use Rattle.tg_reader.specs.Naming.{form_names, label_names, literal_names, names_in, node_names, pair_names, PutsTreeNames}
use Rattle.tg_reader.specs.Reading.{CanRead, CanReadLiteral, CanReadNode, CanReadPair, CanReadTree, is_of}
use Rattle.tg_reader.specs.Writable.{IsTreeText}
use Rattle.tg_reader.specs.declared.reader.Run.TheVariants.{Word}
use Rattle.tg_reader.proofs.Closing.{IsOrderedForm, IsOrderedNode}
use Rattle.tg_reader.proofs.Moved.{Found, FoundForm, FoundLabel, FoundLiteral, FoundNode, FoundPair, attributes_moved, category_moved, form_moved, moved, moved_form, moved_is, moved_label, moved_node, moved_pairs, moved_text, properties_moved}
use Rattle.tg_reader.proofs.Readable.{IsWell, StandsWell, readable}
use Rattle.tg_reader.proofs.Runs.{word_run}
use Rattle.tg_reader.proofs.Tables.{first_is, first_names, only_number}

-- ---- a table with more texts

-- ---- bytes

lacks_quote : (bs : List ℕ) → Each IsStringByte bs → Each (λ b. not (b == 34) ≡ true) bs
lacks_quote [] each = tt
lacks_quote (b ∷ bs) each = (here each.0.1, lacks_quote bs each.1)
  where
    here : (b ≡ 34 → ⊥) → not (b == 34) ≡ true
    here other = grind (arith, nat_tests)

lacks_equals : (bs : List ℕ) → Each (λ b. is_of Word b ≡ true) bs → Each (λ b. not (b == 61) ≡ true) bs
lacks_equals [] each = tt
lacks_equals (b ∷ bs) each = (here b each.0, lacks_equals bs each.1)
  where
    here : (c : ℕ) → is_of Word c ≡ true → not (c == 61) ≡ true
    here c h = grind (arith, nat_tests)

-- ---- forms over a table that has all texts of theirs

module _ (text : ℕ → List ℕ) (texts : List (List ℕ)) (once : NoneTwice texts) (found : (a : ℕ) → Found text texts once a) where
  found_label : (v : Label) → FoundLabel text texts once v
  found_label (named a) = found a
  found_label (numbered k) = tt

  found_labels : (vs : List Label) → Each (FoundLabel text texts once) vs
  found_labels [] = tt
  found_labels (v ∷ vs) = (found_label v, found_labels vs)

  found_pairs : (ps : Pairs) → Each (FoundPair text texts once) ps
  found_pairs [] = tt
  found_pairs (p ∷ ps) = ((found p.0, found_label p.1), found_pairs ps)

  found_nodes : (ns : List (Node Pairs)) → Each (FoundNode text texts once) ns
  found_nodes [] = tt
  found_nodes (n ∷ ns) = (record { own = found_pairs n.own; top = found_pairs n.top; bottom = found_pairs n.bottom }, found_nodes ns)

  found_literals : (ls : List (Literal Label)) → Each (FoundLiteral text texts once) ls
  found_literals [] = tt
  found_literals (l ∷ ls) = (record { handle = found_label l.handle; pred = found_label l.pred; args = found_labels l.args }, found_literals ls)

  found_form : (c : Decorated Pairs Label) → FoundForm text texts once c
  found_form c = record { nodes = found_nodes (labels c.nodes); interface = found_pairs c.interface; literals = found_literals c.literals }

  abbrev moves_label : Label → Label
  moves_label = moved_label text texts once

  -- ---- with the same names

  label_same : (v : Label) → label_names (text_in texts) (moves_label v) ≡ label_names text v
  label_same (named a) = ap (λ t. t ∷ []) (moved_text text texts once a (found a))
  label_same (numbered k) = refl

  labels_same : (vs : List Label) → gathered (label_names (text_in texts)) (map moves_label vs) ≡ gathered (label_names text) vs
  labels_same [] = refl
  labels_same (v ∷ vs) = ap₂ (λ xs ys. xs ++ ys) (label_same v) (labels_same vs)

  pairs_same : (ps : Pairs) → gathered (pair_names (text_in texts)) (moved_pairs text texts once ps) ≡ gathered (pair_names text) ps
  pairs_same [] = refl
  pairs_same (p ∷ ps) =
      let attribute = moved_text text texts once p.0 (found p.0) in
      let value = label_same p.1 in
      let rest = pairs_same ps in
      λ i. (attribute i ∷ value i) ++ rest i

  literals_same : (ls : List (Literal Label)) → gathered (literal_names (text_in texts)) (map (map_literal moves_label) ls) ≡ gathered (literal_names text) ls
  literals_same [] = refl
  literals_same (l ∷ ls) = ap₂ (λ xs ys. xs ++ ys) (labels_same (literal_terms l)) (literals_same ls)

  module _ (cat : Names texts CAT (text CAT)) (only : (a : ℕ) → text a ≡ text CAT → a ≡ CAT) where
    node_same : (n : Node Pairs) → node_names (text_in texts) (moved_node text texts once n) ≡ node_names text n
    node_same n =
        let first = ap (gathered (label_names (text_in texts))) (category_moved text texts once cat only n.own (found_pairs n.own)) ∙ labels_same (category n.own) in
        let second = ap (gathered (pair_names (text_in texts))) (properties_moved text texts once cat only n.own (found_pairs n.own)) ∙ pairs_same (properties n.own) in
        let third = pairs_same n.top in
        let fourth = pairs_same n.bottom in
        λ i. ((first i ++ second i) ++ third i) ++ fourth i

    nodes_same : (ns : List (Node Pairs)) → gathered (node_names (text_in texts)) (map (moved_node text texts once) ns) ≡ gathered (node_names text) ns
    nodes_same [] = refl
    nodes_same (n ∷ ns) = ap₂ (λ xs ys. xs ++ ys) (node_same n) (nodes_same ns)

    names_same : (c : Decorated Pairs Label) → form_names (text_in texts) (moved_form text texts once c) ≡ form_names text c
    names_same c =
        let nodes = ap (gathered (node_names (text_in texts))) (labels-map (moved_node text texts once) c.nodes) ∙ nodes_same (labels c.nodes) in
        let interface = pairs_same c.interface in
        let literals = literals_same c.literals in
        λ i. (nodes i ++ interface i) ++ literals i

  -- ---- their names can be spelled

  abbrev Good : ℕ → Type 0
  Good a = a < length texts

  abbrev apart : (a b : ℕ) → Good a → Good b → text_in texts a ≡ text_in texts b → a ≡ b
  apart a b h k e = texts_apart texts a b once h k e

  good : (a : ℕ) → Good (moved text texts once a)
  good a = let f = found a in subst (λ k. k < length texts) (sym (moved_is text texts once a f.0 f.1)) (Names-within texts f.0 (text a) f.1)

  spell_label : (v : Label) → CanRead text v → CanSpell (text_in texts) Good apart (moves_label v)
  spell_label (named a) can = (good a, subst (λ t. Each (λ b. not (b == 34) ≡ true) t) (sym (moved_text text texts once a (found a))) (lacks_quote (text a) can.bytes))
  spell_label (numbered k) can = can

  spell_labels : (vs : List Label) → Each (CanRead text) vs → Each (CanSpell (text_in texts) Good apart) (map moves_label vs)
  spell_labels [] can = tt
  spell_labels (v ∷ vs) can = (spell_label v can.0, spell_labels vs can.1)

  spell_pairs : (ps : Pairs) → Each (CanReadPair text) ps → Each (CanSpellPair (text_in texts) Good apart) (moved_pairs text texts once ps)
  spell_pairs [] can = tt
  spell_pairs (p ∷ ps) can = (
    (good p.0, subst (λ t. Each (λ b. not (b == 61) ≡ true) t) (sym (moved_text text texts once p.0 (found p.0))) (lacks_equals (text p.0) (word_run (text p.0) can.0.attribute).each), spell_label p.1 can.0.value),
    spell_pairs ps can.1,
  )

  own_can : (ps : Pairs) → Each (StandsWell text) ps → Each (CanReadPair text) ps
  own_can [] well = tt
  own_can (p ∷ ps) well = (well.0.can, own_can ps well.1)

  spell_nodes : (ns : List (Node Pairs)) → Each (CanReadNode text) ns → Each (IsOrderedNode text) ns → Each (IsWell text) ns → Each (CanSpellNode (text_in texts) Good apart) (map (moved_node text texts once) ns)
  spell_nodes [] can order well = tt
  spell_nodes (n ∷ ns) can order well = (
    record {
      own = spell_pairs n.own (own_can n.own well.0.own);
      top = spell_pairs n.top can.0.top;
      bottom = spell_pairs n.bottom can.0.bottom;
      order = subst (λ ts. InByteOrder ts) (sym (attributes_moved text texts once n.own (found_pairs n.own))) order.0.own;
    },
    spell_nodes ns can.1 order.1 well.1,
  )

  spell_literals : (ls : List (Literal Label)) → Each (CanReadLiteral text) ls → Each (CanSpellLiteral (text_in texts) Good apart) (map (map_literal moves_label) ls)
  spell_literals [] can = tt
  spell_literals (l ∷ ls) can = (record { handle = spell_label l.handle can.0.handle; pred = spell_label l.pred can.0.pred; args = spell_labels l.args can.0.args }, spell_literals ls can.1)

  spell_form : (c : Decorated Pairs Label) → CanReadTree text c → IsOrderedForm text c → Each (IsWell text) (labels c.nodes) → CanSpellForm (text_in texts) Good apart (moved_form text texts once c)
  spell_form c can order well = record {
    nodes = subst (λ ns. Each (CanSpellNode (text_in texts) Good apart) ns) (sym (labels-map (moved_node text texts once) c.nodes)) (spell_nodes (labels c.nodes) can.nodes order.nodes well);
    interface = spell_pairs c.interface can.interface;
    literals = spell_literals c.literals can.literals;
  }

-- ---- the form of a text, over a table that has all texts of its own one

record HasForm (texts : List (List ℕ)) (once : NoneTwice texts) (x : List ℕ) (names : List (List ℕ)) : Type 0 where
  form : Decorated Pairs Label
  one : IsOneTree form.nodes
  text_is : x ≡ decorated_text (text_in texts) form
  spells : CanSpellForm (text_in texts) (λ a. a < length texts) (λ a b h k e. texts_apart texts a b once h k e) form
  names_are : form_names (text_in texts) form ≡ names

has_form : (texts : List (List ℕ)) (once : NoneTwice texts) → Grows first_texts texts → (x : List ℕ) (is : IsTreeText x) → IsShort x → ((t : List ℕ) → IsAmong is.texts t → IsAmong texts t) → HasForm texts once x (names_in is)
has_form texts once first x is short there =
    let text : ℕ → List ℕ = text_in is.texts in
    let c : Decorated Pairs Label = is.has.spells.form in
    let r = readable is.texts is.table is.tree x is.has is.writable short in
    let cat_is : text CAT ≡ codes "cat" = first_is is.texts is.table.once is.table.first CAT (codes "cat") refl in
    let cat : Names texts CAT (text CAT) = subst (λ t. Names texts CAT t) (sym cat_is) (first_names texts once first CAT (codes "cat") refl) in
    let only : (a : ℕ) → text a ≡ text CAT → a ≡ CAT =
    λ a e. only_number is.texts is.table.once is.table.first CAT a (codes "cat") (first_names is.texts is.table.once is.table.first CAT (codes "cat") refl) (λ h. absurd cc) (e ∙ cat_is) in
    record {
      form = moved_form text texts once c;
      one = one_tree-map (moved_node text texts once) c.nodes r.can.one;
      text_is = r.text_is ∙ sym (form_moved text texts once cat only c (found_form text texts once found c));
      spells = spell_form text texts once found c r.can r.ordered r.well;
      names_are = names_same text texts once found cat only c;
    }
  where
    found : (a : ℕ) → Found (text_in is.texts) texts once a
    found a = elim (cases_lt a (length is.texts)) [
      | inl within ↦ Names-IsAmong texts (text_in is.texts a) (there (text_in is.texts a) (IsAmong-Names is.texts a (text_in is.texts a) (text_named is.texts a within)))
      | inr past ↦ subst (λ t. (s : ℕ) × Names texts s t) (sym (get_or_past is.texts a [] past)) (9, first_names texts once first 9 [] refl)
    ]

-- two forms with one text over one table are one, and so are their names
pub one_naming : (x : List ℕ) (is other : IsTreeText x) → IsShort x → names_in is ≡ names_in other
one_naming x is other short =
    let texts : List (List ℕ) = with_texts is.texts other.texts in
    let once : NoneTwice texts = with_texts-once is.texts other.texts is.table.once in
    let grows : Grows is.texts texts = with_texts-grows is.texts other.texts in
    let first : Grows first_texts texts = Grows-trans first_texts is.texts texts is.table.first grows in
    let a = has_form texts once first x is short (λ t i. IsAmong-grows is.texts texts t grows i) in
    let b = has_form texts once first x other short (λ t i. with_texts-has is.texts other.texts t i) in
    let same : a.form ≡ b.form = forms_apart (text_in texts) (λ n. n < length texts) (λ m n h k e. texts_apart texts m n once h k e) a.form b.form a.one b.one a.spells b.spells (sym a.text_is ∙ b.text_is) in
    sym a.names_are ∙ ap (form_names (text_in texts)) same ∙ b.names_are

-- so the table behind a tree is one
pub one_table : (x : List ℕ) (old new others : List (List ℕ)) → IsShort x → PutsTreeNames x old new → PutsTreeNames x old others → new ≡ others
one_table x old new others short a b = a.1 ∙ ap (with_texts old) (one_naming x a.0 b.0 short) ∙ sym b.1
