-- A form with other numbers for the same names has the same text.
use Rattle.std.specs.Prelude.{◌≡◌, ℕ, suc, Bool, true, false, ◌==◌, List, [], ◌∷◌, ◌++◌, map, codes, ◌⊎◌, ⊤, if◌then◌else◌, refl}
use Rattle.std.specs.List.{join_with_byte}
use Rattle.std.proofs.Common.{inl, inr, ap, ap₂, sym, ◌∙◌, subst}
use Rattle.std.proofs.lemmas.Bool.{false≢true}
use Rattle.std.proofs.lemmas.Bool.Decides.{Decides-eqb}
use Rattle.std.proofs.lemmas.List.{map-append}
use Rattle.gr_base.specs.Lists.{Each, NoneTwice, IsAmong, gathered}
use Rattle.gr_base.specs.Forests.{Forest, empty, tree, labels, map_forest}
use Rattle.gr_base.proofs.ListLemmas.{Each-left, Each-right}
use Rattle.gr_base.proofs.ForestLemmas.{labels-map}
use Rattle.gr_symbols.specs.Numbers.{Names}
use Rattle.gr_symbols.proofs.NumberLemmas.{IsAmong-Names, named_or_absent, one_number}
use Rattle.gr_terms.specs.Canonical.{Decorated, IsNumberedFrom, Label, Literal, Node, Pairs, category, literal_terms, map_literal, named, node_values, numbered, properties, values, walked}
use Rattle.gr_terms.specs.Constants.{CAT}
use Rattle.td_canon.specs.CanonicalTexts.{text_in}
use Rattle.td_canon.specs.TreeText.{category_text, decorated_text, enclosed, label_text, literal_text, node_text, pair_texts, spelled, tree_texts}
use Rattle.td_canon.proofs.ValueLemmas.{text_in-names}

-- the text has a number, by one table
module _ (text : ℕ → List ℕ) (texts : List (List ℕ)) (once : NoneTwice texts) where
  abbrev pub Found : ℕ → Type 0
  Found a = (s : ℕ) × Names texts s (text a)

  abbrev pub FoundLabel : Label → Type 0
  FoundLabel (named a) = Found a
  FoundLabel (numbered k) = ⊤

  abbrev pub FoundPair : ℕ × Label → Type 0
  FoundPair p = Found p.0 × FoundLabel p.1

  pub record FoundNode (n : Node Pairs) : Type 0 where
    pub own : Each FoundPair n.own
    pub top : Each FoundPair n.top
    pub bottom : Each FoundPair n.bottom

  pub record FoundLiteral (l : Literal Label) : Type 0 where
    pub handle : FoundLabel l.handle
    pub pred : FoundLabel l.pred
    pub args : Each FoundLabel l.args

  pub record FoundForm (c : Decorated Pairs Label) : Type 0 where
    pub nodes : Each FoundNode (labels c.nodes)
    pub interface : Each FoundPair c.interface
    pub literals : Each FoundLiteral c.literals

  -- ---- the number of the same text

  pub moved : ℕ → ℕ
  moved a = elim (named_or_absent texts (text a)) [ inl r ↦ r.0 | inr none ↦ 0 ]

  pub moved_is : (a s : ℕ) → Names texts s (text a) → moved a ≡ s
  unfolding moved
  moved_is a s names = by (named_or_absent texts (text a))
    where
      by : (r : ((n : ℕ) × Names texts n (text a)) ⊎ (IsAmong texts (text a) → ⊥)) → (elim r as (λ x. ℕ) [ inl r ↦ r.0 | inr none ↦ 0 ]) ≡ s
      by (inl r) = one_number texts r.0 s (text a) once r.1 names
      by (inr none) = absurd (none (IsAmong-Names texts s (text a) names))

  pub moved_text : (a : ℕ) → Found a → text_in texts (moved a) ≡ text a
  moved_text a (s, names) = ap (text_in texts) (moved_is a s names) ∙ text_in-names texts s (text a) names

  abbrev pub moved_label : Label → Label
  moved_label (named a) = named (moved a)
  moved_label (numbered k) = numbered k

  abbrev pub moved_pairs : Pairs → Pairs
  moved_pairs ps = map (λ p. (moved p.0, moved_label p.1)) ps

  abbrev pub moved_node : Node Pairs → Node Pairs
  moved_node n = record { own = moved_pairs n.own; top = moved_pairs n.top; bottom = moved_pairs n.bottom }

  abbrev pub moved_form : Decorated Pairs Label → Decorated Pairs Label
  moved_form c = record { nodes = map_forest moved_node c.nodes; interface = moved_pairs c.interface; literals = map (map_literal moved_label) c.literals }

  -- ---- the texts

  label_moved : (v : Label) → FoundLabel v → label_text (text_in texts) (moved_label v) ≡ label_text text v
  label_moved (named a) found = ap spelled (moved_text a found)
  label_moved (numbered k) found = refl

  pairs_moved : (ps : Pairs) → Each FoundPair ps → pair_texts (text_in texts) (moved_pairs ps) ≡ pair_texts text ps
  pairs_moved [] found = refl
  pairs_moved (p ∷ ps) found =
      let attribute = moved_text p.0 found.0.0 in
      let value = label_moved p.1 found.0.1 in
      let rest = pairs_moved ps found.1 in
      λ i. (attribute i ++ codes "=" ++ value i) ∷ rest i

  pub attributes_moved : (ps : Pairs) → Each FoundPair ps → map (λ p. text_in texts p.0) (moved_pairs ps) ≡ map (λ p. text p.0) ps
  attributes_moved [] found = refl
  attributes_moved (p ∷ ps) found = ap₂ (λ z zs. z ∷ zs) (moved_text p.0 found.0.0) (attributes_moved ps found.1)

  category_found_all : (ps : Pairs) → Each FoundPair ps → Each FoundLabel (category ps)
  category_found_all [] found = tt
  category_found_all (p ∷ ps) found = by (p.0 == CAT) (category_found_all ps found.1)
    where
      by : (b : Bool) → Each FoundLabel (category ps) → Each FoundLabel (if b then (p.1 ∷ []) else category ps)
      by true later = (found.0.1, tt)
      by false later = later

  properties_found_all : (ps : Pairs) → Each FoundPair ps → Each FoundPair (properties ps)
  properties_found_all [] found = tt
  properties_found_all (p ∷ ps) found = by (p.0 == CAT) (properties_found_all ps found.1)
    where
      by : (b : Bool) → Each FoundPair (properties ps) → Each FoundPair (if b then properties ps else (p ∷ properties ps))
      by true later = later
      by false later = (found.0, later)

  category_text_moved : (vs : List Label) → Each FoundLabel vs → category_text (text_in texts) (map moved_label vs) ≡ category_text text vs
  category_text_moved [] found = refl
  category_text_moved (v ∷ vs) found = label_moved v found.0

  arguments_moved : (vs : List Label) → Each FoundLabel vs → map (label_text (text_in texts)) (map moved_label vs) ≡ map (label_text text) vs
  arguments_moved [] found = refl
  arguments_moved (v ∷ vs) found = ap₂ (λ z zs. z ∷ zs) (label_moved v found.0) (arguments_moved vs found.1)

  literals_moved : (ls : List (Literal Label)) → Each FoundLiteral ls →
      gathered (λ l. codes " " ++ literal_text (text_in texts) l) (map (map_literal moved_label) ls) ≡ gathered (λ l. codes " " ++ literal_text text l) ls
  literals_moved [] found = refl
  literals_moved (l ∷ ls) found =
      let handle = label_moved l.handle found.0.handle in
      let pred = label_moved l.pred found.0.pred in
      let args = arguments_moved l.args found.0.args in
      let rest = literals_moved ls found.1 in
      λ i. (codes " " ++ (handle i ++ codes ":" ++ pred i ++ codes "(" ++ join_with_byte 32 (args i) ++ codes ")")) ++ rest i

  -- ---- where the category keeps its number

  module _ (cat : Names texts CAT (text CAT)) (only : (a : ℕ) → text a ≡ text CAT → a ≡ CAT) where
    cat_moved : (a : ℕ) → Found a → (moved a == CAT) ≡ (a == CAT)
    cat_moved a found = by (a == CAT) refl
      where
        by : (b : Bool) → (a == CAT) ≡ b → (moved a == CAT) ≡ b
        by true e =
            let is : a ≡ CAT = (Decides-eqb a CAT).0 e in
            (Decides-eqb (moved a) CAT).1 (moved_is a CAT (subst (λ z. Names texts CAT (text z)) (sym is) cat))
        by false e = other (moved a == CAT) refl
          where
            other : (b : Bool) → (moved a == CAT) ≡ b → (moved a == CAT) ≡ false
            other true h =
                let is : moved a ≡ CAT = (Decides-eqb (moved a) CAT).0 h in
                absurd (false≢true (sym e ∙ (Decides-eqb a CAT).1 (only a (sym (moved_text a found) ∙ ap (text_in texts) is ∙ text_in-names texts CAT (text CAT) cat))))
            other false h = h

    pub category_moved : (ps : Pairs) → Each FoundPair ps → category (moved_pairs ps) ≡ map moved_label (category ps)
    category_moved [] found = refl
    category_moved (p ∷ ps) found = ap (λ b. if b then (moved_label p.1 ∷ []) else category (moved_pairs ps)) (cat_moved p.0 found.0.0) ∙ by (p.0 == CAT) (category_moved ps found.1)
      where
        by : (b : Bool) → category (moved_pairs ps) ≡ map moved_label (category ps) → (if b then (moved_label p.1 ∷ []) else category (moved_pairs ps)) ≡ map moved_label (if b then (p.1 ∷ []) else category ps)
        by true later = refl
        by false later = later

    pub properties_moved : (ps : Pairs) → Each FoundPair ps → properties (moved_pairs ps) ≡ moved_pairs (properties ps)
    properties_moved [] found = refl
    properties_moved (p ∷ ps) found =
        ap (λ b. if b then properties (moved_pairs ps) else ((moved p.0, moved_label p.1) ∷ properties (moved_pairs ps))) (cat_moved p.0 found.0.0) ∙ by (p.0 == CAT) (properties_moved ps found.1)
      where
        by : (b : Bool) → properties (moved_pairs ps) ≡ moved_pairs (properties ps) →
            (if b then properties (moved_pairs ps) else ((moved p.0, moved_label p.1) ∷ properties (moved_pairs ps))) ≡ moved_pairs (if b then properties ps else (p ∷ properties ps))
        by true later = later
        by false later = ap (λ zs. (moved p.0, moved_label p.1) ∷ zs) later

    node_moved : (n : Node Pairs) → FoundNode n → node_text (text_in texts) (moved_node n) ≡ node_text text n
    node_moved n found =
        let first = ap (category_text (text_in texts)) (category_moved n.own found.own) ∙ category_text_moved (category n.own) (category_found_all n.own found.own) in
        let second = ap (pair_texts (text_in texts)) (properties_moved n.own found.own) ∙ pairs_moved (properties n.own) (properties_found_all n.own found.own) in
        let third = pairs_moved n.top found.top in
        let fourth = pairs_moved n.bottom found.bottom in
        λ i. ((first i ++ enclosed (codes "{") 44 (codes "}") (second i)) ++ enclosed (codes "^[") 44 (codes "]") (third i)) ++ enclosed (codes "/[") 44 (codes "]") (fourth i)

    trees_moved : (f : Forest (Node Pairs)) → Each FoundNode (labels f) → tree_texts (text_in texts) (map_forest moved_node f) ≡ tree_texts text f
    trees_moved empty found = refl
    trees_moved (tree n kids more) found =
        let here = node_moved n found.0 in
        let below = trees_moved kids (Each-left FoundNode (labels kids) (labels more) found.1) in
        let beside = trees_moved more (Each-right FoundNode (labels kids) (labels more) found.1) in
        λ i. (here i ++ enclosed (codes "(") 32 (codes ")") (below i)) ∷ beside i

    -- the whole text
    pub form_moved : (c : Decorated Pairs Label) → FoundForm c → decorated_text (text_in texts) (moved_form c) ≡ decorated_text text c
    form_moved c found =
        let nodes = trees_moved c.nodes found.nodes in
        let interface = pairs_moved c.interface found.interface in
        let literals = literals_moved c.literals found.literals in
        λ i. (join_with_byte 32 (nodes i) ++ enclosed (codes " iface[") 44 (codes "]") (interface i)) ++ literals i

    -- ---- and the walk meets the same numbers

    values_moved : (ps : Pairs) → values (moved_pairs ps) ≡ map moved_label (values ps)
    values_moved [] = refl
    values_moved (p ∷ ps) = ap (λ zs. moved_label p.1 ∷ zs) (values_moved ps)

    node_values_moved : (n : Node Pairs) → FoundNode n → node_values (moved_node n) ≡ map moved_label (node_values n)
    node_values_moved n found =
        let own = category n.own in
        let props = values (properties n.own) in
        ap₂ (λ xs ys. ((xs ++ ys) ++ values (moved_pairs n.top)) ++ values (moved_pairs n.bottom)) (category_moved n.own found.own) (ap values (properties_moved n.own found.own) ∙ values_moved (properties n.own))
        ∙ ap₂ (λ xs ys. ((map moved_label own ++ map moved_label props) ++ xs) ++ ys) (values_moved n.top) (values_moved n.bottom)
        ∙ ap (λ xs. (xs ++ map moved_label (values n.top)) ++ map moved_label (values n.bottom)) (sym (map-append moved_label own props))
        ∙ ap (λ xs. xs ++ map moved_label (values n.bottom)) (sym (map-append moved_label (own ++ props) (values n.top)))
        ∙ sym (map-append moved_label ((own ++ props) ++ values n.top) (values n.bottom))

    nodes_values_moved : (ns : List (Node Pairs)) → Each FoundNode ns → gathered node_values (map moved_node ns) ≡ map moved_label (gathered node_values ns)
    nodes_values_moved [] found = refl
    nodes_values_moved (n ∷ ns) found = ap₂ (λ xs ys. xs ++ ys) (node_values_moved n found.0) (nodes_values_moved ns found.1) ∙ sym (map-append moved_label (node_values n) (gathered node_values ns))

    literals_values_moved : (ls : List (Literal Label)) → gathered literal_terms (map (map_literal moved_label) ls) ≡ map moved_label (gathered literal_terms ls)
    literals_values_moved [] = refl
    literals_values_moved (l ∷ ls) = ap (λ zs. map moved_label (literal_terms l) ++ zs) (literals_values_moved ls) ∙ sym (map-append moved_label (literal_terms l) (gathered literal_terms ls))

    pub walked_moved : (c : Decorated Pairs Label) → FoundForm c → walked (moved_form c) ≡ map moved_label (walked c)
    walked_moved c found =
        let nodes = gathered node_values (labels c.nodes) in
        let face = values c.interface in
        ap₂ (λ xs ys. (xs ++ ys) ++ gathered literal_terms (map (map_literal moved_label) c.literals)) (ap (gathered node_values) (labels-map moved_node c.nodes) ∙ nodes_values_moved (labels c.nodes) found.nodes) (values_moved c.interface)
        ∙ ap (λ zs. (map moved_label nodes ++ map moved_label face) ++ zs) (literals_values_moved c.literals)
        ∙ ap (λ zs. zs ++ map moved_label (gathered literal_terms c.literals)) (sym (map-append moved_label nodes face))
        ∙ sym (map-append moved_label (nodes ++ face) (gathered literal_terms c.literals))

  pub numbers_moved : (n : ℕ) (vs : List Label) → IsNumberedFrom n vs → IsNumberedFrom n (map moved_label vs)
  numbers_moved n [] order = tt
  numbers_moved n (named a ∷ vs) order = numbers_moved n vs order
  numbers_moved n (numbered k ∷ vs) (inl (low, high, order)) = inl (low, high, numbers_moved n vs order)
  numbers_moved n (numbered k ∷ vs) (inr (is, order)) = inr (is, numbers_moved (suc n) vs order)
