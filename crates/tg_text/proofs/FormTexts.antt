-- The text of a form is a text of the grammar of trees, in which no property breaks the rule, if its names can be written and its numbers are small.
use Rattle.std.proofs.Common.{◌≡◌, ℕ, zero, suc, ◌<◌, ◌≤◌, ◌^◌, List, [], ◌∷◌, ◌++◌, map, Bool, true, false, refl, ap, ◌∙◌, arith, append_assoc}
use Rattle.std.specs.Prelude.{codes, if◌then◌else◌, ⊤}
use Rattle.std.specs.List.{join_with_byte}
use Rattle.std.proofs.lemmas.Bool.{eq-eqb}
use Rattle.gr_base.specs.Lists.{Each, IsAmong, gathered}
use Rattle.gr_base.specs.Forests.{Forest, empty, tree, IsOneTree, labels, size}
use Rattle.gr_base.proofs.ListLemmas.{Each-left, Each-right}
use Rattle.gr_text.specs.Words.{is_word, quoted}
use Rattle.gr_terms.specs.Canonical.{Decorated, Label, Literal, Node, Pairs, named, numbered, category, properties}
use Rattle.gr_grammar.specs.Grammars.{tok, nil, seq, alt, star, part, Matches, the_left, the_right, is_next, goes}
use Rattle.tg_syntax.specs.declared.class.Class.TheVariants.{Byte}
use Rattle.tg_syntax.specs.Families.{node_part}
use Rattle.tg_syntax.specs.Names.{term, pair, bag}
use Rattle.tg_syntax.specs.Trees as syntax
use Rattle.tg_syntax.specs.Trees.{PROPERTY, label, braces, signed_bag, kids, node, arguments, behind_handle, literal, first_item, items}
use Rattle.tg_syntax.specs.Files.{system}
use Rattle.tg_syntax.specs.Breaks.{reserved, marks}
use Rattle.tg_syntax.proofs.Noting.{plain, plain_part}
use Rattle.tg_syntax.proofs.NameTexts.{word_text, string_text, variable_text, pair_text, property_obeys, item_interface, item_word, item_string, item_variable}
use Rattle.tg_syntax.proofs.Texts.{Takes, AreTaken, led, join-led, plain_takes, takes_token, takes_nothing, takes_both, takes_left, takes_right, takes_property, takes_node, takes_as, takes_row, takes_joined}
use Rattle.td_canon.specs.TreeText.{category_text, decorated_text, enclosed, label_text, literal_text, node_text, pair_texts, tree_texts}
use Rattle.tg_reader.specs.Writable.{IsName, IsWord}

-- anything may stand behind
abbrev pub Any : List ℕ → Type 0
Any ts = ⊤

-- no byte stands behind that goes on with a name
abbrev pub Over : List ℕ → Type 0
Over ts = is_next system (goes system term) ts ≡ false

module _ (text : ℕ → List ℕ) where
  -- ---- names and numbers

  abbrev pub CanWrite : Label → Type 0
  CanWrite (named a) = IsName (text a)
  CanWrite (numbered k) = k < 10 ^ 9

  name_text : (a : ℕ) (b : Bool) → is_word (text a) ≡ b → IsName (text a) → (rest : List ℕ) → Matches system term ((if b then text a else quoted (text a)) ++ rest) rest
  name_text a true e h rest = the_left (word_text (text a) rest e h.few)
  name_text a false e h rest = the_right (the_left (string_text (text a) rest h.bytes h.few))

  pub term_text : (l : Label) → CanWrite l → (rest : List ℕ) → Matches system term (label_text text l ++ rest) rest
  term_text (named a) h rest = name_text a (is_word (text a)) refl h rest
  term_text (numbered k) h rest = the_right (the_right (variable_text k rest h))

  -- ---- pairs

  pub record CanWritePair (p : ℕ × Label) : Type 0 where
    pub attribute : IsWord (text p.0)
    pub value : CanWrite p.1

  pub record CanWriteProperty (p : ℕ × Label) : Type 0 where
    pub pair : CanWritePair p
    pub free : IsAmong reserved (text p.0) → ⊥
    pub mark : text p.0 ≡ codes "mark" → IsAmong marks (label_text text p.1)

  abbrev one_pair : ℕ × Label → List ℕ
  one_pair p = text p.0 ++ codes "=" ++ label_text text p.1

  pair_grouped : (p : ℕ × Label) (rest : List ℕ) → one_pair p ++ rest ≡ text p.0 ++ 61 ∷ (label_text text p.1 ++ rest)
  pair_grouped p rest = append_assoc (text p.0 ++ codes "=") (label_text text p.1) rest ∙ append_assoc (text p.0) (codes "=") (label_text text p.1 ++ rest)

  pair_there : (p : ℕ × Label) → CanWritePair p → (rest : List ℕ) → Matches system pair (text p.0 ++ 61 ∷ (label_text text p.1 ++ rest)) rest
  pair_there p h rest = pair_text (text p.0) (label_text text p.1 ++ rest) rest h.attribute.word h.attribute.name.few (term_text p.1 h.value rest)

  pairs_taken : (ps : Pairs) → Each CanWritePair ps → AreTaken Any pair (pair_texts text ps)
  unfolding plain plain_part
  pairs_taken [] h = tt
  pairs_taken (p ∷ ps) h = (λ rest o. takes_as (pair_grouped p rest) (plain_takes refl (pair_there p h.0 rest)), pairs_taken ps h.1)

  properties_taken : (ps : Pairs) → Each CanWriteProperty ps → AreTaken Over (part PROPERTY) (pair_texts text ps)
  properties_taken [] h = tt
  properties_taken (p ∷ ps) h = (
    λ rest o. takes_as (pair_grouped p rest) (takes_property (pair_there p h.0.pair rest) (property_obeys (text p.0) (label_text text p.1) rest h.0.pair.attribute.word h.0.pair.attribute.name.few h.0.free h.0.mark o)),
    properties_taken ps h.1,
  )

  -- ---- bags and braces

  abbrev joined_pairs : Pairs → List ℕ
  joined_pairs ps = join_with_byte 44 (pair_texts text ps)

  bag_takes : (p : ℕ × Label) (ps : Pairs) → Each CanWritePair (p ∷ ps) → (rest : List ℕ) → Takes bag (91 ∷ (joined_pairs (p ∷ ps) ++ 93 ∷ rest)) rest
  bag_takes p ps h rest =
      takes_both (takes_token refl)
      (takes_both (takes_joined Any 44 (λ ts. tt) pair (one_pair p) (pair_texts text ps) (pairs_taken (p ∷ ps) h) (93 ∷ rest) tt) (takes_token refl))

  signed_takes : (sign r : ℕ) (ps : Pairs) → Each CanWritePair ps → (rest : List ℕ) → Takes (signed_bag sign (suc r)) (enclosed (sign ∷ 91 ∷ []) 44 (codes "]") (pair_texts text ps) ++ rest) rest
  signed_takes sign r [] h rest = takes_right takes_nothing
  signed_takes sign r (p ∷ ps) h rest =
      takes_as (append_assoc (sign ∷ 91 ∷ joined_pairs (p ∷ ps)) (codes "]") rest)
      (takes_left (takes_both (takes_token (eq-eqb sign sign refl)) (bag_takes p ps h rest)))

  braces_take : (r : ℕ) (ps : Pairs) → Each CanWriteProperty ps → (rest : List ℕ) → Takes (braces (suc r)) (enclosed (codes "{") 44 (codes "}") (pair_texts text ps) ++ rest) rest
  braces_take r [] h rest = takes_right takes_nothing
  braces_take r (p ∷ ps) h rest =
      takes_as (append_assoc (123 ∷ joined_pairs (p ∷ ps)) (codes "}") rest)
      (takes_left (takes_both (takes_token refl)
      (takes_both (takes_joined Over 44 (λ ts. refl) (part PROPERTY) (one_pair p) (pair_texts text ps) (properties_taken (p ∷ ps) h) (125 ∷ rest) refl) (takes_token refl))))

  -- ---- nodes

  pub record CanWriteNode (n : Node Pairs) : Type 0 where
    pub category : Each CanWrite (category n.own)
    pub properties : Each CanWriteProperty (properties n.own)
    pub top : Each CanWritePair n.top
    pub bottom : Each CanWritePair n.bottom

  label_takes : (vs : List Label) → Each CanWrite vs → (rest : List ℕ) → Takes label (category_text text vs ++ rest) rest
  unfolding plain plain_part
  label_takes [] h rest = takes_left (takes_token refl)
  label_takes (v ∷ vs) h rest = takes_right (plain_takes refl (term_text v h.0 rest))

  abbrev in_parentheses : List (List ℕ) → List ℕ
  in_parentheses xs = enclosed (codes "(") 32 (codes ")") xs

  kids_take : (r : ℕ) (xs : List (List ℕ)) → AreTaken Any (part (node_part r)) xs → (rest : List ℕ) → Takes (kids (suc r)) (in_parentheses xs ++ rest) rest
  kids_take r [] taken rest = takes_right takes_nothing
  kids_take r (x ∷ xs) taken rest =
      takes_as (append_assoc (40 ∷ join_with_byte 32 (x ∷ xs)) (codes ")") rest ∙ ap (λ z. 40 ∷ (z ++ 41 ∷ rest)) (join-led 32 x xs) ∙ ap (λ z. 40 ∷ z) (append_assoc x (led 32 xs) (41 ∷ rest)))
      (takes_left (takes_both (takes_token refl)
      (takes_both (taken.0 (led 32 xs ++ 41 ∷ rest) tt) (takes_both (takes_row Any 32 (λ ts. tt) (part (node_part r)) xs taken.1 (41 ∷ rest) tt) (takes_token refl)))))

  node_grouped : (n : Node Pairs) (k rest : List ℕ) →
      (node_text text n ++ k) ++ rest ≡
      category_text text (category n.own) ++ (enclosed (codes "{") 44 (codes "}") (pair_texts text (properties n.own)) ++ (enclosed (codes "^[") 44 (codes "]") (pair_texts text n.top) ++ (enclosed (codes "/[") 44 (codes "]") (pair_texts text n.bottom) ++ (k ++ rest))))
  node_grouped n k rest =
      let c = category_text text (category n.own) in
      let b = enclosed (codes "{") 44 (codes "}") (pair_texts text (properties n.own)) in
      let t = enclosed (codes "^[") 44 (codes "]") (pair_texts text n.top) in
      let u = enclosed (codes "/[") 44 (codes "]") (pair_texts text n.bottom) in
      append_assoc (((c ++ b) ++ t) ++ u) k rest ∙ append_assoc ((c ++ b) ++ t) u (k ++ rest) ∙ append_assoc (c ++ b) t (u ++ (k ++ rest)) ∙ append_assoc c b (t ++ (u ++ (k ++ rest)))

  node_takes : (r : ℕ) (n : Node Pairs) (xs : List (List ℕ)) → CanWriteNode n → AreTaken Any (part (node_part r)) xs → (rest : List ℕ) → Takes (part (node_part (suc r))) ((node_text text n ++ in_parentheses xs) ++ rest) rest
  node_takes r n xs h taken rest =
      let k = in_parentheses xs ++ rest in
      let u = enclosed (codes "/[") 44 (codes "]") (pair_texts text n.bottom) ++ k in
      let t = enclosed (codes "^[") 44 (codes "]") (pair_texts text n.top) ++ u in
      let b = enclosed (codes "{") 44 (codes "}") (pair_texts text (properties n.own)) ++ t in
      takes_as (node_grouped n (in_parentheses xs) rest)
      (takes_node (suc r)
      (takes_both (label_takes (category n.own) h.category b)
      (takes_both (braces_take r (properties n.own) h.properties t)
      (takes_both (signed_takes 94 r n.top h.top u)
      (takes_both (signed_takes 47 r n.bottom h.bottom k) (kids_take r xs taken rest))))))

  -- trees side by side, where as many brackets may be opened as there are nodes
  forest_taken : (r : ℕ) (f : Forest (Node Pairs)) → size f ≤ r → Each CanWriteNode (labels f) → AreTaken Any (part (node_part r)) (tree_texts text f)
  forest_taken r empty l h = tt
  forest_taken zero (tree n under more) l h = absurd (omega arith)
  forest_taken (suc r) (tree n under more) l h = (
    λ rest o. node_takes r n (tree_texts text under) h.0 (forest_taken r under (omega arith) (Each-left CanWriteNode (labels under) (labels more) h.1)) rest,
    forest_taken (suc r) more (omega arith) (Each-right CanWriteNode (labels under) (labels more) h.1),
  )

  -- ---- literals

  pub record CanWriteLiteral (l : Literal Label) : Type 0 where
    pub handle : CanWrite l.handle
    pub pred : CanWrite l.pred
    pub args : Each CanWrite l.args

  terms_taken : (vs : List Label) → Each CanWrite vs → AreTaken Any term (map (label_text text) vs)
  unfolding plain plain_part
  terms_taken [] h = tt
  terms_taken (v ∷ vs) h = (λ rest o. plain_takes refl (term_text v h.0 rest), terms_taken vs h.1)

  arguments_take : (vs : List Label) → Each CanWrite vs → (rest : List ℕ) → Takes arguments (join_with_byte 32 (map (label_text text) vs) ++ rest) rest
  arguments_take [] h rest = takes_right takes_nothing
  arguments_take (v ∷ vs) h rest = takes_left (takes_joined Any 32 (λ ts. tt) term (label_text text v) (map (label_text text) vs) (terms_taken (v ∷ vs) h) rest tt)

  -- what stands behind the handle
  abbrev behind : Literal Label → List ℕ → List ℕ
  behind l rest = label_text text l.pred ++ 40 ∷ (join_with_byte 32 (map (label_text text) l.args) ++ 41 ∷ rest)

  literal_grouped : (l : Literal Label) (rest : List ℕ) → literal_text text l ++ rest ≡ label_text text l.handle ++ 58 ∷ behind l rest
  literal_grouped l rest =
      let h = label_text text l.handle in
      let p = label_text text l.pred in
      let j = join_with_byte 32 (map (label_text text) l.args) in
      append_assoc ((((h ++ codes ":") ++ p) ++ codes "(") ++ j) (codes ")") rest
      ∙ append_assoc (((h ++ codes ":") ++ p) ++ codes "(") j (41 ∷ rest)
      ∙ append_assoc ((h ++ codes ":") ++ p) (codes "(") (j ++ 41 ∷ rest)
      ∙ append_assoc (h ++ codes ":") p (40 ∷ (j ++ 41 ∷ rest))
      ∙ append_assoc h (codes ":") (p ++ 40 ∷ (j ++ 41 ∷ rest))

  behind_takes : (l : Literal Label) → CanWriteLiteral l → (rest : List ℕ) → Takes behind_handle (58 ∷ behind l rest) rest
  unfolding plain plain_part
  behind_takes l h rest =
      takes_both (takes_token refl)
      (takes_both (plain_takes refl (term_text l.pred h.pred (40 ∷ (join_with_byte 32 (map (label_text text) l.args) ++ 41 ∷ rest))))
      (takes_both (takes_token refl) (takes_both (arguments_take l.args h.args (41 ∷ rest)) (takes_token refl))))

  literals_taken : (ls : List (Literal Label)) → Each CanWriteLiteral ls → AreTaken Any literal (map (literal_text text) ls)
  unfolding plain plain_part
  literals_taken [] h = tt
  literals_taken (l ∷ ls) h = (
    λ rest o. takes_as (literal_grouped l rest) (takes_both (plain_takes refl (term_text l.handle h.0.handle (58 ∷ behind l rest))) (behind_takes l h.0 rest)),
    literals_taken ls h.1,
  )

  -- the first literal, where an interface may stand too
  named_first : (a : ℕ) (b : Bool) → is_word (text a) ≡ b → IsName (text a) → (ts rest : List ℕ) → Matches system behind_handle (58 ∷ ts) rest → Matches system first_item ((if b then text a else quoted (text a)) ++ 58 ∷ ts) rest
  named_first a true e h ts rest m = item_word (text a) ts rest e h.few m
  named_first a false e h ts rest m = item_string (text a) (58 ∷ ts) rest h.bytes h.few m

  labelled_first : (l : Label) → CanWrite l → (ts rest : List ℕ) → Matches system behind_handle (58 ∷ ts) rest → Matches system first_item (label_text text l ++ 58 ∷ ts) rest
  labelled_first (named a) h ts rest m = named_first a (is_word (text a)) refl h ts rest m
  labelled_first (numbered k) h ts rest m = item_variable k (58 ∷ ts) rest h m

  first_literal : (l : Literal Label) → CanWriteLiteral l → (rest : List ℕ) → Takes first_item (literal_text text l ++ rest) rest
  unfolding plain plain_part
  first_literal l h rest = takes_as (literal_grouped l rest) (plain_takes refl (labelled_first l.handle h.handle (behind l rest) rest (behind_takes l h rest).tree))

  first_interface : (p : ℕ × Label) (ps : Pairs) → Each CanWritePair (p ∷ ps) → (rest : List ℕ) → Takes first_item (codes "iface[" ++ (joined_pairs (p ∷ ps) ++ 93 ∷ rest)) rest
  unfolding plain plain_part
  first_interface p ps h rest = plain_takes refl (item_interface (joined_pairs (p ∷ ps) ++ 93 ∷ rest) rest (bag_takes p ps h rest).tree)

  -- ---- the interface and the literals

  abbrev literals_text : List (Literal Label) → List ℕ
  literals_text ls = gathered (λ l. codes " " ++ literal_text text l) ls

  literals_led : (ls : List (Literal Label)) → literals_text ls ≡ led 32 (map (literal_text text) ls)
  literals_led [] = refl
  literals_led (l ∷ ls) = ap (λ z. (32 ∷ literal_text text l) ++ z) (literals_led ls)

  literals_take : (ls : List (Literal Label)) → Each CanWriteLiteral ls → (rest : List ℕ) → Takes (star (seq (tok (Byte 32)) literal)) (literals_text ls ++ rest) rest
  literals_take ls h rest = takes_as (ap (λ z. z ++ rest) (literals_led ls)) (takes_row Any 32 (λ ts. tt) literal (map (literal_text text) ls) (literals_taken ls h) rest tt)

  abbrev interface_text : Pairs → List ℕ
  interface_text ps = enclosed (codes " iface[") 44 (codes "]") (pair_texts text ps)

  items_take : (ps : Pairs) (ls : List (Literal Label)) → Each CanWritePair ps → Each CanWriteLiteral ls → (rest : List ℕ) → Takes (alt items nil) (interface_text ps ++ (literals_text ls ++ rest)) rest
  items_take [] [] h k rest = takes_right takes_nothing
  items_take [] (l ∷ ls) h k rest =
      takes_as (append_assoc (32 ∷ literal_text text l) (literals_text ls) rest)
      (takes_left (takes_both (takes_token refl) (takes_both (first_literal l k.0 (literals_text ls ++ rest)) (literals_take ls k.1 rest))))
  items_take (p ∷ ps) ls h k rest =
      takes_as (append_assoc (codes " iface[" ++ joined_pairs (p ∷ ps)) (codes "]") (literals_text ls ++ rest) ∙ append_assoc (codes " iface[") (joined_pairs (p ∷ ps)) (93 ∷ (literals_text ls ++ rest)))
      (takes_left (takes_both (takes_token refl) (takes_both (first_interface p ps h (literals_text ls ++ rest)) (literals_take ls k rest))))

  -- ---- the whole

  pub record CanWriteForm (c : Decorated Pairs Label) : Type 0 where
    pub one : IsOneTree c.nodes
    pub few : size c.nodes ≤ 200
    pub nodes : Each CanWriteNode (labels c.nodes)
    pub interface : Each CanWritePair c.interface
    pub literals : Each CanWriteLiteral c.literals

  nodes_take : (f : Forest (Node Pairs)) → IsOneTree f → size f ≤ 200 → Each CanWriteNode (labels f) → (rest : List ℕ) → Takes (part (node_part 200)) (join_with_byte 32 (tree_texts text f) ++ rest) rest
  nodes_take empty one few h rest = absurd one
  nodes_take (tree n under empty) one few h rest = (forest_taken 200 (tree n under empty) few h).0 rest tt
  nodes_take (tree n under (tree m others more)) one few h rest = absurd one

  pub form_takes : (c : Decorated Pairs Label) → CanWriteForm c → (rest : List ℕ) → Takes syntax.tree (decorated_text text c ++ rest) rest
  form_takes c h rest =
      let j = join_with_byte 32 (tree_texts text c.nodes) in
      takes_as (append_assoc (j ++ interface_text c.interface) (literals_text c.literals) rest ∙ append_assoc j (interface_text c.interface) (literals_text c.literals ++ rest))
      (takes_both (nodes_take c.nodes h.one h.few h.nodes (interface_text c.interface ++ (literals_text c.literals ++ rest))) (items_take c.interface c.literals h.interface h.literals rest))
