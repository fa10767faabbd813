-- A form has no more values than its text has bytes.
use Rattle.std.specs.Prelude.{◌≡◌, ℕ, suc, ◌+◌, ◌≤◌, Bool, true, false, List, [], ◌∷◌, ◌++◌, map, length, codes, ◌⊎◌, if◌then◌else◌, refl}
use Rattle.std.specs.Fmt.{decimal}
use Rattle.std.specs.List.{join_with_byte}
use Rattle.std.proofs.Common.{inl, inr, ap, sym, subst, arith, length-append}
use Rattle.gr_base.specs.Lists.{Each, gathered}
use Rattle.gr_base.specs.Forests.{Forest, empty, tree, labels}
use Rattle.gr_base.proofs.Gathering.{gathered-append}
use Rattle.gr_text.specs.Words.{is_word, quoted}
use Rattle.gr_terms.specs.Canonical.{Decorated, Label, Literal, Node, Pairs, category, literal_terms, named, node_values, numbered, properties, values, walked}
use Rattle.td_canon.specs.TreeText.{category_text, decorated_text, enclosed, label_text, literal_text, node_text, pair_texts, tree_texts}
use Rattle.tg_reader.proofs.Held.{category_short}
use Rattle.tg_reader.proofs.Runs.{word_some}

-- ---- texts in rows

join_more : (between : ℕ) (x : List ℕ) (xs : List (List ℕ)) → length x + length (join_with_byte between xs) ≤ length (join_with_byte between (x ∷ xs))
join_more between x [] = omega arith
join_more between x (y ∷ ys) = omega (arith, length-append x (between ∷ join_with_byte between (y ∷ ys)))

join_length : (between : ℕ) (xs : List (List ℕ)) → Each (λ x. 1 ≤ length x) xs → length xs ≤ length (join_with_byte between xs)
join_length between [] some = omega arith
join_length between (x ∷ xs) some = let here : 1 ≤ length x = some.0 in omega (arith, join_more between x xs, join_length between xs some.1)

enclosed_length : (before : List ℕ) (between : ℕ) (after : List ℕ) (xs : List (List ℕ)) → length (join_with_byte between xs) ≤ length (enclosed before between after xs)
enclosed_length before between after [] = omega arith
enclosed_length before between after (x ∷ xs) =
    omega (arith, length-append (before ++ join_with_byte between (x ∷ xs)) after, length-append before (join_with_byte between (x ∷ xs)))

module _ (text : ℕ → List ℕ) where
  label_some : (v : Label) → 1 ≤ length (label_text text v)
  label_some (numbered k) = omega (arith, length-append (codes "?") (decimal k))
  label_some (named a) = by (is_word (text a)) refl
    where
      by : (b : Bool) → is_word (text a) ≡ b → 1 ≤ length (if b then text a else quoted (text a))
      by true e = let w = word_some (text a) e in omega (arith, ap (λ (z : List ℕ). length z) w.2)
      by false e = omega arith

  -- ---- lists of pairs

  pairs_some : (ps : Pairs) → Each (λ x. 1 ≤ length x) (pair_texts text ps)
  pairs_some [] = tt
  pairs_some (p ∷ ps) = (omega (arith, length-append (text p.0 ++ codes "=") (label_text text p.1), label_some p.1), pairs_some ps)

  length-values : (ps : Pairs) → length (values ps) ≡ length (pair_texts text ps)
  length-values [] = refl
  length-values (p ∷ ps) = ap suc (length-values ps)

  enclosed_values : (before after : List ℕ) (ps : Pairs) → length (values ps) ≤ length (enclosed before 44 after (pair_texts text ps))
  enclosed_values before after ps = omega (arith, length-values ps, join_length 44 (pair_texts text ps) (pairs_some ps), enclosed_length before 44 after (pair_texts text ps))

  -- ---- nodes

  category_length : (ps : Pairs) → length (category ps) ≤ length (category_text text (category ps))
  category_length ps = by (category_short ps)
    where
      by : (category ps ≡ []) ⊎ ((v : Label) × (category ps ≡ v ∷ [])) → length (category ps) ≤ length (category_text text (category ps))
      by (inl e) = subst (λ vs. length vs ≤ length (category_text text vs)) (sym e) (omega arith)
      by (inr (v, e)) = subst (λ vs. length vs ≤ length (category_text text vs)) (sym e) (omega (arith, label_some v))

  node_length : (n : Node Pairs) → length (node_values n) ≤ length (node_text text n)
  node_length n =
      let first = category n.own in
      let second = values (properties n.own) in
      let a = category_text text first in
      let b = enclosed (codes "{") 44 (codes "}") (pair_texts text (properties n.own)) in
      let e = enclosed (codes "^[") 44 (codes "]") (pair_texts text n.top) in
      let f = enclosed (codes "/[") 44 (codes "]") (pair_texts text n.bottom) in
      omega (
        arith,
        category_length n.own,
        enclosed_values (codes "{") (codes "}") (properties n.own),
        enclosed_values (codes "^[") (codes "]") n.top,
        enclosed_values (codes "/[") (codes "]") n.bottom,
        length-append ((first ++ second) ++ values n.top) (values n.bottom),
        length-append (first ++ second) (values n.top),
        length-append first second,
        length-append ((a ++ b) ++ e) f,
        length-append (a ++ b) e,
        length-append a b,
      )

  nodes_length : (f : Forest (Node Pairs)) → length (gathered node_values (labels f)) ≤ length (join_with_byte 32 (tree_texts text f))
  nodes_length empty = omega arith
  nodes_length (tree n kids more) =
      let inner = enclosed (codes "(") 32 (codes ")") (tree_texts text kids) in
      omega (
        arith,
        node_length n,
        nodes_length kids,
        nodes_length more,
        enclosed_length (codes "(") 32 (codes ")") (tree_texts text kids),
        length-append (node_text text n) inner,
        join_more 32 (node_text text n ++ inner) (tree_texts text more),
        length-append (node_values n) (gathered node_values (labels kids ++ labels more)),
        ap (λ (z : List Label). length z) (gathered-append node_values (labels kids) (labels more)),
        length-append (gathered node_values (labels kids)) (gathered node_values (labels more)),
      )

  -- ---- literals

  arguments_some : (vs : List Label) → Each (λ x. 1 ≤ length x) (map (label_text text) vs)
  arguments_some [] = tt
  arguments_some (v ∷ vs) = (label_some v, arguments_some vs)

  length-arguments : (vs : List Label) → length (map (label_text text) vs) ≡ length vs
  length-arguments [] = refl
  length-arguments (v ∷ vs) = ap suc (length-arguments vs)

  literal_length : (l : Literal Label) → length (literal_terms l) ≤ length (literal_text text l)
  literal_length l =
      let h = label_text text l.handle in
      let p = label_text text l.pred in
      let j = join_with_byte 32 (map (label_text text) l.args) in
      omega (
        arith,
        label_some l.handle,
        label_some l.pred,
        length-arguments l.args,
        join_length 32 (map (label_text text) l.args) (arguments_some l.args),
        length-append ((((h ++ codes ":") ++ p) ++ codes "(") ++ j) (codes ")"),
        length-append (((h ++ codes ":") ++ p) ++ codes "(") j,
        length-append ((h ++ codes ":") ++ p) (codes "("),
        length-append (h ++ codes ":") p,
        length-append h (codes ":"),
      )

  literals_length : (ls : List (Literal Label)) → length (gathered literal_terms ls) ≤ length (gathered (λ l. codes " " ++ literal_text text l) ls)
  literals_length [] = omega arith
  literals_length (l ∷ ls) =
      omega (
        arith,
        literal_length l,
        literals_length ls,
        length-append (literal_terms l) (gathered literal_terms ls),
        length-append (codes " " ++ literal_text text l) (gathered (λ l. codes " " ++ literal_text text l) ls),
        length-append (codes " ") (literal_text text l),
      )

  pub walk_length : (c : Decorated Pairs Label) → length (walked c) ≤ length (decorated_text text c)
  walk_length c =
      let nodes = gathered node_values (labels c.nodes) in
      let a = join_with_byte 32 (tree_texts text c.nodes) in
      let b = enclosed (codes " iface[") 44 (codes "]") (pair_texts text c.interface) in
      let e = gathered (λ l. codes " " ++ literal_text text l) c.literals in
      omega (
        arith,
        nodes_length c.nodes,
        enclosed_values (codes " iface[") (codes "]") c.interface,
        literals_length c.literals,
        length-append (nodes ++ values c.interface) (gathered literal_terms c.literals),
        length-append nodes (values c.interface),
        length-append (a ++ b) e,
        length-append a b,
      )
