-- The text of a form tells the form: interface, literals and the whole.
use Rattle.std.specs.Prelude.{◌≡◌, ℕ, List, [], ◌∷◌, ◌++◌, map, codes, refl}
use Rattle.std.specs.Fmt.{decimal}
use Rattle.std.specs.List.{join_with_byte}
use Rattle.std.proofs.Common.{ap, ap₂, sym, ◌∙◌, subst, arith, append_assoc}
use Rattle.std.proofs.lemmas.Bool.{false≢true}
use Rattle.gr_base.specs.Lists.{Each, gathered}
use Rattle.gr_base.specs.Forests.{Forest, empty, tree, IsOneTree, labels}
use Rattle.gr_base.proofs.ListLemmas.{Each-left, same_head, same_tail}
use Rattle.gr_terms.specs.Canonical.{Decorated, Label, Literal, Node, Pairs}
use Rattle.td_canon.specs.TreeText.{decorated_text, enclosed, label_text, literal_text, pair_texts, tree_texts}
use Rattle.td_canon.proofs.SpellingLemmas.{CanSpell, CanSpellPair, Looks, Stops, bare, begins, begins_value, cancel_front, in_quotes, is_letter, label_apart, looks, number, pairs_apart, span_apart}
use Rattle.td_canon.proofs.TreeSpelling.{CanSpellNode, EndsTree, rows_apart, tree_apart}

module _ (text : ℕ → List ℕ) (Good : ℕ → Type 0) (apart : (a b : ℕ) → Good a → Good b → text a ≡ text b → a ≡ b) where
  -- ---- arguments

  abbrev pub CanSpellLabel : Label → Type 0
  CanSpellLabel = CanSpell text Good apart

  join_front : (x : List ℕ) (xs : List (List ℕ)) (t : List ℕ) → (u : List ℕ) × (join_with_byte 32 (x ∷ xs) ++ t ≡ x ++ u)
  join_front x [] t = (t, refl)
  join_front x (y ∷ ys) t = (32 ∷ (join_with_byte 32 (y ∷ ys) ++ t), append_assoc x (32 ∷ join_with_byte 32 (y ∷ ys)) t)

  abbrev texts : List Label → List (List ℕ)
  texts vs = map (label_text text) vs

  closing_apart : (v : Label) (r s : List ℕ) → CanSpellLabel v → 41 ∷ r ≡ label_text text v ++ s → ⊥
  closing_apart v r s h e =
      let b = begins text Good apart v h in
      let same : 41 ≡ b.first = same_head 41 b.first r (b.others ++ s) (e ∙ ap (λ t. t ++ s) b.is) in
      false≢true (ap begins_value same ∙ b.begins)

  arguments_apart : (vs ws : List Label) (r s : List ℕ) → Each CanSpellLabel vs → Each CanSpellLabel ws → join_with_byte 32 (texts vs) ++ 41 ∷ r ≡ join_with_byte 32 (texts ws) ++ 41 ∷ s → (vs ≡ ws) × (r ≡ s)
  arguments_apart [] [] r s h k e = (refl, same_tail 41 41 r s e)
  arguments_apart [] (w ∷ ws) r s h k e = let f = join_front (label_text text w) (texts ws) (41 ∷ s) in absurd (closing_apart w r f.0 k.0 (e ∙ f.1))
  arguments_apart (v ∷ vs) [] r s h k e = let f = join_front (label_text text v) (texts vs) (41 ∷ r) in absurd (closing_apart v s f.0 h.0 (sym e ∙ f.1))
  arguments_apart (v ∷ []) (w ∷ []) r s h k e =
      let one = label_apart text Good apart v w (41 ∷ r) (41 ∷ s) h.0 k.0 refl refl e in (ap (λ z. z ∷ []) one.0, same_tail 41 41 r s one.1)
  arguments_apart (v ∷ []) (w ∷ x ∷ ws) r s h k e =
      let one = label_apart text Good apart v w (41 ∷ r) (32 ∷ (join_with_byte 32 (texts (x ∷ ws)) ++ 41 ∷ s)) h.0 k.0 refl refl (e ∙ append_assoc (label_text text w) (32 ∷ join_with_byte 32 (texts (x ∷ ws))) (41 ∷ s)) in
      absurd (let f : 41 ≡ 32 = same_head 41 32 r (join_with_byte 32 (texts (x ∷ ws)) ++ 41 ∷ s) one.1 in omega (arith, f))
  arguments_apart (v ∷ u ∷ vs) (w ∷ []) r s h k e =
      let one = label_apart text Good apart v w (32 ∷ (join_with_byte 32 (texts (u ∷ vs)) ++ 41 ∷ r)) (41 ∷ s) h.0 k.0 refl refl (sym (append_assoc (label_text text v) (32 ∷ join_with_byte 32 (texts (u ∷ vs))) (41 ∷ r)) ∙ e) in
      absurd (let f : 32 ≡ 41 = same_head 32 41 (join_with_byte 32 (texts (u ∷ vs)) ++ 41 ∷ r) s one.1 in omega (arith, f))
  arguments_apart (v ∷ u ∷ vs) (w ∷ x ∷ ws) r s h k e =
      let left = join_with_byte 32 (texts (u ∷ vs)) ++ 41 ∷ r in
      let right = join_with_byte 32 (texts (x ∷ ws)) ++ 41 ∷ s in
      let one = label_apart text Good apart v w (32 ∷ left) (32 ∷ right) h.0 k.0 refl refl
      (sym (append_assoc (label_text text v) (32 ∷ join_with_byte 32 (texts (u ∷ vs))) (41 ∷ r)) ∙ e ∙ append_assoc (label_text text w) (32 ∷ join_with_byte 32 (texts (x ∷ ws))) (41 ∷ s)) in
      let more = arguments_apart (u ∷ vs) (x ∷ ws) r s h.1 k.1 (same_tail 32 32 left right one.1) in
      (ap₂ (λ z zs. z ∷ zs) one.0 more.0, more.1)

  -- ---- literals

  pub record CanSpellLiteral (l : Literal Label) : Type 0 where
    pub handle : CanSpellLabel l.handle
    pub pred : CanSpellLabel l.pred
    pub args : Each CanSpellLabel l.args

  literal_regroup : (l : Literal Label) (r : List ℕ) →
      literal_text text l ++ r ≡ label_text text l.handle ++ 58 ∷ (label_text text l.pred ++ 40 ∷ (join_with_byte 32 (texts l.args) ++ 41 ∷ r))
  literal_regroup l r =
      let h = label_text text l.handle in
      let p = label_text text l.pred in
      let j = join_with_byte 32 (texts l.args) in
      append_assoc ((((h ++ codes ":") ++ p) ++ codes "(") ++ j) (codes ")") r
      ∙ append_assoc (((h ++ codes ":") ++ p) ++ codes "(") j (41 ∷ r)
      ∙ append_assoc ((h ++ codes ":") ++ p) (codes "(") (j ++ 41 ∷ r)
      ∙ append_assoc (h ++ codes ":") p (40 ∷ (j ++ 41 ∷ r))
      ∙ append_assoc h (codes ":") (p ++ 40 ∷ (j ++ 41 ∷ r))

  literal_apart : (l m : Literal Label) (r s : List ℕ) → CanSpellLiteral l → CanSpellLiteral m → literal_text text l ++ r ≡ literal_text text m ++ s → (l ≡ m) × (r ≡ s)
  literal_apart l m r s h k e =
      let inner : Literal Label → List ℕ → List ℕ = λ (z : Literal Label) (t : List ℕ). join_with_byte 32 (texts z.args) ++ 41 ∷ t in
      let one = label_apart text Good apart l.handle m.handle (58 ∷ (label_text text l.pred ++ 40 ∷ inner l r)) (58 ∷ (label_text text m.pred ++ 40 ∷ inner m s)) h.handle k.handle refl refl
      (sym (literal_regroup l r) ∙ e ∙ literal_regroup m s) in
      let two = label_apart text Good apart l.pred m.pred (40 ∷ inner l r) (40 ∷ inner m s) h.pred k.pred refl refl
      (same_tail 58 58 (label_text text l.pred ++ 40 ∷ inner l r) (label_text text m.pred ++ 40 ∷ inner m s) one.1) in
      let three = arguments_apart l.args m.args r s h.args k.args (same_tail 40 40 (inner l r) (inner m s) two.1) in
      (λ i. record { handle = one.0 i; pred = two.0 i; args = three.0 i }, three.1)

  abbrev pub literals_text : List (Literal Label) → List ℕ
  literals_text ls = gathered (λ l. codes " " ++ literal_text text l) ls

  literals_apart : (ls ms : List (Literal Label)) → Each CanSpellLiteral ls → Each CanSpellLiteral ms → literals_text ls ≡ literals_text ms → ls ≡ ms
  literals_apart [] [] h k e = refl
  literals_apart [] (m ∷ ms) h k e = absurd cc
  literals_apart (l ∷ ls) [] h k e = absurd cc
  literals_apart (l ∷ ls) (m ∷ ms) h k e =
      let one = literal_apart l m (literals_text ls) (literals_text ms) h.0 k.0 (same_tail 32 32 (literal_text text l ++ literals_text ls) (literal_text text m ++ literals_text ms) e) in
      ap₂ (λ z zs. z ∷ zs) one.0 (literals_apart ls ms h.1 k.1 one.1)

  -- ---- the interface

  abbrev pub interface_text : Pairs → List ℕ
  interface_text ps = enclosed (codes " iface[") 44 (codes "]") (pair_texts text ps)

  -- a literal does not begin as an interface does
  no_interface : (ls : List (Literal Label)) (w : List ℕ) → Each CanSpellLiteral ls → literals_text ls ≡ codes " iface" ++ 91 ∷ w → ⊥
  no_interface [] w h e = absurd cc
  no_interface (l ∷ ls) w h e =
      let rest = 58 ∷ (label_text text l.pred ++ 40 ∷ (join_with_byte 32 (texts l.args) ++ 41 ∷ literals_text ls)) in
      let behind : label_text text l.handle ++ rest ≡ codes "iface" ++ 91 ∷ w =
      sym (literal_regroup l (literals_text ls)) ∙ same_tail 32 32 (literal_text text l ++ literals_text ls) (codes "iface" ++ 91 ∷ w) e in
      by rest refl behind (looks text Good apart l.handle h.0.handle)
    where
      by : (rest : List ℕ) → rest ≡ 58 ∷ (label_text text l.pred ++ 40 ∷ (join_with_byte 32 (texts l.args) ++ 41 ∷ literals_text ls)) → label_text text l.handle ++ rest ≡ codes "iface" ++ 91 ∷ w →
          Looks text Good apart l.handle → ⊥
      by rest rest_is e (bare a la all word is) =
          let one = span_apart is_letter (text a) (codes "iface") rest (91 ∷ w) all (refl, (refl, (refl, (refl, (refl, tt))))) (subst (Stops is_letter) (sym rest_is) refl) refl (sym (ap (λ t. t ++ rest) is) ∙ e) in
          let f : 58 ≡ 91 = same_head 58 91 (label_text text l.pred ++ 40 ∷ (join_with_byte 32 (texts l.args) ++ 41 ∷ literals_text ls)) w (sym rest_is ∙ one.1) in
          omega (arith, f)
      by rest rest_is e (in_quotes a la none is) =
          let f : 34 ≡ 105 = same_head 34 105 ((text a ++ 34 ∷ []) ++ rest) (codes "face" ++ 91 ∷ w) (sym (ap (λ t. t ++ rest) is) ∙ e) in omega (arith, f)
      by rest rest_is e (number k la small is) =
          let f : 63 ≡ 105 = same_head 63 105 (decimal k ++ rest) (codes "face" ++ 91 ∷ w) (sym (ap (λ t. t ++ rest) is) ∙ e) in omega (arith, f)

  interface_regroup : (p : ℕ × Label) (ps : Pairs) (t : List ℕ) → interface_text (p ∷ ps) ++ t ≡ codes " iface[" ++ (join_with_byte 44 (pair_texts text (p ∷ ps)) ++ 93 ∷ t)
  interface_regroup p ps t =
      append_assoc (codes " iface[" ++ join_with_byte 44 (pair_texts text (p ∷ ps))) (93 ∷ []) t ∙ append_assoc (codes " iface[") (join_with_byte 44 (pair_texts text (p ∷ ps))) (93 ∷ t)

  interface_apart : (ps qs : Pairs) (ls ms : List (Literal Label)) → Each (CanSpellPair text Good apart) ps → Each (CanSpellPair text Good apart) qs → Each CanSpellLiteral ls → Each CanSpellLiteral ms →
      interface_text ps ++ literals_text ls ≡ interface_text qs ++ literals_text ms → (ps ≡ qs) × (literals_text ls ≡ literals_text ms)
  interface_apart [] [] ls ms h k u v e = (refl, e)
  interface_apart [] (q ∷ qs) ls ms h k u v e = absurd (no_interface ls (join_with_byte 44 (pair_texts text (q ∷ qs)) ++ 93 ∷ literals_text ms) u (e ∙ interface_regroup q qs (literals_text ms)))
  interface_apart (p ∷ ps) [] ls ms h k u v e = absurd (no_interface ms (join_with_byte 44 (pair_texts text (p ∷ ps)) ++ 93 ∷ literals_text ls) v (sym e ∙ interface_regroup p ps (literals_text ls)))
  interface_apart (p ∷ ps) (q ∷ qs) ls ms h k u v e =
      pairs_apart text Good apart 93 refl (λ f. absurd (omega (arith, f))) p q ps qs (literals_text ls) (literals_text ms) h k
      (cancel_front (codes " iface[") _ _ (sym (interface_regroup p ps (literals_text ls)) ∙ e ∙ interface_regroup q qs (literals_text ms)))

  -- ---- the whole

  pub record CanSpellForm (c : Decorated Pairs Label) : Type 0 where
    pub nodes : Each (CanSpellNode text Good apart) (labels c.nodes)
    pub interface : Each (CanSpellPair text Good apart) c.interface
    pub literals : Each CanSpellLiteral c.literals

  literals_end : (ls : List (Literal Label)) → EndsTree (literals_text ls)
  literals_end [] = tt
  literals_end (l ∷ ls) = refl

  behind_tree : (ps : Pairs) (ls : List (Literal Label)) → EndsTree (interface_text ps ++ literals_text ls)
  behind_tree [] ls = literals_end ls
  behind_tree (p ∷ ps) ls = refl

  pub record SameNodes (f g : Forest (Node Pairs)) (r s : List ℕ) : Type 0 where
    pub nodes : f ≡ g
    pub rest : r ≡ s

  nodes_apart : (f g : Forest (Node Pairs)) (r s : List ℕ) → IsOneTree f → IsOneTree g → Each (CanSpellNode text Good apart) (labels f) → Each (CanSpellNode text Good apart) (labels g) → EndsTree r → EndsTree s →
      join_with_byte 32 (tree_texts text f) ++ r ≡ join_with_byte 32 (tree_texts text g) ++ s → SameNodes f g r s
  nodes_apart empty g r s one other h k u v e = absurd one
  nodes_apart (tree n kids (tree p over more)) g r s one other h k u v e = absurd one
  nodes_apart (tree n kids empty) empty r s one other h k u v e = absurd other
  nodes_apart (tree n kids empty) (tree m others (tree q under rest)) r s one other h k u v e = absurd other
  nodes_apart (tree n kids empty) (tree m others empty) r s one other h k u v e =
      let whole = tree_apart text Good apart n m kids others r s h.0 k.0
      (rows_apart text Good apart kids others (Each-left (CanSpellNode text Good apart) (labels kids) [] h.1) (Each-left (CanSpellNode text Good apart) (labels others) [] k.1)) u v e in
      record { nodes = λ i. tree (whole.0 i) (whole.1 i) empty; rest = whole.2 }

  pub forms_apart : (c e : Decorated Pairs Label) → IsOneTree c.nodes → IsOneTree e.nodes → CanSpellForm c → CanSpellForm e → decorated_text text c ≡ decorated_text text e → c ≡ e
  forms_apart c e one other h k same =
      let tree_c = join_with_byte 32 (tree_texts text c.nodes) in
      let tree_e = join_with_byte 32 (tree_texts text e.nodes) in
      let nodes = nodes_apart c.nodes e.nodes (interface_text c.interface ++ literals_text c.literals) (interface_text e.interface ++ literals_text e.literals) one other h.nodes k.nodes
      (behind_tree c.interface c.literals) (behind_tree e.interface e.literals)
      (sym (append_assoc tree_c (interface_text c.interface) (literals_text c.literals)) ∙ same ∙ append_assoc tree_e (interface_text e.interface) (literals_text e.literals)) in
      let interface = interface_apart c.interface e.interface c.literals e.literals h.interface k.interface h.literals k.literals nodes.rest in
      let literals : c.literals ≡ e.literals = literals_apart c.literals e.literals h.literals k.literals interface.1 in
      λ i. record { nodes = nodes.nodes i; interface = interface.0 i; literals = literals i }
