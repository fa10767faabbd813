-- What a tree that was read says of the text.
use Rattle.std.specs.Prelude.{◌≡◌, ℕ, suc, ◌+◌, List, [], ◌∷◌, length, codes, Option, Some, None, refl}
use Rattle.std.proofs.Common.{inl, inr, sym, ◌∙◌, subst}
use Rattle.gr_base.specs.Lists.{Each, NoneTwice}
use Rattle.gr_base.specs.Forests.{Forest, empty, tree, AreAlike, labels, size}
use Rattle.gr_base.proofs.ListLemmas.{Each-append, Each-at, Each-left, Each-members, Each-right}
use Rattle.gr_symbols.specs.Numbers.{Grows, Names, first_texts}
use Rattle.gr_symbols.proofs.NumberLemmas.{one_number, one_text}
use Rattle.gr_terms.specs.Canonical.{Label, Node, Pairs, named, numbered}
use Rattle.gr_terms.specs.Constants.{ANCHOR, CAT, COANCHOR, FOOT, LEX, MARK, NADJ, SUBST}
use Rattle.gr_terms.specs.declared.Literal.{Literal}
use Rattle.gr_terms.specs.declared.Sym.{Sym}
use Rattle.gr_terms.specs.declared.Term.{Term}
use Rattle.gr_terms.specs.declared.Term.TheVariants.{Const, Var}
use Rattle.td_canon.specs.CanonicalTexts.{HasText, IsListedTree, IsNamedBag, IsNamedLiteral, IsNamedNode, IsNamedTerm, IsNamedTree, text_in}
use Rattle.td_canon.proofs.ValueLemmas.{text_in-names}
use Rattle.td_tree.specs.Trees.{AreTreeNodes, BagPairs, IsListedNode, preorder}
use Rattle.td_tree.specs.declared.Tree.{Tree}
use Rattle.td_tree.specs.declared.TreeNode.{TreeNode}
use Rattle.tg_reader.specs.Reading.{AreKnownLiterals, AreKnownNodes, IsKnownPair, IsKnownTerm, IsKnownTree, IsNamedOwn, MayStand, Obeys, StandsFor, StandsForTree}
use Rattle.tg_reader.specs.Writable.{IsMark, IsTreeText, IsWritableLiteral, IsWritableNode, IsWritableOwn, IsWritablePair, IsWritableTerm, IsWritableTree}
use Rattle.tg_reader.proofs.Closing.{HoldsNode, closing, nodes_hold}
use Rattle.tg_reader.proofs.Held.{Holds}
use Rattle.tg_reader.proofs.Readable.{IsMarkText, IsWell, Readable, StandsWell, readable}
use Rattle.tg_reader.proofs.Tables.{first_is, first_names, only_number}
use Rattle.gr_text.specs.Limits.{IsShort}

-- ---- what is known of a tree

module _ (texts : List (List ℕ)) where
  known_named : (bag : BagPairs) → Each (IsKnownPair texts) bag → IsNamedBag (length texts) bag
  known_named [] known = tt
  known_named (p ∷ bag) known = ((known.0.attribute, known.0.value), known_named bag known.1)

  pub named_own : (nodes : List TreeNode) → AreKnownNodes nodes texts → Each (IsNamedOwn (length texts)) nodes
  named_own [] known = tt
  named_own (n ∷ nodes) known = (known_named n.own known.0.own.pairs, named_own nodes known.1)

  pub named_tree : (t : Tree) → IsKnownTree t texts → IsNamedTree (length texts) t
  named_tree t known = record { nodes = nodes t.nodes known.nodes; iface = known_named t.iface known.iface.pairs; sem = literals t.sem known.sem }
    where
      nodes : (ns : List TreeNode) → AreKnownNodes ns texts → Each (IsNamedNode (length texts)) ns
      nodes [] h = tt
      nodes (n ∷ ns) h = (record { own = known_named n.own h.0.own.pairs; top = known_named n.top h.0.top.pairs; bot = known_named n.bot h.0.bot.pairs }, nodes ns h.1)

      terms : (vs : List Term) → Each (λ v. IsKnownTerm v texts) vs → Each (IsNamedTerm (length texts)) vs
      terms [] h = tt
      terms (v ∷ vs) h = (h.0.0, terms vs h.1)

      literals : (ls : List Literal) → AreKnownLiterals ls texts → Each (IsNamedLiteral (length texts)) ls
      literals [] h = tt
      literals (l ∷ ls) h = (record { handle = h.0.handle.0; pred = h.0.pred.0; args = terms l.args h.0.args }, literals ls h.1)

  pub listed_tree : (t : Tree) → IsKnownTree t texts → IsListedTree t
  listed_tree t known = record { nodes = nodes t.nodes known.nodes; iface = known.iface.listed }
    where
      nodes : (ns : List TreeNode) → AreKnownNodes ns texts → Each IsListedNode ns
      nodes [] h = tt
      nodes (n ∷ ns) h = (record { own = h.0.own.listed; top = h.0.top.listed; bot = h.0.bot.listed }, nodes ns h.1)

  pairs_writable : (bag : BagPairs) → Each (IsKnownPair texts) bag → Each (IsWritablePair texts) bag
  pairs_writable [] known = tt
  pairs_writable (p ∷ bag) known = (known.0.writable, pairs_writable bag known.1)

  own_writable : (bag : BagPairs) → Each (IsKnownPair texts) bag → Each (MayStand texts) bag → Each (IsWritableOwn texts) bag
  own_writable [] known stands = tt
  own_writable (p ∷ bag) known stands = (record { pair = known.0.writable; uncoloured = stands.0.0; mark = stands.0.1 }, own_writable bag known.1 stands.1)

  -- a tree that obeys the rules can be written
  pub writable_tree : (t : Tree) → IsKnownTree t texts → Each (Obeys texts) t.nodes → IsWritableTree texts t
  writable_tree t known obeys = record { nodes = nodes t.nodes known.nodes obeys; iface = pairs_writable t.iface known.iface.pairs; sem = literals t.sem known.sem }
    where
      nodes : (ns : List TreeNode) → AreKnownNodes ns texts → Each (Obeys texts) ns → Each (IsWritableNode texts) ns
      nodes [] h o = tt
      nodes (n ∷ ns) h o = (record { own = own_writable n.own h.0.own.pairs o.0; top = pairs_writable n.top h.0.top.pairs; bot = pairs_writable n.bot h.0.bot.pairs }, nodes ns h.1 o.1)

      terms : (vs : List Term) → Each (λ v. IsKnownTerm v texts) vs → Each (IsWritableTerm texts) vs
      terms [] h = tt
      terms (v ∷ vs) h = (h.0.1, terms vs h.1)

      literals : (ls : List Literal) → AreKnownLiterals ls texts → Each (IsWritableLiteral texts) ls
      literals [] h = tt
      literals (l ∷ ls) h = (record { handle = h.0.handle.1; pred = h.0.pred.1; args = terms l.args h.0.args }, literals ls h.1)

-- ---- a tree that stands for the form of one that can be written

module _ (texts : List (List ℕ)) (once : NoneTwice texts) (first : Grows first_texts texts) (x : List ℕ) (is : IsTreeText x) (short : IsShort x) where
  abbrev text : ℕ → List ℕ
  text = text_in is.texts

  pub source : Readable is.texts x is.has.spells.form
  source = readable is.texts is.table is.tree x is.has is.writable short

  cat_is : text_in is.texts CAT ≡ codes "cat"
  cat_is = first_is is.texts is.table.once is.table.first CAT (codes "cat") refl

  cat : Names texts CAT (text_in is.texts CAT)
  cat = subst (λ t. Names texts CAT t) (sym cat_is) (first_names texts once first CAT (codes "cat") refl)

  only : (a : ℕ) → text_in is.texts a ≡ text_in is.texts CAT → a ≡ CAT
  only a e = only_number is.texts is.table.once is.table.first CAT a (codes "cat") (first_names is.texts is.table.once is.table.first CAT (codes "cat") refl) (λ h. absurd cc) (e ∙ cat_is)

  -- marks are marks
  mark_number : (n : ℕ) (t : List ℕ) (a : ℕ) (s : Sym) → Names first_texts n t → text_in is.texts a ≡ t → Names texts s.0 (text_in is.texts a) → s.0 ≡ n
  mark_number n t a s names e found = one_number texts s.0 n t once (subst (λ u. Names texts s.0 u) e found) (first_names texts once first n t names)

  mark_value : (v : Label) (y : Term) → IsMarkText (text_in is.texts) v → StandsFor (text_in is.texts) texts v y → IsMark y
  mark_value (numbered k) y mark stands = absurd mark
  mark_value (named a) (Var v) mark stands = absurd stands
  mark_value (named a) (Const s) (inl e) stands = inl (mark_number ANCHOR (codes "anchor") a s refl e stands)
  mark_value (named a) (Const s) (inr (inl e)) stands = inr (inl (mark_number COANCHOR (codes "coanchor") a s refl e stands))
  mark_value (named a) (Const s) (inr (inr (inl e))) stands = inr (inr (inl (mark_number SUBST (codes "subst") a s refl e stands)))
  mark_value (named a) (Const s) (inr (inr (inr (inl e)))) stands = inr (inr (inr (inl (mark_number FOOT (codes "foot") a s refl e stands))))
  mark_value (named a) (Const s) (inr (inr (inr (inr (inl e))))) stands = inr (inr (inr (inr (inl (mark_number LEX (codes "lex") a s refl e stands)))))
  mark_value (named a) (Const s) (inr (inr (inr (inr (inr e))))) stands = inr (inr (inr (inr (inr (inl (mark_number NADJ (codes "nadj") a s refl e stands))))))

  own_obeys : (ps : Pairs) (bag : BagPairs) → Each (StandsWell (text_in is.texts)) ps → Holds (text_in is.texts) texts ps bag → Each (MayStand texts) bag
  own_obeys ps bag well holds = Each-members (MayStand texts) bag (λ q i.
      let p = holds.back q i in
      let w = Each-at (StandsWell (text_in is.texts)) ps p.0 well p.1 in (
        (λ e. w.uncoloured (sym (text_in-names texts q.0.0 (text_in is.texts p.0.0) p.2.0) ∙ e)),
        (λ e. mark_value p.0.1 q.1 (w.mark (one_text texts MARK (text_in is.texts p.0.0) (codes "mark") (subst (λ n. Names texts n (text_in is.texts p.0.0)) e p.2.0) (first_names texts once first MARK (codes "mark") refl))) p.2.1),
      ))

  nodes_obey : (n : ℕ) (parent : Option ℕ) (f : Forest (Node Pairs)) (g : Forest (Node BagPairs)) → Each (IsWell (text_in is.texts)) (labels f) → AreAlike (HoldsNode (text_in is.texts) texts once cat only) f g → Each (Obeys texts) (preorder n parent g)
  nodes_obey n parent f empty well alike = tt
  nodes_obey n parent empty (tree b others rest) well alike = absurd alike
  nodes_obey n parent (tree p kids more) (tree b others rest) well alike = (
    own_obeys p.own b.own well.0.own alike.0.own,
    Each-append (Obeys texts) (preorder (suc n) (Some n) others) (preorder (suc n + size others) parent rest)
        (nodes_obey (suc n) (Some n) kids others (Each-left (IsWell (text_in is.texts)) (labels kids) (labels more) well.1) alike.1)
        (nodes_obey (suc n + size others) parent more rest (Each-right (IsWell (text_in is.texts)) (labels kids) (labels more) well.1) alike.2),
  )

  -- it obeys the rules
  pub obeys : (t : Tree) → StandsForTree (text_in is.texts) texts is.has.spells.form t → Each (Obeys texts) t.nodes
  obeys t stands = subst (λ ns. Each (Obeys texts) ns) (sym stands.nodes.2)
      (nodes_obey 0 None is.has.spells.form.nodes stands.nodes.0 source.well (nodes_hold (text_in is.texts) texts once cat only is.has.spells.form.nodes stands.nodes.0 source.ordered.nodes stands.nodes.1))

  -- and it has the text
  pub has_text : (t : Tree) → StandsForTree (text_in is.texts) texts is.has.spells.form t → AreTreeNodes t.nodes → IsKnownTree t texts → HasText texts t x
  has_text t stands nodes known =
      subst (λ z. HasText texts t z) (sym source.text_is) (closing (text_in is.texts) texts once cat only is.has.spells.form t source.can.one source.ordered stands nodes (named_tree texts t known) (listed_tree texts t known))
