-- The text of a model is that of its tree, it is one, and the tree has the description's names alone.
use Rattle.std.specs.Prelude.{◌≡◌, ℕ, suc, ◌+◌, ◌<◌, List, [], ◌∷◌, map, length, ◌⊎◌, ◌↔◌, ⊤, Option, Some, None, slice_get}
use Rattle.std.specs.List.{AllZip}
use Rattle.std.proofs.Common.{inl, inr, ap, sym, ◌∙◌, subst}
use Rattle.gr_base.specs.Lists.{IsAmong, Each, NoneTwice, gathered}
use Rattle.gr_base.specs.Forests.{Forest, empty, tree, labels, size, AreAlike}
use Rattle.gr_base.proofs.ForestLemmas.{AreAlike-unique}
use Rattle.gr_base.proofs.ListLemmas.{Each-at, Each-append, Each-members, IsAmong-append, IsAmong-map_from}
use Rattle.gr_base.proofs.Zips.{AllZip-one}
use Rattle.gr_terms.specs.Canonical.{Decorated, Literal, Node}
use Rattle.gr_terms.specs.LiteralViews.{literals_of}
use Rattle.gr_terms.specs.Networks.{Term, name, variable, Assertion, entry, equate, link, Agrees, AreLinked, equated, shared, same, back, next}
use Rattle.gr_terms.specs.Views.{assertion_of, term_of}
use Rattle.gr_terms.specs.declared.Assertion as code_assertion
use Rattle.gr_terms.specs.declared.Assertion.TheVariants.{Entry, Equate, Link}
use Rattle.gr_terms.specs.declared.Literal as code_literal
use Rattle.gr_terms.specs.declared.Term as code_term
use Rattle.gr_terms.specs.declared.Term.TheVariants.{Const, Var}
use Rattle.gr_feats.specs.CanonicalBags.{IsCanonicalBag, StandsFor}
use Rattle.gr_feats.proofs.CanonicalLemmas.{one_canonical_bag, stands_one}
use Rattle.td_tree.specs.Trees.{BagPairs, IsListedNode, preorder}
use Rattle.td_tree.specs.TreeNetworks.{slotted, tree_network}
use Rattle.td_tree.specs.TreeViews.{decorated_of}
use Rattle.td_tree.specs.declared.Tree.{Tree}
use Rattle.td_tree.proofs.PreorderLemmas.{preorder-unique}
use Rattle.td_canon.specs.CanonicalTexts.{HasText, IsCanonicalText, IsNamedBag, IsNamedLiteral, IsNamedNode, IsNamedTerm, IsNamedTree, TellsAttributesApart, text_in}
use Rattle.td_canon.proofs.OrderLemmas.{texts_apart}
use Rattle.td_canon.proofs.TellingLemmas.{one_network_text}
use Rattle.td_desc.specs.Descriptions as desc
use Rattle.td_desc.specs.Descriptions.{Description, description_of}
use Rattle.td_desc.specs.declared.Description as code
use Rattle.td_colour.specs.Models.{merged_network, model_tree, node_links, set_links}
use Rattle.td_model.specs.CanonicalTrees.{HasBags, IsCanonicalTree, StandsForLiteral}
use Rattle.td_model.specs.ModelTrees.{IsModelText, IsModelTree, IsNamedAssertion, IsNamedDescription}
use Rattle.td_model.proofs.TreeForms.{same_forms}

-- ---- the text

abbrev SpellsTree : List (List ℕ) → Tree → List ℕ → Forest (Node BagPairs) → Type 0
SpellsTree texts t bytes f = IsCanonicalText (text_in texts) (tree_network (decorated_of f t)) (slotted (decorated_of f t)) bytes

pub tree_text : (texts : List (List ℕ)) (N : List (Assertion ℕ ℕ)) (u : Decorated ℕ (Term ℕ)) (t : Tree) (bytes : List ℕ) → Agrees N → IsCanonicalTree N u t → HasText texts t bytes → IsCanonicalText (text_in texts) N u bytes
tree_text texts N u t bytes agrees is h =
    let one : h.nodes.forest ≡ is.nodes.forest = preorder-unique h.nodes.forest is.nodes.forest (sym h.nodes.laid ∙ is.nodes.laid) in
    let spells : SpellsTree texts t bytes is.nodes.forest = subst (λ f. SpellsTree texts t bytes f) one h.spells in
    record { form = spells.form; canonical = (same_forms N u t agrees is (text_in texts) spells.form).0 spells.canonical; spells = spells.spells }

listed_nodes : (N : List (Assertion ℕ ℕ)) (n : ℕ) (up : Option ℕ) (g : Forest (Node ℕ)) (f : Forest (Node BagPairs)) → AreAlike (HasBags N) g f → Each IsListedNode (preorder n up f)
listed_nodes N n up empty empty h = tt
listed_nodes N n up empty (tree b others rest) h = absurd h
listed_nodes N n up (tree s kids more) empty h = absurd h
listed_nodes N n up (tree s kids more) (tree b others rest) h = (
  record { own = h.0.own.listed; top = h.0.top.listed; bot = h.0.bottom.listed },
  Each-append IsListedNode (preorder (suc n) (Some n) others) (preorder (suc n + size others) up rest) (listed_nodes N (suc n) (Some n) kids others h.1) (listed_nodes N (suc n + size others) up more rest h.2),
)

pub text_of_tree : (texts : List (List ℕ)) (N : List (Assertion ℕ ℕ)) (u : Decorated ℕ (Term ℕ)) (t : Tree) (bytes : List ℕ) → Agrees N → IsCanonicalTree N u t → IsNamedTree (length texts) t
    → IsCanonicalText (text_in texts) N u bytes → HasText texts t bytes
text_of_tree texts N u t bytes agrees is named h = record {
  nodes = is.nodes;
  named = named;
  listed = record { nodes = subst (λ ns. Each IsListedNode ns) (sym is.nodes.laid) (listed_nodes N 0 None u.nodes is.nodes.forest is.bags); iface = is.interface.listed };
  spells = record { form = h.form; canonical = (same_forms N u t agrees is (text_in texts) h.form).1 h.canonical; spells = h.spells };
}

-- ---- names

abbrev NamedTerm : ℕ → Term ℕ → Type 0
NamedTerm count (name a) = a < count
NamedTerm count (variable v) = ⊤

-- the network's attributes and names are below the count
record IsNamedNetwork (count : ℕ) (N : List (Assertion ℕ ℕ)) : Type 0 where
  pub entries : (s a : ℕ) (x : Term ℕ) → IsAmong N (entry s a x) → (a < count) × NamedTerm count x
  pub equations : (x y : Term ℕ) → IsAmong N (equate x y) → NamedTerm count x × NamedTerm count y

module _ (count : ℕ) (N : List (Assertion ℕ ℕ)) (named : IsNamedNetwork count N) where
  linked_named : (x y : Term ℕ) → AreLinked N x y → NamedTerm count x ↔ NamedTerm count y
  linked_named _ _ (equated x y i) = let h = named.equations x y i in (λ k. h.1, λ k. h.0)
  linked_named _ _ (shared s t a x y l i j) = (λ k. (named.entries t a y j).1, λ k. (named.entries s a x i).1)
  linked_named _ _ (same x) = (λ k. k, λ k. k)
  linked_named _ _ (back x y h) = let k = linked_named x y h in (k.1, k.0)
  linked_named _ _ (next x y z h k) =
      let a = linked_named x y h in
      let b = linked_named y z k in
      (λ j. b.0 (a.0 j), λ j. a.1 (b.1 j))

  stands_named : (x : Term ℕ) (v : code_term.Term) → NamedTerm count x → StandsFor N x v → IsNamedTerm count v
  stands_named x (Const p) h stands = (linked_named x (name p.0) stands).0 h
  stands_named x (Var v) h stands = tt

  bag_named : (slot : ℕ) (bag : BagPairs) → IsCanonicalBag N slot bag → IsNamedBag count bag
  bag_named slot bag h =
      Each-members (λ p. (p.0.0 < count) × IsNamedTerm count p.1) bag
      (λ p i.
      let x = (h.pairs p.0 p.1).0 i in
      let e = named.entries x.1.0 p.0.0 x.0 x.1.2 in
      (e.0, stands_named x.0 p.1 e.1 x.2))

  nodes_named : (n : ℕ) (up : Option ℕ) (g : Forest (Node ℕ)) (f : Forest (Node BagPairs)) → AreAlike (HasBags N) g f → Each (IsNamedNode count) (preorder n up f)
  nodes_named n up empty empty h = tt
  nodes_named n up empty (tree b others rest) h = absurd h
  nodes_named n up (tree s kids more) empty h = absurd h
  nodes_named n up (tree s kids more) (tree b others rest) h = (
    record { own = bag_named s.own b.own h.0.own; top = bag_named s.top b.top h.0.top; bot = bag_named s.bottom b.bottom h.0.bottom },
    Each-append (IsNamedNode count) (preorder (suc n) (Some n) others) (preorder (suc n + size others) up rest) (nodes_named (suc n) (Some n) kids others h.1) (nodes_named (suc n + size others) up more rest h.2),
  )

  term_named : (v : code_term.Term) → IsNamedTerm count v → NamedTerm count (term_of v)
  term_named (Const p) h = h
  term_named (Var v) h = tt

  terms_named : (vs ws : List code_term.Term) → Each (IsNamedTerm count) vs → AllZip (StandsFor N) (map term_of vs) ws → Each (IsNamedTerm count) ws
  terms_named [] [] h z = tt
  terms_named [] (w ∷ ws) h z = absurd z
  terms_named (v ∷ vs) [] h z = absurd z
  terms_named (v ∷ vs) (w ∷ ws) h z = (stands_named (term_of v) w (term_named v h.0) z.0, terms_named vs ws h.1 z.1)

  literals_named : (ls ks : List code_literal.Literal) → Each (IsNamedLiteral count) ls → AllZip (StandsForLiteral N) (literals_of ls) ks → Each (IsNamedLiteral count) ks
  literals_named [] [] h z = tt
  literals_named [] (k ∷ ks) h z = absurd z
  literals_named (l ∷ ls) [] h z = absurd z
  literals_named (l ∷ ls) (k ∷ ks) h z = (
    record {
      handle = stands_named (term_of l.handle) k.handle (term_named l.handle h.0.handle) z.0.handle;
      pred = stands_named (term_of l.pred) k.pred (term_named l.pred h.0.pred) z.0.pred;
      args = terms_named l.args k.args h.0.args z.0.args;
    },
    literals_named ls ks h.1 z.1,
  )

-- ---- the network of a model has the description's names

-- the links of merged nodes are links
abbrev IsLink : Assertion ℕ ℕ → Type 0
IsLink e = (s t : ℕ) × (e ≡ link s t)

node_links_only : (n m : Option (desc.DescribedNode ℕ)) (e : Assertion ℕ ℕ) → IsAmong (node_links n m) e → IsLink e
node_links_only None m e i = absurd i
node_links_only (Some n) None e i = absurd i
node_links_only (Some n) (Some m) e (inl h) = (n.slots.own, m.slots.own, h)
node_links_only (Some n) (Some m) e (inr (inl h)) = (n.slots.top, m.slots.top, h)
node_links_only (Some n) (Some m) e (inr (inr (inl h))) = (n.slots.bottom, m.slots.bottom, h)
node_links_only (Some n) (Some m) e (inr (inr (inr i))) = absurd i

gathered_only : {A B : Type 0} (P : B → Type 0) (f : A → List B) → ((x : A) (e : B) → IsAmong (f x) e → P e) → (xs : List A) (e : B) → IsAmong (gathered f xs) e → P e
gathered_only P f one [] e i = absurd i
gathered_only P f one (x ∷ xs) e i = elim (IsAmong-append (f x) (gathered f xs) e i) [ inl j ↦ one x e j | inr j ↦ gathered_only P f one xs e j ]

set_links_only : (nodes : List (desc.DescribedNode ℕ)) (set : List ℕ) (e : Assertion ℕ ℕ) → IsAmong (set_links nodes set) e → IsLink e
set_links_only nodes [] e i = absurd i
set_links_only nodes (x ∷ xs) e i = gathered_only IsLink (λ y. node_links (slice_get nodes x) (slice_get nodes y)) (λ y z j. node_links_only (slice_get nodes x) (slice_get nodes y) z j) xs e i

-- what is no link is of the description
pub merged_from : (d : Description ℕ ℕ) (F : Forest (List ℕ)) (e : Assertion ℕ ℕ) → IsAmong (merged_network d F) e → IsAmong d.network e ⊎ IsLink e
merged_from d F e i = elim (IsAmong-append d.network (gathered (set_links d.nodes) (labels F)) e i) [
  | inl j ↦ inl j
  | inr j ↦ inr (gathered_only IsLink (set_links d.nodes) (set_links_only d.nodes) (labels F) e j)
]

entry_no_link : (s a : ℕ) (x : Term ℕ) → IsLink (entry s a x) → ⊥
entry_no_link s a x h = let e : entry s a x ≡ link h.0 h.1 = h.2 in cc

equate_no_link : (x y : Term ℕ) → IsLink (equate x y) → ⊥
equate_no_link x y h = let e : equate x y ≡ link h.0 h.1 = h.2 in cc

pub merged_entry : (d : Description ℕ ℕ) (F : Forest (List ℕ)) (s a : ℕ) (x : Term ℕ) → IsAmong (merged_network d F) (entry s a x) → IsAmong d.network (entry s a x)
merged_entry d F s a x i = elim (merged_from d F (entry s a x) i) [ inl j ↦ j | inr h ↦ absurd (entry_no_link s a x h) ]

module _ (count : ℕ) (d : code.Description) (F : Forest (List ℕ)) (named : IsNamedDescription count d) where
  abbrev N : List (Assertion ℕ ℕ)
  N = merged_network (description_of d) F

  named_back : (v : code_term.Term) → IsNamedTerm count v → NamedTerm count (term_of v)
  named_back (Const p) h = h
  named_back (Var v) h = tt

  from_entry : (b : code_assertion.Assertion) (s a : ℕ) (x : Term ℕ) → IsNamedAssertion count b → entry s a x ≡ assertion_of b → (a < count) × NamedTerm count x
  from_entry (Entry t c v) s a x h e =
      let attribute : a ≡ c.0 = cc in
      let value : x ≡ term_of v = cc in
      (subst (λ k. k < count) (sym attribute) h.0, subst (λ y. NamedTerm count y) (sym value) (named_back v h.1))
  from_entry (Equate v w) s a x h e = absurd cc
  from_entry (Link t r) s a x h e = absurd cc

  from_equation : (b : code_assertion.Assertion) (x y : Term ℕ) → IsNamedAssertion count b → equate x y ≡ assertion_of b → NamedTerm count x × NamedTerm count y
  from_equation (Entry t c v) x y h e = absurd cc
  from_equation (Equate v w) x y h e =
      let one : x ≡ term_of v = cc in
      let other : y ≡ term_of w = cc in
      (subst (λ z. NamedTerm count z) (sym one) (named_back v h.0), subst (λ z. NamedTerm count z) (sym other) (named_back w h.1))
  from_equation (Link t r) x y h e = absurd cc

  network_named : IsNamedNetwork count N
  network_named = record {
    entries = λ s a x i.
        let j = merged_entry (description_of d) F s a x i in
        let b = IsAmong-map_from assertion_of d.network (entry s a x) j in
        from_entry b.0 s a x (Each-at (IsNamedAssertion count) d.network b.0 named.network b.1) b.2;
    equations = λ x y i.
        elim (merged_from (description_of d) F (equate x y) i) [
          | inl j ↦ let b = IsAmong-map_from assertion_of d.network (equate x y) j in from_equation b.0 x y (Each-at (IsNamedAssertion count) d.network b.0 named.network b.1) b.2
          | inr h ↦ absurd (equate_no_link x y h)
        ];
  }

  pub tree_named : (t : Tree) → IsModelTree (description_of d) F t → IsNamedTree count t
  tree_named t is = record {
    nodes = subst (λ ns. Each (IsNamedNode count) ns) (sym is.nodes.laid) (nodes_named count N network_named 0 None (model_tree (description_of d) F).nodes is.nodes.forest is.bags);
    iface = bag_named count N network_named d.iface.0 t.iface is.interface;
    sem = literals_named count N network_named d.sem t.sem named.literals is.literals;
  }

pub one_model_text : (texts : List (List ℕ)) (d : code.Description) (F : Forest (List ℕ)) (x y : List ℕ) → NoneTwice texts → IsNamedDescription (length texts) d
    → IsModelText (text_in texts) (description_of d) F x → IsModelText (text_in texts) (description_of d) F y → x ≡ y
one_model_text texts d F x y once named a b = one_network_text (text_in texts) (merged_network (description_of d) F) (model_tree (description_of d) F) x y tells a b
  where
    tells : TellsAttributesApart (text_in texts) (merged_network (description_of d) F) (model_tree (description_of d) F)
    tells p q s r v w i j h k e =
        texts_apart texts p q once
        ((network_named (length texts) d F named).entries h.0 p v h.2).0
        ((network_named (length texts) d F named).entries k.0 q w k.2).0 e

-- ---- one tree

module _ (N : List (Assertion ℕ ℕ)) (agrees : Agrees N) where
  one_node : (s : Node ℕ) (b c : Node BagPairs) → HasBags N s b → HasBags N s c → b ≡ c
  one_node s b c h k =
      let own = one_canonical_bag N s.own b.own c.own h.own k.own in
      let top = one_canonical_bag N s.top b.top c.top h.top k.top in
      let bottom = one_canonical_bag N s.bottom b.bottom c.bottom h.bottom k.bottom in
      λ i. record { own = own i; top = top i; bottom = bottom i }

  one_term : (x : Term ℕ) (v w : code_term.Term) → StandsFor N x v → StandsFor N x w → v ≡ w
  one_term x v w h k = stands_one N x x v w agrees (same x) h k

  one_literal : (l : Literal (Term ℕ)) (k m : code_literal.Literal) → StandsForLiteral N l k → StandsForLiteral N l m → k ≡ m
  one_literal l k m h g =
      let handle = one_term l.handle k.handle m.handle h.handle g.handle in
      let pred = one_term l.pred k.pred m.pred h.pred g.pred in
      let args = AllZip-one (StandsFor N) one_term l.args k.args m.args h.args g.args in
      λ i. record { handle = handle i; pred = pred i; args = args i }

  pub one_tree : (u : Decorated ℕ (Term ℕ)) (t other : Tree) → IsCanonicalTree N u t → IsCanonicalTree N u other → t ≡ other
  one_tree u t other a b =
      let forest = AreAlike-unique (HasBags N) one_node u.nodes a.nodes.forest b.nodes.forest a.bags b.bags in
      let nodes = a.nodes.laid ∙ ap (preorder 0 None) forest ∙ sym b.nodes.laid in
      let iface = one_canonical_bag N u.interface t.iface other.iface a.interface b.interface in
      let sem = AllZip-one (StandsForLiteral N) one_literal u.literals t.sem other.sem a.literals b.literals in
      λ i. record { nodes = nodes i; iface = iface i; sem = sem i }
