-- The text of a tree of the code tells the tree, up to renaming of variables.
use Rattle.std.specs.Prelude.{◌≡◌, ℕ, suc, ◌+◌, ◌<◌, ◌^◌, Bool, true, false, not, ◌==◌, List, [], ◌∷◌, ◌++◌, map, length, Option, Some, None, refl}
use Rattle.std.proofs.Common.{inl, inr, ap, sym, ◌∙◌, subst, arith}
use Rattle.std.proofs.lemmas.Bool.Decides.{Decides-eqb}
use Rattle.gr_base.specs.Lists.{IsAmong, Each, InByteOrder, NoneTwice, gathered}
use Rattle.gr_base.specs.Forests.{Forest, empty, tree, IsOneTree, labels, map_forest, size}
use Rattle.gr_base.proofs.ListLemmas.{Each-at, Each-append, Each-left, Each-members, Each-right, IsAmong-append, IsAmong-append_left, IsAmong-append_right, IsAmong-map, IsAmong-map_from, IsAmong-gathered}
use Rattle.gr_terms.specs.BagViews.{pairs_of}
use Rattle.gr_terms.specs.Canonical.{Label, Node, literal_terms, map_literal}
use Rattle.gr_terms.specs.LiteralViews.{literal_of, literals_of}
use Rattle.gr_terms.specs.Networks.{Term}
use Rattle.gr_terms.specs.Views.{term_of}
use Rattle.gr_terms.specs.declared.Literal.{Literal as CodeLiteral}
use Rattle.gr_terms.specs.declared.Sym.{Sym}
use Rattle.gr_terms.specs.declared.Term.{Term as Value}
use Rattle.gr_terms.specs.declared.Term.TheVariants.{Const, Var}
use Rattle.td_tree.specs.Trees.{BagPairs, IsListedNode, node_of, preorder}
use Rattle.td_tree.specs.TreeNetworks.{own_part, top_part, bottom_part, slotted, tree_network}
use Rattle.td_tree.specs.TreeViews.{Pairs, decorated_of, lists_of}
use Rattle.td_tree.specs.declared.Tree.{Tree}
use Rattle.td_tree.specs.declared.TreeNode.{TreeNode}
use Rattle.gr_terms.specs.Bags.{IsListed}
use Rattle.td_canon.specs.CanonicalTexts.{HasText, IsNamedBag, IsNamedLiteral, IsNamedNode, IsNamedTerm, text_in}
use Rattle.td_canon.specs.Renaming.{AreRenamed}
use Rattle.td_canon.specs.Spelling.{IsSpellableBag, IsSpellableLiteral, IsSpellableNode, IsSpellableTerm, IsSpellableTree, Lacks}
use Rattle.td_canon.specs.TreeText.{decorated_text}
use Rattle.td_canon.specs.Writing.{AreOrderedBags, IsOrderedBag, form_node, form_of, forest_terms, in_order, label_in, labelled, meet_all, node_terms, tree_terms, values_in}
use Rattle.td_canon.proofs.CountLemmas.{length-meet_all, length-tree_terms}
use Rattle.td_canon.proofs.FormLemmas.{AreOrderedLists, IsOrderedTree, canonical_form, node-met, value-met}
use Rattle.td_canon.proofs.FormSpelling.{CanSpellForm, CanSpellLiteral, forms_apart}
use Rattle.td_canon.proofs.MeetingLemmas.{IsMetIn, IsMetIn-meet_all, is_met-IsAmong, place, stands_in}
use Rattle.td_canon.proofs.OrderLemmas.{in_order-order, in_order-within, texts_apart}
use Rattle.td_canon.proofs.RenamingLemmas.{AreListed, AreMet, renaming, tree_renamed}
use Rattle.td_canon.proofs.SortLemmas.{once_by_text}
use Rattle.td_canon.proofs.SpellingLemmas.{CanSpell, CanSpellPair}
use Rattle.td_canon.proofs.TellingLemmas.{tree_tells}
use Rattle.td_canon.proofs.TextLemmas.{ordered_lists, ordered_pairs}
use Rattle.td_canon.proofs.TreeSpelling.{CanSpellNode}
use Rattle.td_canon.proofs.UniqueForms.{attribute_text, one_form}

-- what holds of nodes in preorder holds of their bags
from_nodes : (P : TreeNode → Type 0) (Q : Node BagPairs → Type 0) → ((parent : Option ℕ) (b : Node BagPairs) → P (node_of parent b) → Q b) → (n : ℕ) (parent : Option ℕ) (f : Forest (Node BagPairs)) →
    Each P (preorder n parent f) → Each Q (labels f)
from_nodes P Q step n parent empty each = tt
from_nodes P Q step n parent (tree b kids more) each = (
  step parent b each.0,
  Each-append Q (labels kids) (labels more)
      (from_nodes P Q step (suc n) (Some n) kids (Each-left P (preorder (suc n) (Some n) kids) (preorder (suc n + size kids) parent more) each.1))
      (from_nodes P Q step (suc n + size kids) parent more (Each-right P (preorder (suc n) (Some n) kids) (preorder (suc n + size kids) parent more) each.1)),
)

labels-map : {A B : Type 0} (f : A → B) (g : Forest A) (x : A) → IsAmong (labels g) x → IsAmong (labels (map_forest f g)) (f x)
labels-map f empty x i = absurd i
labels-map f (tree a kids more) x (inl e) = inl (ap f e)
labels-map f (tree a kids more) x (inr i) = inr (elim (IsAmong-append (labels kids) (labels more) x i) [
  | inl j ↦ IsAmong-append_left (labels (map_forest f kids)) (labels (map_forest f more)) (f x) (labels-map f kids x j)
  | inr j ↦ IsAmong-append_right (labels (map_forest f kids)) (labels (map_forest f more)) (f x) (labels-map f more x j)
])

one_tree : {B : Type 0} (h : Node Pairs → B) (f : Forest (Node BagPairs)) → IsOneTree f → IsOneTree (map_forest h (map_forest lists_of f))
one_tree h empty one = absurd one
one_tree h (tree b kids empty) one = tt
one_tree h (tree b kids (tree c under more)) one = absurd one

-- ---- bags of a named, listed and spellable tree

module _ (texts : List (List ℕ)) (once : NoneTwice texts) where
  -- what is known of a node
  record Known (n : TreeNode) : Type 0 where
    named : IsNamedNode (length texts) n
    listed : IsListedNode n
    spellable : IsSpellableNode texts n

  known_all : (ns : List TreeNode) → Each (IsNamedNode (length texts)) ns → Each IsListedNode ns → Each (IsSpellableNode texts) ns → Each Known ns
  known_all [] a b c = tt
  known_all (n ∷ ns) a b c = (record { named = a.0; listed = b.0; spellable = c.0 }, known_all ns a.1 b.1 c.1)

  ordered_one : (bag : BagPairs) → IsListed bag → IsNamedBag (length texts) bag → IsOrderedBag (text_in texts) bag
  ordered_one bag listed named = record { listed = listed; order = in_order-order (text_in texts) (pairs_of bag) (once_by_text texts bag once listed named) }

  ordered_node : (parent : Option ℕ) (b : Node BagPairs) → Known (node_of parent b) → AreOrderedBags (text_in texts) b
  ordered_node parent b k = record {
    own = ordered_one b.own k.listed.own k.named.own;
    top = ordered_one b.top k.listed.top k.named.top;
    bottom = ordered_one b.bottom k.listed.bot k.named.bot;
  }

  listed_node : (parent : Option ℕ) (b : Node BagPairs) → Known (node_of parent b) → AreListed b
  listed_node parent b k = record { own = k.listed.own; top = k.listed.top; bottom = k.listed.bot }

  -- ---- labels that can be spelled

  abbrev Good : ℕ → Type 0
  Good a = a < length texts

  abbrev apart : (a b : ℕ) → Good a → Good b → text_in texts a ≡ text_in texts b → a ≡ b
  apart a b i j e = texts_apart texts a b once i j e

  lacks_test : (byte : ℕ) (bs : List ℕ) → Lacks byte bs → Each (λ b. not (b == byte) ≡ true) bs
  lacks_test byte [] h = tt
  lacks_test byte (b ∷ bs) h = (by (b == byte) refl, lacks_test byte bs h.1)
    where
      by : (r : Bool) → (b == byte) ≡ r → not (b == byte) ≡ true
      by true e = absurd (h.0 ((Decides-eqb b byte).0 e))
      by false e = ap not e

  module _ (met : List ℕ) (few : length met < 10 ^ 9) where
    spell_term : (v : Value) → IsNamedTerm (length texts) v → IsSpellableTerm texts v → IsMetIn met (term_of v) → CanSpell (text_in texts) Good apart (label_in met (term_of v))
    spell_term (Const s) named spellable i = (named, lacks_test 34 (text_in texts s.0) spellable)
    spell_term (Var v) named spellable i = let h : place v met < length met = (stands_in v met [] (is_met-IsAmong v met i)).within in omega (arith, few)

    spell_bag : (bag : BagPairs) → IsNamedBag (length texts) bag → IsSpellableBag texts bag → ((p : Sym × Value) → IsAmong bag p → IsMetIn met (term_of p.1)) →
        Each (CanSpellPair (text_in texts) Good apart) (labelled (label_in met) (in_order (text_in texts) (pairs_of bag)))
    spell_bag bag named spellable there =
        Each-members (CanSpellPair (text_in texts) Good apart) (labelled (label_in met) (in_order (text_in texts) (pairs_of bag))) (λ q i.
        let r = IsAmong-map_from (λ (z : ℕ × Term ℕ). (z.0, label_in met z.1)) (in_order (text_in texts) (pairs_of bag)) q i in
        let p = IsAmong-map_from (λ (z : Sym × Value). (z.0.0, term_of z.1)) bag r.0 (in_order-within (text_in texts) (pairs_of bag) r.0 r.1) in
        let n = Each-at (λ (z : Sym × Value). (z.0.0 < length texts) × IsNamedTerm (length texts) z.1) bag p.0 named p.1 in
        let s = Each-at (λ (z : Sym × Value). Lacks 61 (text_in texts z.0.0) × IsSpellableTerm texts z.1) bag p.0 spellable p.1 in
        subst (λ (z : ℕ × Label). CanSpellPair (text_in texts) Good apart z) (sym (r.2 ∙ ap (λ (z : ℕ × Term ℕ). (z.0, label_in met z.1)) p.2))
        (n.0, lacks_test 61 (text_in texts p.0.0.0) s.0, spell_term p.0.1 n.1 s.1 (there p.0 p.1)))

    order_labelled : (qs : Pairs) → InByteOrder (map (λ (p : ℕ × Term ℕ). text_in texts p.0) qs) → InByteOrder (map (attribute_text (text_in texts)) (labelled (label_in met) qs))
    order_labelled qs order = subst (λ ks. InByteOrder ks) (same qs) order
      where
        same : (qs : Pairs) → map (λ (p : ℕ × Term ℕ). text_in texts p.0) qs ≡ map (attribute_text (text_in texts)) (labelled (label_in met) qs)
        same [] = refl
        same (q ∷ qs) = ap (λ ks. text_in texts q.0 ∷ ks) (same qs)

    spell_node : (parent : Option ℕ) (b : Node BagPairs) → Known (node_of parent b) → AreMet met b → CanSpellNode (text_in texts) Good apart (form_node (text_in texts) (label_in met) (lists_of b))
    spell_node parent b k m = record {
      own = spell_bag b.own k.named.own k.spellable.own m.own;
      top = spell_bag b.top k.named.top k.spellable.top m.top;
      bottom = spell_bag b.bottom k.named.bot k.spellable.bot m.bottom;
      order = order_labelled (in_order (text_in texts) (pairs_of b.own)) (ordered_one b.own k.listed.own k.named.own).order;
    }

    spell_nodes : (n : ℕ) (parent : Option ℕ) (f : Forest (Node BagPairs)) → Each Known (preorder n parent f) → Each (AreMet met) (labels f) →
        Each (CanSpellNode (text_in texts) Good apart) (labels (map_forest (form_node (text_in texts) (label_in met)) (map_forest lists_of f)))
    spell_nodes n parent empty k m = tt
    spell_nodes n parent (tree b kids more) k m = (
      spell_node parent b k.0 m.0,
      Each-append (CanSpellNode (text_in texts) Good apart) (labels (map_forest (form_node (text_in texts) (label_in met)) (map_forest lists_of kids))) (labels (map_forest (form_node (text_in texts) (label_in met)) (map_forest lists_of more)))
          (spell_nodes (suc n) (Some n) kids (Each-left Known (preorder (suc n) (Some n) kids) (preorder (suc n + size kids) parent more) k.1) (Each-left (AreMet met) (labels kids) (labels more) m.1))
          (spell_nodes (suc n + size kids) parent more (Each-right Known (preorder (suc n) (Some n) kids) (preorder (suc n + size kids) parent more) k.1) (Each-right (AreMet met) (labels kids) (labels more) m.1)),
    )

    spell_terms : (vs : List Value) → Each (IsNamedTerm (length texts)) vs → Each (IsSpellableTerm texts) vs → ((y : Term ℕ) → IsAmong (map term_of vs) y → IsMetIn met y) →
        Each (CanSpell (text_in texts) Good apart) (map (label_in met) (map term_of vs))
    spell_terms [] n s m = tt
    spell_terms (v ∷ vs) n s m = (spell_term v n.0 s.0 (m (term_of v) (inl refl)), spell_terms vs n.1 s.1 (λ y i. m y (inr i)))

    spell_literals : (ls : List CodeLiteral) → Each (IsNamedLiteral (length texts)) ls → Each (IsSpellableLiteral texts) ls → ((y : Term ℕ) → IsAmong (gathered literal_terms (literals_of ls)) y → IsMetIn met y) →
        Each (CanSpellLiteral (text_in texts) Good apart) (map (map_literal (label_in met)) (literals_of ls))
    spell_literals [] n s m = tt
    spell_literals (l ∷ ls) n s m =
        let here : (y : Term ℕ) → IsAmong (literal_terms (literal_of l)) y → IsMetIn met y = λ y i. m y (IsAmong-append_left (literal_terms (literal_of l)) (gathered literal_terms (literals_of ls)) y i) in (
          record {
            handle = spell_term l.handle n.0.handle s.0.handle (here (term_of l.handle) (inl refl));
            pred = spell_term l.pred n.0.pred s.0.pred (here (term_of l.pred) (inr (inl refl)));
            args = spell_terms l.args n.0.args s.0.args (λ y i. here y (inr (inr i)));
          },
          spell_literals ls n.1 s.1 (λ y i. m y (IsAmong-append_right (literal_terms (literal_of l)) (gathered literal_terms (literals_of ls)) y i)),
        )

  -- ---- a tree with its text, opened

  pub record Opened (t : Tree) (x : List ℕ) (f : Forest (Node BagPairs)) (met : List ℕ) : Type 0 where
    pub listed : Each AreListed (labels f)
    pub nodes_met : Each (AreMet met) (labels f)
    pub iface_met : (p : Sym × Value) → IsAmong t.iface p → IsMetIn met (term_of p.1)
    pub sem_met : (y : Term ℕ) → IsAmong (gathered literal_terms (literals_of t.sem)) y → IsMetIn met y
    pub text_is : x ≡ decorated_text (text_in texts) (form_of (text_in texts) (label_in met) (decorated_of f t))
    pub spells : CanSpellForm (text_in texts) Good apart (form_of (text_in texts) (label_in met) (decorated_of f t))

  opened : (t : Tree) (x : List ℕ) (has : HasText texts t x) → IsSpellableTree texts t → Opened t x has.nodes.forest (meet_all [] (tree_terms (text_in texts) (decorated_of has.nodes.forest t)))
  opened t x has spellable =
      let f = has.nodes.forest in
      let d = decorated_of f t in
      let met = meet_all [] (tree_terms (text_in texts) d) in
      let known : Each Known (preorder 0 None f) = subst (λ ns. Each Known ns) has.nodes.laid (known_all t.nodes has.named.nodes has.listed.nodes spellable.nodes) in
      let bags : Each (AreOrderedBags (text_in texts)) (labels f) = from_nodes Known (AreOrderedBags (text_in texts)) ordered_node 0 None f known in
      let lists : Each (AreOrderedLists (text_in texts)) (labels d.nodes) = ordered_lists (text_in texts) f bags in
      let ordered : IsOrderedTree (text_in texts) d = record { nodes = lists; interface = ordered_pairs (text_in texts) t.iface (ordered_one t.iface has.listed.iface has.named.iface) } in
      let front = forest_terms (text_in texts) d.nodes in
      let face = values_in (in_order (text_in texts) d.interface) in
      let meets : (y : Term ℕ) → IsAmong (tree_terms (text_in texts) d) y → IsMetIn met y = λ y i. IsMetIn-meet_all [] (tree_terms (text_in texts) d) y i in
      let node_met : (b : Node BagPairs) → IsAmong (labels f) b → AreMet met b =
      λ (b : Node BagPairs) i.
      let among : IsAmong (labels d.nodes) (lists_of b) = labels-map lists_of f b i in
      let good = Each-at (AreOrderedLists (text_in texts)) (labels d.nodes) (lists_of b) lists among in
      let walk : (y : Term ℕ) → IsAmong (node_terms (text_in texts) (lists_of b)) y → IsMetIn met y =
      λ y j. meets y (IsAmong-append_left (front ++ face) (gathered literal_terms d.literals) y (IsAmong-append_left front face y (IsAmong-gathered (node_terms (text_in texts)) (labels d.nodes) (lists_of b) y among j))) in
      record {
        own = λ p j. walk (term_of p.1) (node-met (text_in texts) (lists_of b) own_part p.0.0 (term_of p.1) good (IsAmong-map (λ (z : Sym × Value). (z.0.0, term_of z.1)) b.own p j));
        top = λ p j. walk (term_of p.1) (node-met (text_in texts) (lists_of b) top_part p.0.0 (term_of p.1) good (IsAmong-map (λ (z : Sym × Value). (z.0.0, term_of z.1)) b.top p j));
        bottom = λ p j. walk (term_of p.1) (node-met (text_in texts) (lists_of b) bottom_part p.0.0 (term_of p.1) good (IsAmong-map (λ (z : Sym × Value). (z.0.0, term_of z.1)) b.bottom p j));
      }
      in
      let nodes_met : Each (AreMet met) (labels f) = Each-members (AreMet met) (labels f) node_met in
      let iface_met : (p : Sym × Value) → IsAmong t.iface p → IsMetIn met (term_of p.1) =
      λ (p : Sym × Value) i. meets (term_of p.1)
      (IsAmong-append_left (front ++ face) (gathered literal_terms d.literals) (term_of p.1)
      (IsAmong-append_right front face (term_of p.1) (value-met (text_in texts) (pairs_of t.iface) p.0.0 (term_of p.1) (IsAmong-map (λ (z : Sym × Value). (z.0.0, term_of z.1)) t.iface p i)))) in
      let sem_met : (y : Term ℕ) → IsAmong (gathered literal_terms (literals_of t.sem)) y → IsMetIn met y = λ y i. meets y (IsAmong-append_right (front ++ face) (gathered literal_terms d.literals) y i) in
      let few : length met < 10 ^ 9 = omega (arith, spellable.few, length-meet_all [] (tree_terms (text_in texts) d), length-tree_terms (text_in texts) t f has.nodes.laid) in
      let tells = tree_tells texts t f once has.nodes.laid has.named in
      let form = one_form (text_in texts) (tree_network d) (slotted d) (λ p q (s, v, i, h) (r, w, j, k) e. tells p q s r v w i j h k e) has.spells.form (form_of (text_in texts) (label_in met) d) has.spells.canonical (canonical_form (text_in texts) d ordered) in
      record {
        listed = from_nodes Known AreListed listed_node 0 None f known;
        nodes_met = nodes_met;
        iface_met = iface_met;
        sem_met = sem_met;
        text_is = has.spells.spells ∙ ap (decorated_text (text_in texts)) form;
        spells = record {
          nodes = spell_nodes met few 0 None f known nodes_met;
          interface = spell_bag met few t.iface has.named.iface spellable.iface iface_met;
          literals = spell_literals met few t.sem has.named.sem spellable.sem sem_met;
        };
      }

  -- ---- two trees with one text

  pub telling : (t u : Tree) (x : List ℕ) → IsSpellableTree texts t → IsSpellableTree texts u → HasText texts t x → HasText texts u x → AreRenamed t u
  telling t u x spell_t spell_u a b =
      let f = a.nodes.forest in
      let g = b.nodes.forest in
      let met = meet_all [] (tree_terms (text_in texts) (decorated_of f t)) in
      let others = meet_all [] (tree_terms (text_in texts) (decorated_of g u)) in
      let ot = opened t x a spell_t in
      let ou = opened u x b spell_u in
      let form : form_of (text_in texts) (label_in met) (decorated_of f t) ≡ form_of (text_in texts) (label_in others) (decorated_of g u) =
      forms_apart (text_in texts) Good apart (form_of (text_in texts) (label_in met) (decorated_of f t)) (form_of (text_in texts) (label_in others) (decorated_of g u)) (one_tree (form_node (text_in texts) (label_in met)) f a.nodes.one) (one_tree (form_node (text_in texts) (label_in others)) g b.nodes.one) ot.spells ou.spells
      (sym ot.text_is ∙ ou.text_is) in
      record {
        there = renaming met others;
        back = renaming others met;
        renamed = tree_renamed met others (text_in texts) t u f g a.nodes.laid b.nodes.laid ot.listed ou.listed ou.nodes_met a.listed.iface b.listed.iface ou.iface_met ou.sem_met form;
        home = tree_renamed others met (text_in texts) u t g f b.nodes.laid a.nodes.laid ou.listed ot.listed ot.nodes_met b.listed.iface a.listed.iface ot.iface_met ot.sem_met (sym form);
      }
