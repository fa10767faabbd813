-- The whole text, from those of its parts.
use Rattle.std.specs.Prelude.{◌≡◌, ℕ, suc, ◌+◌, ◌<◌, List, [], ◌++◌, length, codes, Option, Some, None}
use Rattle.std.specs.List.{join_with_byte}
use Rattle.std.proofs.Common.{ap, sym, ◌∙◌, subst, arith, append-nil}
use Rattle.gr_base.specs.Lists.{Each, NoneTwice, gathered}
use Rattle.gr_base.specs.Forests.{Forest, empty, tree, IsOneTree, labels, map_forest, size}
use Rattle.gr_base.proofs.ListLemmas.{Each-append, Each-left, Each-right}
use Rattle.gr_terms.specs.Bags.{IsListed}
use Rattle.gr_terms.specs.BagViews.{pairs_of}
use Rattle.gr_terms.specs.Canonical.{Node, literal_terms}
use Rattle.gr_terms.proofs.ViewLemmas.{IsRising-pairs_of}
use Rattle.td_tree.specs.Trees.{AreTreeNodes, BagPairs, IsListedNode, preorder}
use Rattle.td_tree.specs.TreeViews.{decorated_of, lists_of}
use Rattle.td_tree.specs.declared.Tree.{Tree}
use Rattle.td_tree.specs.declared.TreeNode.{TreeNode}
use Rattle.td_canon.specs.CanonicalTexts.{HasText, IsNamedTree, text_in}
use Rattle.td_canon.specs.TreeText.{decorated_text, enclosed, pair_texts, tree_texts}
use Rattle.td_canon.specs.Writing.{AreOrderedBags, IsOrderedBag, Writes, WritesForest, WritesPairs, WritesTree, Written, form_node, form_of, forest_terms, in_order, label_in, labelled, meet_all, tree_terms, values_in}
use Rattle.td_canon.proofs.FormLemmas.{AreOrderedLists, IsOrderedPairs, IsOrderedTree, canonical_form}
use Rattle.td_canon.proofs.LiteralLemmas.{WritesLiterals, literal_texts}
use Rattle.td_canon.proofs.MeetingLemmas.{BeginsWith-same}
use Rattle.td_canon.proofs.NodeLemmas.{ordered_bag}
use Rattle.td_canon.proofs.WritesLemmas.{Writes-then}

-- ---- bags that can be put in order are lists that can

pub ordered_pairs : (text : ℕ → List ℕ) (bag : BagPairs) → IsOrderedBag text bag → IsOrderedPairs text (pairs_of bag)
ordered_pairs text bag ordered = record { rising = IsRising-pairs_of bag ordered.listed; order = ordered.order }

pub ordered_lists : (text : ℕ → List ℕ) (f : Forest (Node BagPairs)) → Each (AreOrderedBags text) (labels f) → Each (AreOrderedLists text) (labels (map_forest lists_of f))
ordered_lists text empty ordered = tt
ordered_lists text (tree b kids more) ordered = (
  record { own = ordered_pairs text b.own ordered.0.own; top = ordered_pairs text b.top ordered.0.top; bottom = ordered_pairs text b.bottom ordered.0.bottom },
  Each-append (AreOrderedLists text) (labels (map_forest lists_of kids)) (labels (map_forest lists_of more))
      (ordered_lists text kids (Each-left (AreOrderedBags text) (labels kids) (labels more) ordered.1))
      (ordered_lists text more (Each-right (AreOrderedBags text) (labels kids) (labels more) ordered.1)),
)

listed_nodes : (text : ℕ → List ℕ) (n : ℕ) (parent : Option ℕ) (f : Forest (Node BagPairs)) → Each (AreOrderedBags text) (labels f) → Each IsListedNode (preorder n parent f)
listed_nodes text n parent empty ordered = tt
listed_nodes text n parent (tree b kids more) ordered = (
  record { own = ordered.0.own.listed; top = ordered.0.top.listed; bot = ordered.0.bottom.listed },
  Each-append IsListedNode (preorder (suc n) (Some n) kids) (preorder (suc n + size kids) parent more)
      (listed_nodes text (suc n) (Some n) kids (Each-left (AreOrderedBags text) (labels kids) (labels more) ordered.1))
      (listed_nodes text (suc n + size kids) parent more (Each-right (AreOrderedBags text) (labels kids) (labels more) ordered.1)),
)

-- ---- the text of the nodes

-- the bags of the forest can be put in order, and its text was written
pub record WritesNodes (text : ℕ → List ℕ) (f : Forest (Node BagPairs)) (old new : Written) : Type 0 where
  pub ordered : Each (AreOrderedBags text) (labels f)
  pub written : WritesForest text (join_with_byte 32) f old new

writes_nodes : (text : ℕ → List ℕ) (nodes : List TreeNode) (next : ℕ) (old new : Written) (f : Forest (Node BagPairs)) → IsOneTree f → nodes ≡ preorder 0 None f → WritesTree text nodes 0 next old new →
    WritesNodes text f old new
writes_nodes text nodes next old new empty one laid w = absurd one
writes_nodes text nodes next old new (tree b kids empty) one laid w =
    let r = w.writes None b kids [] (laid ∙ sym (append-nil (preorder 0 None (tree b kids empty)))) tt in
    record { ordered = r.1; written = r.2 }
writes_nodes text nodes next old new (tree b kids (tree c others more)) one laid w = absurd one

-- ---- the whole

abbrev nothing : Written
nothing = record { bytes = []; met = [] }

pub has_text : (texts : List (List ℕ)) (t : Tree) (nodes : AreTreeNodes t.nodes) (next : ℕ) (one two three : Written) (bytes : List ℕ) → IsNamedTree (length texts) t →
    WritesTree (text_in texts) t.nodes 0 next nothing one →
    WritesPairs (text_in texts) (codes " iface[") (codes "]") (in_order (text_in texts) (pairs_of t.iface)) one two → (0 < length t.iface → NoneTwice texts) → IsListed t.iface →
    WritesLiterals (text_in texts) t.sem two three → bytes ≡ three.bytes → HasText texts t bytes
has_text texts t nodes next one two three bytes named tree_written pairs_written distinct listed literals_written bytes_are =
    let text = text_in texts in
    let first = writes_nodes text t.nodes next nothing one nodes.forest nodes.one nodes.laid tree_written in
    let ordered : IsOrderedTree text (decorated_of nodes.forest t) = record { nodes = ordered_lists text nodes.forest first.ordered; interface = ordered_pairs text t.iface (ordered_bag texts t.iface 0 (omega arith) listed named.iface distinct) } in
    let d = decorated_of nodes.forest t in
    let whole : Writes nothing three (tree_terms text d) (λ label. decorated_text text (form_of text label d)) =
    Writes-then nothing two three (forest_terms text d.nodes ++ values_in (in_order text d.interface)) (gathered literal_terms d.literals)
    (λ label. join_with_byte 32 (tree_texts text (map_forest (form_node text label) d.nodes)) ++ enclosed (codes " iface[") 44 (codes "]") (pair_texts text (labelled label (in_order text d.interface))))
    (λ label. literal_texts text label t.sem)
    (Writes-then nothing one two (forest_terms text d.nodes) (values_in (in_order text d.interface))
    (λ label. join_with_byte 32 (tree_texts text (map_forest (form_node text label) d.nodes)))
    (λ label. enclosed (codes " iface[") 44 (codes "]") (pair_texts text (labelled label (in_order text d.interface))))
    first.written pairs_written) literals_written
    in
    record {
      nodes = nodes;
      named = named;
      listed = record { nodes = subst (λ ns. Each IsListedNode ns) (sym nodes.laid) (listed_nodes text 0 None nodes.forest first.ordered); iface = listed };
      spells = record {
        form = form_of text (label_in (meet_all [] (tree_terms text d))) d;
        canonical = canonical_form text d ordered;
        spells = bytes_are ∙ whole.appended three.met (BeginsWith-same three.met) ∙ ap (λ met. decorated_text text (form_of text (label_in met) d)) whole.met;
      };
    }
