-- What was read off a store that carries a model is the tree of the model.
use Rattle.std.specs.Prelude.{ℕ, ◌≤◌, List}
use Rattle.std.specs.List.{AllZip}
use Rattle.std.proofs.Common.{sym, subst}
use Rattle.gr_base.specs.Lists.{IsWithin}
use Rattle.gr_base.specs.Forests.{Forest, map_forest, size, IsOneTree}
use Rattle.gr_base.proofs.ForestLemmas.{AreAlike-weaker, IsOneTree-alike, one_tree-map}
use Rattle.gr_base.proofs.Zips.{AllZip-weaker}
use Rattle.gr_terms.specs.Canonical.{Decorated, Literal, Node}
use Rattle.gr_terms.specs.LiteralViews.{literals_of}
use Rattle.gr_terms.specs.Networks.{Term, Assertion, entry, name, variable, HasValue}
use Rattle.gr_terms.specs.Views.{network_of}
use Rattle.gr_terms.specs.declared.Assertion as code_assertion
use Rattle.gr_terms.specs.declared.Literal as code_literal
use Rattle.gr_terms.specs.declared.Term as code_term
use Rattle.gr_terms.specs.declared.Term.TheVariants.{Const, Var}
use Rattle.gr_terms.proofs.NetworkLemmas.{AreLinked-part, AreLinkedSlots-part}
use Rattle.gr_feats.specs.CanonicalBags.{IsCanonicalBag, StandsFor}
use Rattle.td_tree.specs.Trees.{BagPairs}
use Rattle.td_tree.specs.declared.Tree.{Tree}
use Rattle.td_desc.specs.Descriptions.{description_of}
use Rattle.td_desc.specs.declared.Description as code
use Rattle.td_colour.specs.Models.{merged_network, model_tree, slots_at}
use Rattle.td_model.specs.CanonicalTrees.{HasBags, IsCanonicalTree, StandsForLiteral}
use Rattle.td_model.specs.Carrying.{Carries}
use Rattle.td_model.specs.ModelTrees.{IsModelTree}
use Rattle.td_model.specs.Reading.{AreModelNodes}
use Rattle.td_model.proofs.LaidNodes.{nodes_laid}

-- ---- networks with the same assertions have the same canonical trees

module _ (N M : List (Assertion ℕ ℕ)) (forth : IsWithin N M) (back : IsWithin M N) where
  stands_same : (x : Term ℕ) (v : code_term.Term) → StandsFor N x v → StandsFor M x v
  stands_same x (Const p) h = AreLinked-part N M forth x (name p.0) h
  stands_same x (Var v) h = (
    λ a l. h.0 a (AreLinked-part M N back x (name a) l),
    (AreLinked-part N M forth x (variable v) h.1.0, λ w l. h.1.1 w (AreLinked-part M N back x (variable w) l)),
  )

  value_same : (s a : ℕ) (x : Term ℕ) → HasValue N s a x → HasValue M s a x
  value_same s a x h = (h.0, AreLinkedSlots-part N M forth s h.0 h.1, forth (entry h.0 a x) h.2)

module _ (N M : List (Assertion ℕ ℕ)) (forth : IsWithin N M) (back : IsWithin M N) where
  bag_same : (s : ℕ) (bag : BagPairs) → IsCanonicalBag N s bag → IsCanonicalBag M s bag
  bag_same s bag h = record {
    listed = h.listed;
    pairs = λ attr v. (
      λ i. let z = (h.pairs attr v).0 i in (z.0, value_same N M forth back s attr.0 z.0 z.1, stands_same N M forth back z.0 v z.2),
      λ (z, has, stands). (h.pairs attr v).1 (z, value_same M N back forth s attr.0 z has, stands_same M N back forth z v stands),
    );
  }

  bags_same : (n : Node ℕ) (b : Node BagPairs) → HasBags N n b → HasBags M n b
  bags_same n b h = record { own = bag_same n.own b.own h.own; top = bag_same n.top b.top h.top; bottom = bag_same n.bottom b.bottom h.bottom }

  literal_same : (l : Literal (Term ℕ)) (k : code_literal.Literal) → StandsForLiteral N l k → StandsForLiteral M l k
  literal_same l k h = record {
    handle = stands_same N M forth back l.handle k.handle h.handle;
    pred = stands_same N M forth back l.pred k.pred h.pred;
    args = AllZip-weaker (StandsFor N) (StandsFor M) (stands_same N M forth back) l.args k.args h.args;
  }

  pub tree_same : (u : Decorated ℕ (Term ℕ)) (t : Tree) → IsCanonicalTree N u t → IsCanonicalTree M u t
  tree_same u t h = record {
    nodes = h.nodes;
    bags = AreAlike-weaker (HasBags N) (HasBags M) bags_same u.nodes h.nodes.forest h.bags;
    interface = bag_same u.interface t.iface h.interface;
    literals = AllZip-weaker (StandsForLiteral N) (StandsForLiteral M) literal_same u.literals t.sem h.literals;
  }

-- ---- the tree

pub model_tree_read : (d : code.Description) (F : Forest (List ℕ)) (accepted : List code_assertion.Assertion) (t : Tree) → IsOneTree F → size F ≤ 24 → AreModelNodes (network_of accepted) (description_of d) F (size F) t.nodes
    → IsCanonicalBag (network_of accepted) d.iface.0 t.iface → AllZip (StandsForLiteral (network_of accepted)) (literals_of d.sem) t.sem → Carries accepted (merged_network (description_of d) F) → IsModelTree (description_of d) F t
model_tree_read d F accepted t one few nodes interface literals carries =
    let D = description_of d in
    let N = network_of accepted in
    let G = map_forest (slots_at D.nodes D.interface) F in
    let laid = nodes_laid N D F t.nodes nodes in
    let is : IsCanonicalTree N (model_tree D F) t = record {
      nodes = record {
        forest = laid.forest;
        one = IsOneTree-alike (HasBags N) G laid.forest laid.bags (one_tree-map (slots_at D.nodes D.interface) F one);
        few = subst (λ n. n ≤ 24) (sym nodes.as_many) few;
        laid = laid.laid;
      };
      bags = laid.bags;
      interface = interface;
      literals = literals;
    }
    in
    tree_same N (merged_network D F) carries.only carries.all (model_tree D F) t is
