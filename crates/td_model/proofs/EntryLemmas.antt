-- A model's tree beside its text is an entry of the model, an entry has the model's text, and descriptions that say the same have the same entries.
use Rattle.std.specs.Prelude.{ℕ, List, ◌↔◌}
use Rattle.std.proofs.Common.{sym, ◌∙◌, subst}
use Rattle.gr_base.specs.Forests.{Forest}
use Rattle.gr_terms.specs.Canonical.{Node, IsCanonicalForm}
use Rattle.gr_terms.specs.Networks.{Agrees}
use Rattle.td_tree.specs.Trees.{BagPairs}
use Rattle.td_tree.specs.TreeNetworks.{slotted, tree_network}
use Rattle.td_tree.specs.TreeViews.{decorated_of}
use Rattle.td_tree.specs.declared.Tree.{Tree}
use Rattle.td_tree.proofs.PreorderLemmas.{preorder-unique}
use Rattle.td_canon.specs.CanonicalTexts.{HasText, text_in}
use Rattle.td_canon.specs.TreeSets.{Entry}
use Rattle.td_desc.specs.Descriptions.{Description}
use Rattle.td_desc.specs.Likeness.{SayTheSame}
use Rattle.td_colour.specs.Models.{merged_network, model_tree}
use Rattle.td_colour.proofs.Likening.{same_forms as same_model_forms}
use Rattle.td_model.specs.ModelTrees.{IsModelText, IsModelTree}
use Rattle.td_model.specs.ModelEntries.{IsModelEntry}
use Rattle.td_model.proofs.TreeForms.{same_forms}

pub model_entry : (texts : List (List ℕ)) (d : Description ℕ ℕ) (F : Forest (List ℕ)) (t : Tree) (bytes : List ℕ)
    → Agrees (merged_network d F) → IsModelTree d F t → HasText texts t bytes → IsModelEntry texts d F (record { tree = t; text = bytes })
model_entry texts d F t bytes agrees is h =
    let form = h.spells.form in
    let one = preorder-unique h.nodes.forest is.nodes.forest (sym h.nodes.laid ∙ is.nodes.laid) in
    let there = subst (λ (f : Forest (Node BagPairs)). IsCanonicalForm (text_in texts) (tree_network (decorated_of f t)) (slotted (decorated_of f t)) form) one h.spells.canonical in
    record {
      form = form;
      of_model = (same_forms (merged_network d F) (model_tree d F) t agrees is (text_in texts) form).0 there;
      nodes = h.nodes;
      of_tree = h.spells.canonical;
      spells = h.spells.spells;
    }

pub entry_text : {V S : Type 0} (texts : List (List ℕ)) (d : Description V S) (F : Forest (List ℕ)) (e : Entry) → IsModelEntry texts d F e → IsModelText (text_in texts) d F e.text
entry_text texts d F e h = record { form = h.form; canonical = h.of_model; spells = h.spells }

module _ {V S W R : Type 0} (a : Description V S) (b : Description W R) (same : SayTheSame a b) (texts : List (List ℕ)) (F : Forest (List ℕ)) (e : Entry) where
  entry_there : IsModelEntry texts a F e → IsModelEntry texts b F e
  entry_there h = record {
    form = h.form;
    of_model = (same_model_forms a b same (text_in texts) F h.form).0 h.of_model;
    nodes = h.nodes;
    of_tree = h.of_tree;
    spells = h.spells;
  }

  entry_home : IsModelEntry texts b F e → IsModelEntry texts a F e
  entry_home h = record {
    form = h.form;
    of_model = (same_model_forms a b same (text_in texts) F h.form).1 h.of_model;
    nodes = h.nodes;
    of_tree = h.of_tree;
    spells = h.spells;
  }

  pub same_entries : IsModelEntry texts a F e ↔ IsModelEntry texts b F e
  same_entries = (entry_there, entry_home)
