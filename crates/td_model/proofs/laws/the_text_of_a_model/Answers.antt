use Rattle.td_colour.specs.Models.{merged_network, model_tree}
use Rattle.td_model.proofs.EntryLemmas.{model_entry}
use Rattle.td_model.proofs.ModelLemmas.{one_model_text, text_of_tree, tree_named, tree_text}
use Rattle.td_model.proofs.laws.the_text_of_a_model.Goals as goal

pub returns : goal.returns
returns c = record {
  text = λ texts d F t bytes agrees is h. tree_text texts (merged_network d F) (model_tree d F) t bytes agrees is h;
  tree = λ texts d F t bytes agrees is named h. text_of_tree texts (merged_network d F) (model_tree d F) t bytes agrees is named h;
  entry = model_entry;
  one = one_model_text;
  named = λ count d F t named is. tree_named count d F named t is;
}
