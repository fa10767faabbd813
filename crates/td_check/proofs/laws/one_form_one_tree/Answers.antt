use Rattle.td_check.proofs.OneForm.{one_form, once_of}
use Rattle.td_check.proofs.laws.one_form_one_tree.Goals as goal

pub returns : goal.returns
returns c text N t u form once one two = one_form text N t u form (once_of u once) one two
