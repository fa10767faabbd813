use Rattle.td_check.proofs.OneForm.{once_of}
use Rattle.td_check.proofs.OneTree.{one_tree}
use Rattle.td_check.proofs.laws.one_tree_one_form.Goals as goal

pub returns : goal.returns
returns c text N t u form once is has = one_tree N t u is (once_of u once) text form has
