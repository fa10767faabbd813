use Rattle.std.proofs.Common.{List, [], ◌∷◌, ◌++◌, length, None, refl, ap, sym, ◌∙◌}
use Rattle.gr_terms.specs.declared.Literal.{Literal}
use Rattle.td_tree.specs.declared.TreeNode.{TreeNode}
use Rattle.tg_model.specs.declared.lexical.LexicalTree.{LexicalTree}
use Rattle.sm_match.proofs.TestLemmas.{one_node, lexical_one}
use Rattle.sm_match.proofs.tests.lexical.Goals as goal

pub first_flaw-requires : goal.first_flaw-requires
first_flaw-requires c =
    let root : TreeNode = record { parent = None; own = c.add-2.new.self; top = c.new.result; bot = c.new-2.result } in
    one_node c.push.new.self root (c.in_ok-push.ensures.ok ∙ ap (λ xs. xs ++ root ∷ []) c.new-nodes.ensures) refl

pub returns-in-None : goal.returns-in-None
returns-in-None c =
    let root : TreeNode = record { parent = None; own = c.add-2.new.self; top = c.new.result; bot = c.new-2.result } in
    let l : LexicalTree =
    record { entry = 0; class = record { 0 = 7 }; number = 1; lemma = record { 0 = 7 }; coanchors = c.new-in-None.result; tree = record { nodes = c.push.new.self; iface = c.new-3.result; sem = c.args.sem } } in
    lexical_one l root (c.in_ok-push.ensures.ok ∙ ap (λ xs. xs ++ root ∷ []) c.new-nodes.ensures) c.new-in-None.ensures (sym c.has_mark.ensures ∙ c.if-has_mark.false) (sym c.has_mark-else-has_mark.ensures ∙ c.if-not-has_mark.false)
    (λ e. c.if-len-eq0.false (c.len.ensures ∙ ap (λ (xs : List Literal). length xs) e)) c.in-None.ensures
