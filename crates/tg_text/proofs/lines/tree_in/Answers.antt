use Rattle.std.proofs.Common.{◌++◌, ◌∙◌, ap}
use Rattle.tg_text.proofs.FrontLemmas.{no_space, tree_found}
use Rattle.tg_text.proofs.lines.tree_in.Goals as goal

pub returns-in_err-rest : goal.returns-in_err-rest
returns-in_err-rest c =
    rw c.from_residual-in_err-rest.ensures
    (λ t more lacks e. no_space c.args.number c.args.text.now c.in_ok-tree.tree.now c.in_ok-space.space.now c.in_ok-tree.ensures (c.in_ok-space.ensures ∙ ap (λ w. w ++ c.in_ok-space.space.now) c.format.ensures.text) c.in_err-rest.ensures t more e)

pub returns : goal.returns
returns c =
    tree_found c.args.number c.args.text.now c.in_ok-tree.tree.now c.in_ok-space.space.now c.in_ok-rest.rest.now c.first_line.result
    (c.in_ok-tree.ensures, c.in_ok-space.ensures ∙ ap (λ w. w ++ c.in_ok-space.space.now) c.format.ensures.text, c.in_ok-rest.ensures) c.first_line.ensures
