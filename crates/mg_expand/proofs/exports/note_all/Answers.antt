use Rattle.std.proofs.Common.{sym, ap, ◌∙◌, take, List}
use Rattle.std.proofs.lemmas.List.{take_all, take_more}
use Rattle.gr_terms.specs.declared.Sym.{Sym}
use Rattle.mg_scope.specs.Classes.{firsts}
use Rattle.mg_expand.proofs.exports.note_all.Goals as goal

pub loop-name-init : goal.loop-name-init
loop-name-init c = c.requires

pub loop-name-preserved : goal.loop-name-preserved
loop-name-preserved c =
    c.in_ok-note.ensures (take c.loop-name.name-index c.args.exports.now) c.loop-name.invariant
    ∙ ap (λ (z : List Sym). firsts z) (sym (take_more c.args.exports.now c.loop-name.name-index _ c.loop-name-test.true))

pub returns : goal.returns
returns c = c.loop-name.invariant ∙ ap (λ (z : List Sym). firsts z) (take_all c.loop-name.name-index c.args.exports.now c.loop-name-test.false)
