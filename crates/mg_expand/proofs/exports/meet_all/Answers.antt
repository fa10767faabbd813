use Rattle.std.proofs.Common.{sym, ap, ◌∙◌, take, List}
use Rattle.std.specs.Prelude.{map}
use Rattle.std.proofs.lemmas.List.{take_all, take_more}
use Rattle.gr_terms.specs.declared.Sym.{Sym}
use Rattle.mg_scope.specs.Classes.{firsts}
use Rattle.mg_expand.proofs.exports.meet_all.Goals as goal

pub loop-name-init : goal.loop-name-init
loop-name-init c = (c.requires.none, c.requires.unmet ∙ ap (λ z. map (λ (n : Sym). n.0) z) (sym c.requires.none))

pub loop-name-preserved : goal.loop-name-preserved
loop-name-preserved c = (
  c.in_ok-meet.ensures.names (take c.loop-name.name-index c.args.exports.now) c.loop-name.invariant.0
      ∙ ap (λ (z : List Sym). firsts z) (sym (take_more c.args.exports.now c.loop-name.name-index _ c.loop-name-test.true)),
  c.in_ok-meet.ensures.met,
)

pub returns : goal.returns
returns c = c.loop-name.invariant.0 ∙ ap (λ (z : List Sym). firsts z) (take_all c.loop-name.name-index c.args.exports.now c.loop-name-test.false)
