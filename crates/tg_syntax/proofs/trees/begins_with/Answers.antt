use Rattle.std.proofs.Common.{◌++◌, sym, ◌∙◌, ap}
use Rattle.std.proofs.lemmas.List.{append_cancel_right}
use Rattle.std.proofs.lemmas.Slice.Eq.{bytes_eq-Decides}
use Rattle.tg_syntax.proofs.trees.begins_with.Goals as goal

pub returns : goal.returns
returns c =
    let d = bytes_eq-Decides c.taken.result.now c.args.word.now in (
      λ h. c.taken.ensures ∙ ap (λ z. z ++ c.args.rest.now) (d.0 (sym c.eq.ensures ∙ h)),
      λ h. c.eq.ensures ∙ d.1 (append_cancel_right c.taken.result.now c.args.word.now c.args.rest.now (sym c.taken.ensures ∙ h)),
    )
