use Rattle.std.proofs.Common.{[], ◌∷◌, ◌++◌, ap, sym, ◌∙◌, subst, take}
use Rattle.std.proofs.lemmas.List.{take_more}
use Rattle.sm_match.specs.Index.{AreRows}
use Rattle.sm_match.proofs.index.rows_of.Goals as goal

pub loop-literal-preserved : goal.loop-literal-preserved
loop-literal-preserved c =
    subst (λ gs. AreRows c.args.any c.args.input.now gs c.add_row.new.rows.items)
    (ap (λ g. take c.loop-literal.literal-index c.args.input.now ++ g ∷ []) c.literal-item.is ∙ sym (take_more c.args.input.now c.loop-literal.literal-index c.literal-item.result c.loop-literal-test.true))
    (c.in_ok-add_row.ensures (take c.loop-literal.literal-index c.args.input.now) c.loop-literal.invariant)
