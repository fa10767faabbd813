use Rattle.std.proofs.Common.{ap, ◌∙◌}
use Rattle.std.specs.Prelude.{count_by, length}
use Rattle.sm_match.specs.Index.{wanted_name, suits}
use Rattle.sm_match.proofs.AlikeLemmas.{too_few}
use Rattle.sm_match.proofs.search.has_places.Goals as goal

pub returns-then-places-alike : goal.returns-then-places-alike
returns-then-places-alike c = λ places stands.
    let literal = c.literal-item.result in
    too_few c.args.input.now c.args.tree.now literal c.places.result.now c.alike.result c.requires.ground (c.places.ensures c.args.input.now c.requires.index)
    (c.alike.ensures ∙ ap (count_by (suits (wanted_name literal.pred) (length literal.args))) c.as_slice.ensures) c.if-places-alike.true places stands
