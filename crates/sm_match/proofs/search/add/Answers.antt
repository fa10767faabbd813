use Rattle.std.proofs.Common.{◌≤◌, length, refl, arith}
use Rattle.tg_model.specs.declared.instance.TheConstants.{INSTANCE_LIMIT}
use Rattle.tg_model.specs.declared.instance.Instance.{Instance}
use Rattle.sm_match.proofs.SearchLemmas.{one_too_many}
use Rattle.sm_match.proofs.search.add.Goals as goal

pub returns-then-len-ge-INSTANCE_LIMIT : goal.returns-then-len-ge-INSTANCE_LIMIT
returns-then-len-ge-INSTANCE_LIMIT c =
    let i : Instance = record { tree = c.args.tree; places = c.args.places.now } in
    let full : INSTANCE_LIMIT ≤ length c.args.found.now = omega arith in
    one_too_many _ c.args.found.now i refl full
