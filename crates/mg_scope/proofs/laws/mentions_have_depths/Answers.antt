use Rattle.mg_scope.proofs.DepthLaws.{depths}
use Rattle.mg_scope.proofs.laws.mentions_have_depths.Goals as goal

pub returns : goal.returns
returns c = depths
