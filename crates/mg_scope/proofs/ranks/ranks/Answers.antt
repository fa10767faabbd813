use Rattle.mg_scope.specs.Classes.{mentioned}
use Rattle.mg_scope.proofs.RankLemmas.{blank_ranks}
use Rattle.mg_scope.proofs.ranks.ranks.Goals as goal

pub returns-then-all_fall : goal.returns-then-all_fall
returns-then-all_fall c = c.all_fall.ensures c.if-all_fall.true

pub returns : goal.returns
returns c = blank_ranks (mentioned c.args.directory.now) c.clear.new.self c.clear.ensures
