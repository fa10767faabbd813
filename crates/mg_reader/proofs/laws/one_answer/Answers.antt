use Rattle.mg_reader.proofs.OneRight.{one_right}
use Rattle.mg_reader.proofs.laws.one_answer.Goals as goal

pub returns : goal.returns
returns c bytes texts a b n x y = one_right bytes texts a b n x y
