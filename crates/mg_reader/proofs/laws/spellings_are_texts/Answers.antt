use Rattle.mg_reader.proofs.Unspelled.{unspelled}
use Rattle.mg_reader.proofs.laws.spellings_are_texts.Goals as goal

pub returns : goal.returns
returns c m ts s l = let u = unspelled m ts s l in (u.tree, u.is, u.fine)
