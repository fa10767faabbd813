use Rattle.std.proofs.Common.{arith}
use Rattle.std.proofs.lemmas.Str.Pattern.{split_parts}
use Rattle.tg_text.proofs.FrontLemmas.{first_split}
use Rattle.tg_text.proofs.lines.first_line.Goals as goal

pub returns : goal.returns
returns c = first_split c.args.text.now c.split_once.result (split_parts 10 c.args.text.now c.split_once.result c.split_once.ensures.cases (omega arith))
