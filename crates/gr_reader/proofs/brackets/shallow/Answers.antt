use Rattle.std.proofs.Common.{arith}
use Rattle.gr_reader.proofs.Texts.{all_have}
use Rattle.gr_reader.proofs.brackets.shallow.Goals as goal

pub cut-init : goal.cut-init
cut-init c = (omega arith, omega arith, all_have c.args.bytes.now c.args.tokens.now c.requires)
