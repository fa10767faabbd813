use Rattle.gr_reader.specs.Lexemes.{HasText}
use Rattle.gr_reader.proofs.Texts.{all_have, each_range}
use Rattle.gr_reader.proofs.reader.Reader.between.Goals as goal

pub invariant_of-result : goal.invariant_of-result
invariant_of-result c = each_range (HasText c.args.bytes.now) c.args.from c.args.to c.args.tokens.now (all_have c.args.bytes.now c.args.tokens.now c.requires.tokens)
