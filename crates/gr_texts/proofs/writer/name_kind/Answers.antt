use Rattle.std.proofs.Common.{IsTrue, ◌↔◌, true, false, subst}
use Rattle.gr_text.specs.Words.{IsBareWord}
use Rattle.gr_texts.proofs.Naming.{kind_of}
use Rattle.gr_texts.proofs.writer.name_kind.Goals as goal

pub returns-then-is_bare : goal.returns-then-is_bare
returns-then-is_bare c = kind_of c.args.text.now true (subst (λ b. IsTrue b ↔ IsBareWord c.args.text.now) c.if-is_bare.true c.is_bare.ensures)

pub returns-else-is_bare : goal.returns-else-is_bare
returns-else-is_bare c = kind_of c.args.text.now false (subst (λ b. IsTrue b ↔ IsBareWord c.args.text.now) c.if-is_bare.false c.is_bare.ensures)
