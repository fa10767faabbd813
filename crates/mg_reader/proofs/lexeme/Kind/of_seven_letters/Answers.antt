use Rattle.std.proofs.Common.{rules, ◌≡◌, arith, refl, sym, ◌∙◌}
use Rattle.std.specs.Prelude.{codes}
use Rattle.std.proofs.lemmas.Slice.Eq.{text_from_reads}
use Rattle.mg_reader.proofs.lexeme.Kind.of_seven_letters.Goals as goal

pub returns-in-declare : goal.returns-in-declare
returns-in-declare c = let e : c.as_bytes.result.now ≡ codes "declare" = text_from_reads c.as_bytes.result.now (codes "declare") (omega arith) (search rules) in rw (sym c.as_bytes.ensures.value ∙ e) refl

pub returns-in-feature : goal.returns-in-feature
returns-in-feature c = let e : c.as_bytes.result.now ≡ codes "feature" = text_from_reads c.as_bytes.result.now (codes "feature") (omega arith) (search rules) in rw (sym c.as_bytes.ensures.value ∙ e) refl
