use Rattle.std.proofs.Common.{rules, ◌≡◌, arith, refl, sym, ◌∙◌}
use Rattle.std.specs.Prelude.{codes}
use Rattle.std.proofs.lemmas.Slice.Eq.{text_from_reads}
use Rattle.mg_reader.proofs.lexeme.Kind.of_eight_letters.Goals as goal

pub returns-in-property : goal.returns-in-property
returns-in-property c = let e : c.as_bytes.result.now ≡ codes "property" = text_from_reads c.as_bytes.result.now (codes "property") (omega arith) (search rules) in rw (sym c.as_bytes.ensures.value ∙ e) refl

pub returns-in-coanchor : goal.returns-in-coanchor
returns-in-coanchor c = let e : c.as_bytes.result.now ≡ codes "coanchor" = text_from_reads c.as_bytes.result.now (codes "coanchor") (omega arith) (search rules) in rw (sym c.as_bytes.ensures.value ∙ e) refl
