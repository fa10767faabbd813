use Rattle.std.proofs.Common.{rules, ◌≡◌, arith, refl, sym, ◌∙◌}
use Rattle.std.specs.Prelude.{codes}
use Rattle.std.proofs.lemmas.Slice.Eq.{text_from_reads}
use Rattle.mg_reader.proofs.lexeme.Kind.of_six_letters.Goals as goal

pub returns-in-import : goal.returns-in-import
returns-in-import c = let e : c.as_bytes.result.now ≡ codes "import" = text_from_reads c.as_bytes.result.now (codes "import") (omega arith) (search rules) in rw (sym c.as_bytes.ensures.value ∙ e) refl

pub returns-in-export : goal.returns-in-export
returns-in-export c = let e : c.as_bytes.result.now ≡ codes "export" = text_from_reads c.as_bytes.result.now (codes "export") (omega arith) (search rules) in rw (sym c.as_bytes.ensures.value ∙ e) refl

pub returns-in-anchor : goal.returns-in-anchor
returns-in-anchor c = let e : c.as_bytes.result.now ≡ codes "anchor" = text_from_reads c.as_bytes.result.now (codes "anchor") (omega arith) (search rules) in rw (sym c.as_bytes.ensures.value ∙ e) refl
