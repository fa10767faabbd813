use Rattle.std.proofs.Common.{◌≡◌, ◌∙◌, sym, true, false, Bool, refl}
use Rattle.std.specs.Prelude.{codes, not}
use Rattle.std.proofs.lemmas.Bool.{false≢true}
use Rattle.std.proofs.lemmas.Slice.Eq.{bytes_eq-Decides}
use Rattle.td_canon.proofs.ValueLemmas.{text_in-names}
use Rattle.tg_reader.proofs.rules.may_stand.Goals as goal

not_false : (b : Bool) → not b ≡ false → b ≡ true
not_false true e = refl
not_false false e = absurd (false≢true (sym e))

pub returns-else-ne : goal.returns-else-ne
returns-else-ne c =
    let same : c.text.result.now ≡ codes "color" = (bytes_eq-Decides c.text.result.now (codes "color")).0 (not_false _ (sym c.ne.ensures ∙ c.if-ne.false)) in (
      λ h. absurd (false≢true (sym c.if-ne.false ∙ h)),
      λ h. absurd (h.0 (text_in-names c.args.symbols.now c.args.attribute.0 c.text.result.now c.text.ensures.text ∙ same)),
    )
