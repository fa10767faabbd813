use Rattle.std.proofs.Common.{rules, ◌≡◌, refl, sym, ◌∙◌, subst}
use Rattle.std.specs.Prelude.{None}
use Rattle.std.proofs.lemmas.Bool.{true≢false}
use Rattle.tg_syntax.specs.Breaks.{by_name, by_value, HasNoMark}
use Rattle.tg_syntax.proofs.NameLemmas.{obeys, one_value}
use Rattle.tg_syntax.proofs.breaks.break_in.Goals as goal

pub returns-then-has_reserved : goal.returns-then-has_reserved
returns-then-has_reserved c = (c.args.bytes.now, by_name (c.has_reserved.ensures.0 c.if-has_reserved.true), refl)

pub returns-in_err-value : goal.returns-in_err-value
returns-in_err-value c = let e : c.from_residual.result ≡ None = search rules in rw e (obeys _ (λ h. true≢false (sym (c.has_reserved.ensures.1 h) ∙ c.if-has_reserved.false)) (λ v k m. c.in_err-value.ensures v k))

pub returns-then-has_no_mark : goal.returns-then-has_no_mark
returns-then-has_no_mark c = (c.in_ok-value.value.now, by_value _ c.in_ok-value.ensures (c.has_no_mark.ensures.0 c.if-has_no_mark.true), refl)

pub returns : goal.returns
returns c = obeys _ (λ h. true≢false (sym (c.has_reserved.ensures.1 h) ∙ c.if-has_reserved.false)) (λ v e m. true≢false (sym (c.has_no_mark.ensures.1 (subst HasNoMark (one_value _ v c.in_ok-value.value.now e c.in_ok-value.ensures) m)) ∙ c.if-has_no_mark.false))
