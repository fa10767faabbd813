use Rattle.std.proofs.Common.{sym}
use Rattle.std.proofs.lemmas.Bool.{true≢false}
use Rattle.tg_syntax.proofs.NameLemmas.{nothing_behind, mark_there}
use Rattle.tg_syntax.proofs.breaks.has_no_mark.Goals as goal

pub returns-in_default : goal.returns-in_default
returns-in_default c = (λ x. absurd (true≢false (sym x)), λ h. absurd (c.in_default.ensures h.0 h.1 h.2))

pub returns-then-rest-eq0 : goal.returns-then-rest-eq0
returns-then-rest-eq0 c = (λ x. absurd (true≢false (sym x)), λ h. absurd (nothing_behind _ _ c.in-Some.ensures c.if-rest-eq0.true h.0 h.1 h.2 h.3))

pub returns : goal.returns
returns c = mark_there c.in-Some.name.now c.in-Some.rest.now c.is_among.result c.is_among.ensures c.in-Some.ensures c.if-rest-eq0.false
