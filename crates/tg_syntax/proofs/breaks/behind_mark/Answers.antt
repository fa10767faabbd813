use Rattle.std.proofs.Common.{sym, ◌∙◌}
use Rattle.std.proofs.lemmas.Bool.{true≢false}
use Rattle.tg_syntax.proofs.NameLemmas.{no_room, split_again, mark_other}
use Rattle.tg_syntax.proofs.breaks.behind_mark.Goals as goal

pub returns-then-bytes-lt5 : goal.returns-then-bytes-lt5
returns-then-bytes-lt5 c = no_room _ c.if-bytes-lt5.true

pub begins_with-requires : goal.begins_with-requires
begins_with-requires c = (_, split_again _ _ _ c.split_at.ensures.front c.split_at.ensures.back)

pub returns-then-begins_with : goal.returns-then-begins_with
returns-then-begins_with c = c.begins_with.ensures.0 c.if-begins_with.true

pub returns-else-begins_with : goal.returns-else-begins_with
returns-else-begins_with c = mark_other _ _ c.split_at.ensures.back (λ e. true≢false (sym (c.begins_with.ensures.1 e) ∙ c.if-begins_with.false))
