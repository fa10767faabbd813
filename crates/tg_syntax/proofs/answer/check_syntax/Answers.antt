use Rattle.std.proofs.Common.{length, take, ◌-◌, ◌∙◌, ap}
use Rattle.gr_text.specs.Places.{place_after}
use Rattle.tg_syntax.proofs.answer.check_syntax.Goals as goal

pub returns-in-Some : goal.returns-in-Some
returns-in-Some c = (c.in-Some.ensures.0, c.in-Some.ensures.1, c.place_with.ensures ∙ ap (λ n. place_after (take (length c.args.bytes.now - n) c.args.bytes.now)) c.in-Some.ensures.2)
