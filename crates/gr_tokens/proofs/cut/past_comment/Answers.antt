use Rattle.std.proofs.Common.{◌≢◌, ◌≤◌, take, drop, length, subst}
use Rattle.std.proofs.lemmas.List.{take_rest}
use Rattle.gr_base.specs.Lists.{Each}
use Rattle.gr_tokens.specs.Tokens.{EndsLine}
use Rattle.gr_text.proofs.CursorLemmas.{StandsAt-column-le}
use Rattle.gr_tokens.proofs.Steps.{comment_skips}
use Rattle.gr_tokens.proofs.cut.past_comment.Goals as goal

pub along-requires-clause-column : goal.along-requires-clause-column
along-requires-clause-column c =
    let here = c.args.here in
    StandsAt-column-le c.args.bytes.now here.at here.place.line here.place.column c.requires.here

pub returns-clause-skips : goal.returns-clause-skips
returns-clause-skips c =
    let bytes = c.args.bytes.now in
    let here = c.args.here in
    let len = c.line_len-len.result in
    let rest = take_rest bytes here.at in
    comment_skips bytes here c.along.result len c.requires.here c.requires.within c.requires.comment
    (subst (λ z. len ≤ length z) rest c.line_len-len.ensures.within)
    (subst (λ z. Each (λ b. b ≢ 10) (take len z)) rest c.line_len-len.ensures.inside)
    (subst (λ z. EndsLine (drop len z)) rest c.line_len-len.ensures.ends)
    c.along.ensures.at c.along.ensures.line c.along.ensures.column
