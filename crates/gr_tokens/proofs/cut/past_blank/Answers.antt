use Rattle.std.proofs.Common.{arith, refl}
use Rattle.gr_text.proofs.CursorLemmas.{StandsAt-line-le, StandsAt-column-le}
use Rattle.gr_tokens.proofs.Steps.{feed_skips, blank_skips}
use Rattle.gr_tokens.proofs.cut.past_blank.Goals as goal

pub overflow_add-result-then-bytes-here-eq10 : goal.overflow_add-result-then-bytes-here-eq10
overflow_add-result-then-bytes-here-eq10 c =
    let here = c.args.here in
    omega (arith, StandsAt-line-le c.args.bytes.now here.at here.place.line here.place.column c.requires.here)

pub along-requires-clause-column : goal.along-requires-clause-column
along-requires-clause-column c =
    let here = c.args.here in
    StandsAt-column-le c.args.bytes.now here.at here.place.line here.place.column c.requires.here

pub returns-then-bytes-here-eq10-clause-skips : goal.returns-then-bytes-here-eq10-clause-skips
returns-then-bytes-here-eq10-clause-skips c = feed_skips c.args.bytes.now c.args.here _ c.requires.here c.requires.within c.if-bytes-here-eq10.true refl refl refl

pub returns-else-bytes-here-eq10-clause-skips : goal.returns-else-bytes-here-eq10-clause-skips
returns-else-bytes-here-eq10-clause-skips c =
    blank_skips c.args.bytes.now c.args.here c.along.result c.requires.here c.requires.within c.requires.blank c.if-bytes-here-eq10.false
    c.along.ensures.at c.along.ensures.line c.along.ensures.column
