-- One more byte is one more line, or one more column, and neither number overflows.
use Rattle.std.proofs.Common.{◌≤◌, arith}
use Rattle.gr_text.proofs.CursorLemmas.{StandsAt-line-le, StandsAt-column-le, StandsAt-line_feed, StandsAt-other}
use Rattle.gr_text.proofs.Cursor.next.Goals as goal

pub overflow_add-self-then-byte-eq-LINE_FEED : goal.overflow_add-self-then-byte-eq-LINE_FEED
overflow_add-self-then-byte-eq-LINE_FEED c =
    let bound : c.self.inside.line ≤ 1048577 = StandsAt-line-le _ _ _ _ c.self.invariant in
    omega arith

pub invariant_of-self : goal.invariant_of-self
invariant_of-self c = StandsAt-line_feed _ _ _ _ c.self.invariant c.if-self.false c.if-byte-eq-LINE_FEED.true

pub overflow_add-self-else-byte-eq-LINE_FEED : goal.overflow_add-self-else-byte-eq-LINE_FEED
overflow_add-self-else-byte-eq-LINE_FEED c =
    let bound : c.self.inside.column ≤ 1048577 = StandsAt-column-le _ _ _ _ c.self.invariant in
    omega arith

pub invariant_of-self-else-byte-eq-LINE_FEED : goal.invariant_of-self-else-byte-eq-LINE_FEED
invariant_of-self-else-byte-eq-LINE_FEED c = StandsAt-other _ _ _ _ c.self.invariant c.if-self.false c.if-byte-eq-LINE_FEED.false
