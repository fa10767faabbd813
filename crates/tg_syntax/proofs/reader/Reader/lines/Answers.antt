use Rattle.std.proofs.Common.{rules, ◌≡◌, Err}
use Rattle.gr_grammar.specs.Grammars.{took, failed}
use Rattle.tg_syntax.proofs.Noting.{line_more, line_last}
use Rattle.tg_syntax.proofs.reader.Reader.lines.Goals as goal

pub lines-init : goal.lines-init
lines-init c = λ e last k. k

pub returns-in_err-more : goal.returns-in_err-more
returns-in_err-more c = let e : c.from_residual.result ≡ Err c.in_err-more.field-0.0 = search rules in rw e (c.lines.invariant (failed c.line.new.self.scanner.rest.now) c.line.new.self.broken c.in_err-more.ensures)

pub returns-then-not-more : goal.returns-then-not-more
returns-then-not-more c = c.lines.invariant (took c.line.new.self.scanner.rest.now) c.line.new.self.broken (line_last c.lines.self.scanner.rest.now c.line.new.self.scanner.rest.now c.lines.self.broken c.line.new.self.broken c.in_ok-more.more c.if-not-more.true c.in_ok-more.ensures)

pub lines-smaller : goal.lines-smaller
lines-smaller c = (line_more c.lines.self.scanner.rest.now c.line.new.self.scanner.rest.now c.lines.self.broken c.line.new.self.broken c.in_ok-more.more c.if-not-more.false c.in_ok-more.ensures).0

pub lines-preserved : goal.lines-preserved
lines-preserved c = λ e last k. c.lines.invariant e last ((line_more c.lines.self.scanner.rest.now c.line.new.self.scanner.rest.now c.lines.self.broken c.line.new.self.broken c.in_ok-more.more c.if-not-more.false c.in_ok-more.ensures).1 e last k)
