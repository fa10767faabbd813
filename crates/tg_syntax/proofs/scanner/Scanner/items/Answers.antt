use Rattle.std.proofs.Common.{rules, ◌≡◌, Err, refl, sym, ◌∙◌}
use Rattle.gr_grammar.specs.Grammars.{run_both, run_first, start, round}
use Rattle.gr_grammar.proofs.Loops.{ended, broken}
use Rattle.tg_syntax.proofs.Steps.{shorter}
use Rattle.tg_syntax.proofs.scanner.Scanner.items.Goals as goal

pub returns-in_err-_space : goal.returns-in_err-_space
returns-in_err-_space c = let e : c.from_residual.result ≡ Err c.in_err-_space.field-0.0 = search rules in rw e (run_first c.in_err-_space.ensures)

pub returns-in_err-_first : goal.returns-in_err-_first
returns-in_err-_first c = let e : c.from_residual-in_err-_first.result ≡ Err c.in_err-_first.field-0.0 = search rules in rw e (run_both c.in_ok-_space.ensures (run_first c.in_err-_first.ensures))

pub row-init : goal.row-init
row-init c = start

pub returns-in_err-_next : goal.returns-in_err-_next
returns-in_err-_next c = let e : c.from_residual-in_err-_next.result ≡ Err c.in_err-_next.field-0.0 = search rules in rw e (run_both c.in_ok-_space.ensures (run_both c.in_ok-_first.ensures (broken c.row.invariant (sym c.sees.ensures ∙ c.row-test.true) c.in_err-_next.ensures)))

pub row-smaller : goal.row-smaller
row-smaller c = shorter refl c.in_ok-_next.ensures

pub row-preserved : goal.row-preserved
row-preserved c = round c.row.invariant (sym c.sees.ensures ∙ c.row-test.true) c.in_ok-_next.ensures

pub returns : goal.returns
returns c = run_both c.in_ok-_space.ensures (run_both c.in_ok-_first.ensures (ended c.row.invariant (sym c.sees.ensures ∙ c.row-test.false)))
