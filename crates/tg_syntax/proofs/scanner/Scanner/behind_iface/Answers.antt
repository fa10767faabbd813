use Rattle.std.proofs.Common.{rules, ◌≡◌, Err, sym, ◌∙◌}
use Rattle.gr_grammar.specs.Grammars.{run_left, run_right}
use Rattle.tg_syntax.proofs.scanner.Scanner.behind_iface.Goals as goal

pub returns-in_err-_bag : goal.returns-in_err-_bag
returns-in_err-_bag c = let e : c.from_residual.result ≡ Err c.in_err-_bag.field-0.0 = search rules in rw e (run_left (sym c.sees.ensures ∙ c.if-sees.true) c.in_err-_bag.ensures)

pub returns-in_err-_behind : goal.returns-in_err-_behind
returns-in_err-_behind c = let e : c.from_residual-in_err-_behind.result ≡ Err c.in_err-_behind.field-0.0 = search rules in rw e (run_right (sym c.sees.ensures ∙ c.if-sees.false) c.in_err-_behind.ensures)

pub returns-in_ok-_bag : goal.returns-in_ok-_bag
returns-in_ok-_bag c = run_left (sym c.sees.ensures ∙ c.if-sees.true) c.in_ok-_bag.ensures

pub returns-in_ok-_behind : goal.returns-in_ok-_behind
returns-in_ok-_behind c = run_right (sym c.sees.ensures ∙ c.if-sees.false) c.in_ok-_behind.ensures
