use Rattle.std.proofs.Common.{rules, ◌≡◌, Err, sym, ◌∙◌}
use Rattle.gr_grammar.specs.Grammars.{take_nothing, run_left, run_right}
use Rattle.tg_syntax.proofs.scanner.Scanner.behind_nodes.Goals as goal

pub returns-in_err-_items : goal.returns-in_err-_items
returns-in_err-_items c = let e : c.from_residual.result ≡ Err c.in_err-_items.field-0.0 = search rules in rw e (run_left (sym c.sees.ensures ∙ c.if-sees.true) c.in_err-_items.ensures)

pub returns-in_ok-_items : goal.returns-in_ok-_items
returns-in_ok-_items c = run_left (sym c.sees.ensures ∙ c.if-sees.true) c.in_ok-_items.ensures

pub returns-else-sees : goal.returns-else-sees
returns-else-sees c = run_right (sym c.sees.ensures ∙ c.if-sees.false) take_nothing
