use Rattle.std.proofs.Common.{rules, ◌≡◌, Err, refl, sym, ◌∙◌}
use Rattle.gr_grammar.specs.Grammars.{run_both, run_first, run_left, run_right}
use Rattle.tg_syntax.proofs.Keyed.{not_this, not_other}
use Rattle.tg_syntax.proofs.scanner.Scanner.first_item.Goals as goal

pub returns-in_err-_handle : goal.returns-in_err-_handle
returns-in_err-_handle c = let e : c.from_residual.result ≡ Err c.in_err-_handle.field-0.0 = search rules in rw e (run_right (not_this 105 refl c.args.self.now.rest.now (sym c.sees.ensures ∙ c.if-sees.false)) (run_right (not_other 105 c.args.self.now.rest.now (sym c.sees.ensures ∙ c.if-sees.false)) (run_left (sym c.sees-2.ensures ∙ c.if-sees-2.true) (run_first c.in_err-_handle.ensures))))

pub returns-in_err-_behind : goal.returns-in_err-_behind
returns-in_err-_behind c = let e : c.from_residual-in_err-_behind.result ≡ Err c.in_err-_behind.field-0.0 = search rules in rw e (run_right (not_this 105 refl c.args.self.now.rest.now (sym c.sees.ensures ∙ c.if-sees.false)) (run_right (not_other 105 c.args.self.now.rest.now (sym c.sees.ensures ∙ c.if-sees.false)) (run_left (sym c.sees-2.ensures ∙ c.if-sees-2.true) (run_both c.in_ok-_handle.ensures c.in_err-_behind.ensures))))

pub returns-then-sees-2 : goal.returns-then-sees-2
returns-then-sees-2 c = run_right (not_this 105 refl c.args.self.now.rest.now (sym c.sees.ensures ∙ c.if-sees.false)) (run_right (not_other 105 c.args.self.now.rest.now (sym c.sees.ensures ∙ c.if-sees.false)) (run_left (sym c.sees-2.ensures ∙ c.if-sees-2.true) (run_both c.in_ok-_handle.ensures c.in_ok-_behind.ensures)))

pub returns-in_err-_handle-2 : goal.returns-in_err-_handle-2
returns-in_err-_handle-2 c = let e : c.from_residual-in_err-_handle-2.result ≡ Err c.in_err-_handle-2.field-0.0 = search rules in rw e (run_right (not_this 105 refl c.args.self.now.rest.now (sym c.sees.ensures ∙ c.if-sees.false)) (run_right (not_other 105 c.args.self.now.rest.now (sym c.sees.ensures ∙ c.if-sees.false)) (run_right (sym c.sees-2.ensures ∙ c.if-sees-2.false) (run_first c.in_err-_handle-2.ensures))))

pub returns-in_err-_behind-2 : goal.returns-in_err-_behind-2
returns-in_err-_behind-2 c = let e : c.from_residual-in_err-_behind-2.result ≡ Err c.in_err-_behind-2.field-0.0 = search rules in rw e (run_right (not_this 105 refl c.args.self.now.rest.now (sym c.sees.ensures ∙ c.if-sees.false)) (run_right (not_other 105 c.args.self.now.rest.now (sym c.sees.ensures ∙ c.if-sees.false)) (run_right (sym c.sees-2.ensures ∙ c.if-sees-2.false) (run_both c.in_ok-_handle-2.ensures c.in_err-_behind-2.ensures))))

pub returns : goal.returns
returns c = run_right (not_this 105 refl c.args.self.now.rest.now (sym c.sees.ensures ∙ c.if-sees.false)) (run_right (not_other 105 c.args.self.now.rest.now (sym c.sees.ensures ∙ c.if-sees.false)) (run_right (sym c.sees-2.ensures ∙ c.if-sees-2.false) (run_both c.in_ok-_handle-2.ensures c.in_ok-_behind-2.ensures)))
