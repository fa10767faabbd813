use Rattle.std.proofs.Common.{rules, ◌≡◌, Err, sym, ◌∙◌}
use Rattle.tg_syntax.proofs.Bags.{no_bag, no_bracket, bag_there, bag_fails}
use Rattle.tg_syntax.proofs.scanner.Scanner.signed_bag.Goals as goal

pub returns-then-not-sees : goal.returns-then-not-sees
returns-then-not-sees c = no_bag c.args.sign c.args.room (sym c.sees.ensures ∙ c.if-not-sees.true)

pub returns-in_err-_sign : goal.returns-in_err-_sign
returns-in_err-_sign c = let e : c.from_residual.result ≡ Err c.in_err-_sign.field-0.0 = search rules in rw e (bag_fails c.args.sign c.args.room (sym c.sees.ensures ∙ c.if-not-sees.false) c.in_err-_sign.ensures)

pub returns-then-room-eq0 : goal.returns-then-room-eq0
returns-then-room-eq0 c = no_bracket c.args.sign c.args.room c.if-room-eq0.true (sym c.sees.ensures ∙ c.if-not-sees.false) c.in_ok-_sign.ensures c.never.ensures

pub returns-else-room-eq0 : goal.returns-else-room-eq0
returns-else-room-eq0 c = bag_there c.args.sign c.args.room c.bag.new.self.rest.now _ c.if-room-eq0.false (sym c.sees.ensures ∙ c.if-not-sees.false) c.in_ok-_sign.ensures c.bag.ensures
