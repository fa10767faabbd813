use Rattle.tg_text.proofs.FrontLemmas.{no_version_line, version_found}
use Rattle.tg_text.proofs.lines.version_of.Goals as goal

pub returns-in_err-number : goal.returns-in_err-number
returns-in_err-number c = rw c.from_residual-in_err-number.ensures (λ n says. no_version_line c.args.text.now c.in_ok-rest.rest.now c.in_ok-rest.ensures c.in_err-number.ensures n says)

pub returns : goal.returns
returns c = version_found c.args.text.now c.in_ok-rest.rest.now c.in_ok-number.number.now c.in_ok-number._more.now c.read_decimal.result c.in_ok-rest.ensures c.in_ok-number.ensures.0 c.in_ok-number.ensures.1 c.read_decimal.ensures
