use Rattle.std.proofs.Common.{◌≡◌, ◌∙◌, sym, subst, ap, rules, Err}
use Rattle.std.specs.Str.Parse.{digits_value}
use Rattle.std.specs.Fmt.{decimal}
use Rattle.gr_text.specs.Decimals.{IsDecimal}
use Rattle.gr_text.proofs.DecimalLemmas.{IsDecimal-decimal, decimal-value}
use Rattle.gr_terms.specs.declared.Term.TheVariants.{Var}
use Rattle.tg_reader.proofs.Runs.{decimal_run}
use Rattle.tg_reader.proofs.Steps.{stops}
use Rattle.tg_reader.proofs.reader.Reader.variable.Goals as goal

pub returns-in_err-digits-clause-takes : goal.returns-in_err-digits-clause-takes
returns-in_err-digits-clause-takes c = λ k rest small end e.
    let is : c.from_residual.result ≡ Err c.in_err-digits.field-0.0 = search rules in
    rw is (stops c.in_err-digits.field-0.0 _ _ (c.in_err-digits.ensures.takes (decimal k) rest (decimal_run k small) end e))

pub returns-in-Some-clause-takes : goal.returns-in-Some-clause-takes
returns-in-Some-clause-takes c = λ k rest small end e.
    let read = c.in_ok-digits.ensures.takes (decimal k) rest (decimal_run k small) end e in
    (read.0, ap Var (c.in-Some.ensures.1 ∙ ap (digits_value 10) read.1 ∙ decimal-value k small))

pub returns-in-None-clause-takes : goal.returns-in-None-clause-takes
returns-in-None-clause-takes c = λ k rest small end e.
    let read = c.in_ok-digits.ensures.takes (decimal k) rest (decimal_run k small) end e in
    c.in-None.ensures (subst IsDecimal (sym read.1) (IsDecimal-decimal k small))
