use Rattle.std.proofs.Common.{rules, ◌≡◌, Err, sym, subst}
use Rattle.gr_grammar.specs.Grammars.{Runs, run_both, run_first, took, failed}
use Rattle.tg_syntax.specs.Names.{keyword}
use Rattle.tg_syntax.specs.Files.{system}
use Rattle.tg_syntax.proofs.Steps.{keyword_ends}
use Rattle.tg_syntax.proofs.scanner.Scanner.keyword.Goals as goal

pub bytes-preserved : goal.bytes-preserved
bytes-preserved c = λ e k. c.bytes.invariant e (subst (λ z. Runs system (keyword z) c.bytes.self.rest.now e) (sym c.in-Some.ensures.cases.0) (run_both c.in_ok-take.ensures k))

pub returns-in_err-take : goal.returns-in_err-take
returns-in_err-take c =
    let e : c.from_residual.result ≡ Err c.in_err-take.field-0.0 = search rules in
    rw e (c.bytes.invariant (failed c.take.new.self.rest.now) (subst (λ z. Runs system (keyword z) c.bytes.self.rest.now (failed c.take.new.self.rest.now)) (sym c.in-Some.ensures.cases.0) (run_first c.in_err-take.ensures)))

pub returns : goal.returns
returns c = c.bytes.invariant (took c.bytes.self.rest.now) (keyword_ends _ _ c.in_default.ensures.cases)
