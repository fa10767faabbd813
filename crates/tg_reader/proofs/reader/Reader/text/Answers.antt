use Rattle.std.proofs.Common.{◌∙◌, ℕ, List, sym, subst, arith, ◌≤◌, length}
use Rattle.std.specs.Str.{IsUtf8}
use Rattle.std.proofs.lemmas.List.{length-take-le}
use Rattle.gr_base.specs.Lists.{Each}
use Rattle.gr_text.specs.Words.{IsStringByte}
use Rattle.tg_reader.proofs.Runs.{string_bytes_of, taken, too_long}
use Rattle.tg_reader.proofs.reader.Reader.text.Goals as goal

pub returns-then-len-gt-NAME_LIMIT-clause-takes : goal.returns-then-len-gt-NAME_LIMIT-clause-takes
returns-then-len-gt-NAME_LIMIT-clause-takes c = λ v rest is end e.
    too_long c.args.run c.args.self.now.rest.now c.run_len-len.result c.run_len-len.ensures.each c.run_len-len.ensures.ends v rest c.run_len-len.ensures.within c.if-len-gt-NAME_LIMIT.true is end e

pub returns-in-Ok-clause-name : goal.returns-in-Ok-clause-name
returns-in-Ok-clause-name c =
    let bytes = c.args.self.now.rest.now in
    let same = c.in-Ok.ensures.cases.0 ∙ c.split_at.ensures.front in
    record {
      bytes = subst (λ zs. Each IsStringByte zs) (sym same) (string_bytes_of c.args.run _ c.run_len-len.ensures.each);
      few = subst (λ (zs : List ℕ). length zs ≤ 255) (sym same) (omega (arith, length-take-le c.run_len-len.result bytes c.run_len-len.ensures.within));
      utf8 = subst IsUtf8 (sym c.in-Ok.ensures.cases.0) c.in-Ok.ensures.cases.1;
    }

pub returns-in-Ok-clause-takes : goal.returns-in-Ok-clause-takes
returns-in-Ok-clause-takes c = λ v rest is end e.
    let both = taken c.args.run c.args.self.now.rest.now c.run_len-len.result c.run_len-len.ensures.each c.run_len-len.ensures.ends v rest is end e in
    (c.split_at.ensures.back ∙ both.0, c.in-Ok.ensures.cases.0 ∙ c.split_at.ensures.front ∙ both.1)

pub returns-in-Err-clause-takes : goal.returns-in-Err-clause-takes
returns-in-Err-clause-takes c = λ v rest is end e.
    let both = taken c.args.run c.args.self.now.rest.now c.run_len-len.result c.run_len-len.ensures.each c.run_len-len.ensures.ends v rest is end e in
    c.in-Err.ensures.cases.0 (subst IsUtf8 (sym (c.split_at.ensures.front ∙ both.1)) is.utf8)
