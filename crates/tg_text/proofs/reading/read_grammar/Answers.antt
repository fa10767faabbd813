use Rattle.std.proofs.Common.{◌∙◌, ℕ, List, subst}
use Rattle.tg_text.specs.Answers.{IsOfVersionOne}
use Rattle.tg_text.proofs.reading.read_grammar.Goals as goal
use Rattle.tg_text.proofs.reading.read_grammar.Goals.{in-Some+else-version-ne1, in_default}

pub returns-in-Err-check_syntax-clause-answer : goal.returns-in-Err-check_syntax-clause-answer
returns-in-Err-check_syntax-clause-answer c =
    let same = c.in-Ok.ensures.cases.0 in
    let version : IsOfVersionOne c.in-Ok.text.now =
    elim c.match-version_of.branch [ in-Some+else-version-ne1 w ↦ λ n says. w.in-Some.ensures.1 n says ∙ w.if-version-ne1.false | in_default w ↦ λ n says. absurd (w.in_default.ensures n says) ] in
    record { reading = (c.in-Ok.ensures.cases.1, subst (λ (z : List ℕ). IsOfVersionOne z) same version, c.in-Err-check_syntax.ensures); table = tt }
