use Rattle.std.proofs.Common.{ap, ◌∙◌, take, arith}
use Rattle.mg_deeds.specs.Sayings.{statement_said}
use Rattle.mg_deeds.proofs.FrontLemmas.{front_length, front_taken_back}
use Rattle.mg_tests.proofs.deeds.state.Goals as goal

pub keep-requires : goal.keep-requires
keep-requires c =
    let longer = front_length c.args.facts.now c.say.new.facts (statement_said 0 c.args.first c.args.statement.now) c.in-Err.ensures.err in
    omega (arith, c.count-count.ensures)

pub returns-in-Err-clause-err : goal.returns-in-Err-clause-err
returns-in-Err-clause-err c =
    c.keep.ensures ∙ ap (λ n. take n c.say.new.facts) c.count-count.ensures
    ∙ front_taken_back c.args.facts.now c.say.new.facts (statement_said 0 c.args.first c.args.statement.now) c.in-Err.ensures.err
