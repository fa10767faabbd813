use Rattle.rl_top.proofs.Laws.{BelowLaws}
use Rattle.rl_top.proofs.OneOutcome.{one_refused, one_enough, not_shortened}
use Rattle.rl_top.proofs.OneStatus.{one_status}
use Rattle.rl_top.proofs.one_outcome.Goals as goal

pub returns : goal.returns
returns c =
    let laws : BelowLaws = record {
      one_answer = c.one_answer.ensures;
      one_table = c.one_table.ensures.one;
      apart = c.one_table.ensures.apart;
      one_line = c.one_line.ensures;
      one_fault = c.one_fault.ensures;
      whole_list = c.steps_are_enough.ensures;
      one_list = c.one_compiled_list.ensures;
      have_steps = c.each_class_has_steps.ensures;
      cut_below = c.cut_below_the_steps.ensures.cut;
    } in
    record {
      refusal = one_refused laws;
      status = λ bytes text other models s t. one_status laws bytes models text other s t;
      enough = λ bytes text other models s t enough. one_enough laws bytes models enough text other s t;
      whole = λ bytes text models s enough. not_shortened laws bytes models enough s text;
    }
