use Rattle.lx_lexicon.proofs.AnswerLemmas.{one_answer, one_table, table_once, table_grows}
use Rattle.lx_lexicon.proofs.laws.one_answer.Goals as goal

pub returns : goal.returns
returns c = record {
  answer = λ bytes old once new later x y m n h k. one_answer bytes old once new later x y m n h k;
  table = λ bytes old new later es fs h k. one_table bytes old new later h.1 k.1;
  once = λ bytes old new es once h. table_once bytes old new once h.1;
  grows = λ bytes old new es h. table_grows bytes old new h.1;
}
