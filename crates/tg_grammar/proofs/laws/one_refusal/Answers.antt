use Rattle.tg_grammar.proofs.RefusalLemmas as lemmas
use Rattle.tg_grammar.proofs.laws.one_refusal.Goals as goal

pub returns : goal.returns
returns c = record { one = lemmas.one_refusal; none = lemmas.no_refusal }
