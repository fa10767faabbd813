use Rattle.gr_text.proofs.WordLemmas.{IsBareWord-test}
use Rattle.gr_text.proofs.laws.words_can_be_tested.Goals as goal

pub returns : goal.returns
returns c = IsBareWord-test
