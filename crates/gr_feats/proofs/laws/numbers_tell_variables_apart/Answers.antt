use Rattle.gr_feats.proofs.NumberingLemmas.{GoesOnFrom-refl, GoesOnFrom-trans, IsNumbering-none}
use Rattle.gr_feats.proofs.MadeLemmas.{numbers_stay, numbers_apart}
use Rattle.gr_feats.proofs.laws.numbers_tell_variables_apart.Goals as goal

pub returns : goal.returns
returns c = record {
  stay = λ old new p on i. numbers_stay old new p on i;
  apart = λ met m n i j is a b. numbers_apart met m n i j is a b;
  first = IsNumbering-none;
  none = λ met. GoesOnFrom-refl met;
  after = λ a b c h k. GoesOnFrom-trans a b c h k;
}
