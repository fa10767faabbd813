use Rattle.std.proofs.Common.{inl, inr, refl, sym, subst}
use Rattle.std.proofs.lemmas.Bool.{false≢true}
use Rattle.std.proofs.lemmas.List.{take_all, take_more}
use Rattle.gr_base.specs.Lists.{IsAmong}
use Rattle.gr_base.proofs.ListLemmas.{IsAmong-get_or, IsAmong-one_more}
use Rattle.std.proofs.Common.{get_or, take}
use Rattle.sm_match.proofs.search.is_among.Goals as goal

pub returns-then-used-place : goal.returns-then-used-place
returns-then-used-place c =
    (λ _. subst (λ p. IsAmong c.args.places.now p) c.if-used-place.true (IsAmong-get_or c.args.places.now c.loop-used.used-index 0 c.loop-used-test.true), λ _. refl)

pub loop-used-preserved : goal.loop-used-preserved
loop-used-preserved c = λ m.
    elim (IsAmong-one_more (take c.loop-used.used-index c.args.places.now) (get_or c.args.places.now c.loop-used.used-index 0) c.args.place
    (subst (λ xs. IsAmong xs c.args.place) (take_more c.args.places.now c.loop-used.used-index 0 c.loop-used-test.true) m)) [
      | inl k ↦ c.loop-used.invariant k
      | inr e ↦ c.if-used-place.false (sym e)
    ]

pub returns : goal.returns
returns c = (
  λ e. absurd (false≢true e),
  λ m. absurd (c.loop-used.invariant (subst (λ xs. IsAmong xs c.args.place) (sym (take_all c.loop-used.used-index c.args.places.now c.loop-used-test.false)) m)),
)
