use Rattle.td_model.proofs.LoadSteps.{HasMoreSlots}
use Rattle.td_model.proofs.loading.make_slots.Given as goal

abbrev pub invariant-slots : goal.invariant-slots
invariant-slots l = HasMoreSlots l.fn.store l._made l.store
