use Rattle.std.proofs.Common.{refl, sym, subst, arith}
use Rattle.std.proofs.lemmas.Bool.{false≢true}
use Rattle.gr_store.specs.Contents.{Contents}
use Rattle.td_model.specs.Loads.{HasRoom}
use Rattle.td_model.proofs.LoadSteps.{loaded, loaded_agrees, room_enough}
use Rattle.td_model.proofs.loading.load.Goals as goal

pub add_description-requires-clause-room : goal.add_description-requires-clause-room
add_description-requires-clause-room c =
    subst (λ (s : Contents). HasRoom s c.args.d.now) (sym c.in_ok-store.ensures)
    (room_enough c.args.d.now _ refl refl (omega arith) (omega arith))

pub returns-then-add_description : goal.returns-then-add_description
returns-then-add_description c =
    loaded c.args.d.now c.in_ok-store.store c.add_description.new.store _ c.in_ok-store.ensures (omega arith) c.if-add_description.ensures.added (c.if-add_description.ensures.agrees.0 refl)

pub returns-else-add_description : goal.returns-else-add_description
returns-else-add_description c = λ agrees. false≢true (c.if-add_description.ensures.agrees.1 (loaded_agrees c.args.d.now c.in_ok-store.store _ c.in_ok-store.ensures agrees))
