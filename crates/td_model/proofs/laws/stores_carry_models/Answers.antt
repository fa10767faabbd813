use Rattle.td_model.proofs.CarryLemmas.{carries_agrees, insert_carries, loaded_carries, merge_carries}
use Rattle.td_model.proofs.laws.stores_carry_models.Goals as goal

pub returns : goal.returns
returns c = record { loaded = loaded_carries; insert = insert_carries; merge = merge_carries; agrees = carries_agrees }
