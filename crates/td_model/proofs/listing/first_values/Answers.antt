use Rattle.td_model.proofs.ReadingLemmas.{first_entry, first_other, no_entry_equate, no_entry_link}
use Rattle.td_model.proofs.listing.first_values.Goals as goal
use Rattle.td_model.proofs.listing.first_values.Goals.{in-Entry+in_ok-_added-in-Entry, in-Equate, in-Link}

pub network-preserved : goal.network-preserved
network-preserved c = elim c.match-at.branch [
  | in-Entry+in_ok-_added-in-Entry w ↦
      rw w.bag-is
      (first_entry c.args.network.now c.network.place c.at.result.now _ _ _ c.network.bag _ w.in_ok-_added-in-Entry._added c.at.ensures w.in-Entry.is c.network.invariant
      w.in_ok-_added-in-Entry.ensures.added w.in_ok-_added-in-Entry.ensures.there w.in_ok-_added-in-Entry.ensures.same w.in_ok-_added-in-Entry.ensures.listed)
  | in-Equate w ↦ rw w.bag-is (first_other c.args.network.now c.network.place c.at.result.now c.network.bag c.at.ensures (no_entry_equate c.at.result.now _ _ w.in-Equate.is) c.network.invariant)
  | in-Link w ↦ rw w.bag-is (first_other c.args.network.now c.network.place c.at.result.now c.network.bag c.at.ensures (no_entry_link c.at.result.now _ _ w.in-Link.is) c.network.invariant)
]
