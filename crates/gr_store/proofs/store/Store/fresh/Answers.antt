use Rattle.std.proofs.Common.{arith}
use Rattle.gr_store.proofs.States.{MentionsAll-more}
use Rattle.gr_store.proofs.Growth.{Grows-fresh}
use Rattle.gr_store.proofs.store.Store.fresh.Goals as goal

pub invariant_of-self : goal.invariant_of-self
invariant_of-self c =
    let s = c.self.invariant in
    let room = rw (← c.self.view_is) at c.requires in
    record {
      var_room = omega arith;
      slot_room = s.slot_room;
      node_room = s.node_room;
      kept_room = s.kept_room;
      entry_room = s.entry_room;
      vars_fit = s.vars_fit;
      nodes_fit = s.nodes_fit;
      entries_fit = s.entries_fit;
      entries = s.entries;
      mentions = MentionsAll-more _ _ _ _ _ (omega arith) (omega arith) s.mentions;
      history = s.history;
    }

pub returns-clause-grows : goal.returns-clause-grows
returns-clause-grows c = rw (← c.self.view_is) (Grows-fresh _ (rw (← c.self.view_is) at c.requires))
