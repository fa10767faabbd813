use Rattle.std.proofs.Common.{◌≡◌, ◌++◌, take}
use Rattle.gr_terms.specs.Networks.{Agrees}
use Rattle.gr_terms.specs.Views.{network_of}
use Rattle.mg_facts.proofs.ledger.Ledger.accept_all.Given as goal

abbrev pub invariant-loop-assertion : goal.invariant-loop-assertion
invariant-loop-assertion l = record {
  so_far : l.self ≡ record l.initial.self { accepted = l.initial.self.accepted ++ take l.assertion-index l.assertions };
  agrees : Agrees (network_of l.self.accepted);
}
