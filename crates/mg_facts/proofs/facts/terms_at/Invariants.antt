use Rattle.std.proofs.Common.{◌≡◌, take, map, length}
use Rattle.gr_base.specs.Lists.{Each, gathered}
use Rattle.td_desc.specs.Conditions.{IsTermBelow}
use Rattle.mg_facts.specs.Said.{term_of}
use Rattle.mg_facts.specs.Numbered.{Keeps, IsFresh, variable_in, read_terms}
use Rattle.mg_facts.proofs.facts.terms_at.Given as goal

abbrev pub invariant-loop-value : goal.invariant-loop-value
invariant-loop-value l = record {
  terms : Each (IsTermBelow (length l.stated.names)) l.terms.items × (read_terms l.stated.names l.terms.items ≡ map term_of (take l.value-index l.values));
  keeps : Keeps l.initial.stated l.stated;
  fresh : IsFresh l.initial.stated l.stated (gathered variable_in l.terms.items);
}
