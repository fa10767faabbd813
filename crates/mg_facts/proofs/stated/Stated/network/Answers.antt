use Rattle.std.proofs.Common.{ap, subst, sym, arith, ◌+◌, ◌<◌, length}
use Rattle.gr_terms.specs.Networks.{Agrees}
use Rattle.gr_terms.specs.Views.{network_of}
use Rattle.mg_facts.specs.Numbered.{Numbered, all_asserted}
use Rattle.mg_facts.proofs.StatedLemmas.{Agrees-taken}
use Rattle.mg_facts.proofs.stated.Stated.network.Goals as goal

pub returns-then-self-len : goal.returns-then-self-len
returns-then-self-len c =
    subst (λ (s : Numbered). Agrees (network_of (all_asserted s.facts)) → ⊥) c.self.view_is
    (λ agrees. c.self.invariant.clash (omega arith) (Agrees-taken c.self.inside.facts.items (c.self.inside.fed + 1) agrees))
