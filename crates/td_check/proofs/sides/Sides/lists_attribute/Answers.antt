use Rattle.std.proofs.Common.{ℕ, ◌+◌, subst}
use Rattle.std.specs.Prelude.{is_some}
use Rattle.gr_terms.specs.Networks.{HasValue}
use Rattle.gr_terms.specs.Networks as net
use Rattle.gr_terms.specs.Views.{term_of}
use Rattle.gr_store.proofs.Values.{HasValue-first}
use Rattle.td_check.specs.Sides.{network_in}
use Rattle.td_check.proofs.Passing.{lists_is, lists_none}
use Rattle.td_check.proofs.sides.Sides.lists_attribute.Goals as goal

pub returns-in-Some : goal.returns-in-Some
returns-in-Some c =
    let N = network_in c.args.self.now in
    let a = c.in-Entry.attr in
    let has : HasValue N (c.args.self.now.slots + c.args.slot.0) a.0 (term_of c.in-Some.field-0) =
    subst (λ s. HasValue N s a.0 (term_of c.in-Some.field-0)) c.slot.ensures (HasValue-first N c.slot.result.0 a.0 (term_of c.in-Some.field-0) c.in-Some.ensures) in
    lists_is N (c.args.self.now.slots + c.args.slot.0) c.args.bag.now c.args.assertion c.in-Entry.field-0 a c.in-Entry.field-2 c.is_some.result (term_of c.in-Some.field-0) c.get.result
    c.in-Entry.is has c.get.ensures.value c.is_some.ensures

pub returns-in-None : goal.returns-in-None
returns-in-None c =
    let N = network_in c.args.self.now in
    lists_none N (c.args.self.now.slots + c.args.slot.0) c.args.bag.now c.args.assertion c.in-Entry.field-0 c.in-Entry.attr c.in-Entry.field-2 c.in-Entry.is
    (subst (λ s. (x : net.Term ℕ) → HasValue N s c.in-Entry.attr.0 x → ⊥) c.slot.ensures c.in-None.ensures)
