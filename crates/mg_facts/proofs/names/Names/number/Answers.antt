use Rattle.std.proofs.Common.{rules, ◌≡◌}
use Rattle.mg_facts.proofs.StatedLemmas.{insert_once}
use Rattle.mg_facts.proofs.names.Names.number.Goals as goal

pub invariant_of-self-2 : goal.invariant_of-self-2
invariant_of-self-2 c =
    let s = c.in_ok-place.ensures.stored in
    let e : c.args.x ≡ s.0 = search rules in
    insert_once _ c.self.inside.variables.keys c.args.x c.insert_full.new.self.keys c.in_ok-place.ensures.keys (cc) c.self.invariant

pub returns-clause-once : goal.returns-clause-once
returns-clause-once c =
    let s = c.in_ok-place.ensures.stored in
    let e : c.args.x ≡ s.0 = search rules in
    insert_once _ c.self.inside.variables.keys c.args.x c.insert_full.new.self.keys c.in_ok-place.ensures.keys (cc) c.self.invariant
