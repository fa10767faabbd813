use Rattle.std.proofs.Common.{◌≡◌, ◌+◌, ◌*◌, ◌^◌, ◌<◌, ◌≤◌, length, refl, ap, sym, subst, arith}
use Rattle.std.proofs.lemmas.Option.{slice_get_within}
use Rattle.mg_facts.specs.State.{IsStated}
use Rattle.mg_facts.proofs.StatedLemmas.{IsStated-room, IsStated-named, HasMoreRoom-refl, HasMoreRoom-trans, Keeps-still, Keeps-numbered, number_is_fresh, GoesOn-count}
use Rattle.mg_facts.proofs.stated.Stated.number.Goals as goal

pub invariant_of-self : goal.invariant_of-self
invariant_of-self c = IsStated-room _ _ _ _ _ _ _ c.self.invariant c.self.inside.network c.spare_variable.new.ledger (HasMoreRoom-refl c.self.inside.network) c.spare_variable.ensures.more

pub invariant_of-self-in_err-spare_variable-2 : goal.invariant_of-self-in_err-spare_variable-2
invariant_of-self-in_err-spare_variable-2 c =
    IsStated-room _ _ _ _ _ _ _ c.self.invariant c.spare_variable-2.new.ledger c.spare_variable.new.ledger c.spare_variable-2.ensures.more c.spare_variable.ensures.more

pub invariant_of-self-in_err-spare_slots : goal.invariant_of-self-in_err-spare_slots
invariant_of-self-in_err-spare_slots c =
    IsStated-room _ _ _ _ _ _ _ c.self.invariant c.spare_slots.new.network c.spare_variable.new.ledger
    (HasMoreRoom-trans _ _ _ c.spare_variable-2.ensures.more c.spare_slots.ensures.more) c.spare_variable.ensures.more

pub invariant_of-self-in_err-number : goal.invariant_of-self-in_err-number
invariant_of-self-in_err-number c =
    subst (λ z. IsStated z c.self.inside.used c.self.inside.facts.items c.self.inside.past.items c.spare_slots.new.network c.spare_variable.new.ledger c.self.inside.fed) (sym c.in_err-number.ensures.err)
    (IsStated-room _ _ _ _ _ _ _ c.self.invariant c.spare_slots.new.network c.spare_variable.new.ledger
    (HasMoreRoom-trans _ _ _ c.spare_variable-2.ensures.more c.spare_slots.ensures.more) c.spare_variable.ensures.more)

pub invariant_of-self-2 : goal.invariant_of-self-2
invariant_of-self-2 c =
    let v : length c.self.inside.names < c.spare_slots.new.network.vars =
    omega (arith, c.in_ok-spare_variable-2.ensures.enough, c.spare_slots.ensures.more.vars, c.count-count.ensures.count)
    in
    let s : 3 * length c.self.inside.names + 4 ≤ c.spare_slots.new.network.slots = omega (arith, c.in_ok-spare_slots.ensures.enough, c.count-count.ensures.count) in
    let k : length c.self.inside.names < c.spare_variable.new.ledger.vars = omega (arith, c.in_ok-spare_variable.ensures.enough, c.count-count.ensures.count) in
    IsStated-named c.self.inside.names c.self.inside.used c.self.inside.facts.items c.self.inside.past.items c.spare_slots.new.network c.spare_variable.new.ledger c.self.inside.fed
    (IsStated-room _ _ _ _ _ _ _ c.self.invariant c.spare_slots.new.network c.spare_variable.new.ledger
    (HasMoreRoom-trans _ _ _ c.spare_variable-2.ensures.more c.spare_slots.ensures.more) c.spare_variable.ensures.more)
    c.number.new.self c.args.x c.in_ok-number.ensures.grows v s k

pub returns-in_err-spare_variable-clause-keeps : goal.returns-in_err-spare_variable-clause-keeps
returns-in_err-spare_variable-clause-keeps c = Keeps-still c.self.inside.names c.self.inside.facts.items c.self.inside.used c.args.self.now c.self.inside.names c.self.view_is refl

pub returns-in_err-spare_variable-2-clause-keeps : goal.returns-in_err-spare_variable-2-clause-keeps
returns-in_err-spare_variable-2-clause-keeps c = Keeps-still c.self.inside.names c.self.inside.facts.items c.self.inside.used c.args.self.now c.self.inside.names c.self.view_is refl

pub returns-in_err-spare_slots-clause-keeps : goal.returns-in_err-spare_slots-clause-keeps
returns-in_err-spare_slots-clause-keeps c = Keeps-still c.self.inside.names c.self.inside.facts.items c.self.inside.used c.args.self.now c.self.inside.names c.self.view_is refl

pub returns-in_err-number-clause-keeps : goal.returns-in_err-number-clause-keeps
returns-in_err-number-clause-keeps c =
    Keeps-still c.self.inside.names c.self.inside.facts.items c.self.inside.used c.args.self.now c.number.new.self c.self.view_is c.in_err-number.ensures.err

pub overflow_cast-result : goal.overflow_cast-result
overflow_cast-result c =
    let a : c.in_ok-number.number < length c.number.new.self = slice_get_within _ _ _ c.in_ok-number.ensures.named in
    let b : length c.number.new.self ≤ length c.self.inside.names + 1 = GoesOn-count _ _ _ c.in_ok-number.ensures.grows in
    let small : c.spare_slots.new.network.slots < 2 ^ 32 = c.agrees.ensures.fits.slots in
    omega (arith, c.in_ok-spare_slots.ensures.enough, c.count-count.ensures.count)

pub returns-clause-small : goal.returns-clause-small
returns-clause-small c =
    let a : c.in_ok-number.number < length c.number.new.self = slice_get_within _ _ _ c.in_ok-number.ensures.named in
    let b : length c.number.new.self ≤ length c.self.inside.names + 1 = GoesOn-count _ _ _ c.in_ok-number.ensures.grows in
    let small : c.spare_slots.new.network.slots < 2 ^ 32 = c.agrees.ensures.fits.slots in
    omega (arith, c.in_ok-spare_slots.ensures.enough, c.count-count.ensures.count)

pub returns-clause-keeps : goal.returns-clause-keeps
returns-clause-keeps c =
    Keeps-numbered c.self.inside.names c.self.inside.facts.items c.self.inside.used c.args.self.now c.number.new.self c.args.x c.self.view_is c.self.invariant.named c.self.invariant.below
    c.in_ok-number.ensures.grows

pub returns-clause-fresh : goal.returns-clause-fresh
returns-clause-fresh c =
    number_is_fresh c.args.self.now c.self.inside.names c.number.new.self c.self.inside.facts.items c.self.inside.used c.args.x c.in_ok-number.number c.self.view_is
    c.in_ok-number.ensures.grows c.in_ok-number.ensures.once c.in_ok-number.ensures.named
