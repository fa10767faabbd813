use Rattle.std.specs.Prelude.{◌≡◌, length}
use Rattle.std.proofs.Common.{arith, subst, sym, ◌∙◌, set}
use Rattle.gr_terms.specs.Networks.{variable}
use Rattle.td_canon.specs.Writing.{meet}
use Rattle.td_canon.proofs.MeetingLemmas.{place}
use Rattle.lx_anchor.specs.Numberings.{AreKept}
use Rattle.lx_anchor.proofs.NumberingLemmas.{kept-push, kept-still, met_new, met_there}
use Rattle.lx_anchor.proofs.numbering.Numbering.number.Goals as goal

pub invariant_of-self : goal.invariant_of-self
invariant_of-self c = kept-still c.self.inside.places.items c.make_room.new.places.items c.self.inside.met.items c.make_room.ensures.more c.self.invariant

pub invariant_of-self-in_err-push : goal.invariant_of-self-in_err-push
invariant_of-self-in_err-push c =
    subst (λ ms. AreKept c.make_room.new.places.items ms) (sym c.in_err-push.ensures.items)
    (kept-still c.self.inside.places.items c.make_room.new.places.items c.self.inside.met.items c.make_room.ensures.more c.self.invariant)

pub invariant_of-self-then-place-len : goal.invariant_of-self-then-place-len
invariant_of-self-then-place-len c =
    let met = c.self.inside.met.items in
    let p : c.place_in-place.result ≡ place c.args.wanted met = subst (λ xs. c.place_in-place.result ≡ place c.args.wanted xs) c.deref-2.ensures.value c.place_in-place.ensures in
    let new : place c.args.wanted met ≡ length met = omega (arith, p, c.if-place-len.true, c.len.ensures) in
    let number : c.in-Ok.number ≡ length met = omega (arith, c.in-Ok.ensures.1, c.if-place-len.true, c.len.ensures) in
    subst (λ ms. AreKept (set c.make_room.new.places.items c.args.wanted c.in-Ok.number) ms) (sym c.in_ok-push.ensures.items)
    (kept-push c.make_room.new.places.items met c.args.wanted c.in-Ok.number (kept-still c.self.inside.places.items c.make_room.new.places.items met c.make_room.ensures.more c.self.invariant) c.in_ok-make_room.ensures.room new number)

pub returns-in_ok-push-clause-met : goal.returns-in_ok-push-clause-met
returns-in_ok-push-clause-met c =
    let met = c.self.inside.met.items in
    let p : c.place_in-place.result ≡ place c.args.wanted met = subst (λ xs. c.place_in-place.result ≡ place c.args.wanted xs) c.deref-2.ensures.value c.place_in-place.ensures in
    let new : place c.args.wanted met ≡ length met = omega (arith, p, c.if-place-len.true, c.len.ensures) in
    subst (λ old. c.push.new.self.items ≡ meet old (variable c.args.wanted)) c.self.view_is
    (c.in_ok-push.ensures.items ∙ sym (met_new c.self.inside.places.items met c.self.invariant c.args.wanted new))

pub returns-else-place-len-clause-met : goal.returns-else-place-len-clause-met
returns-else-place-len-clause-met c =
    let met = c.self.inside.met.items in
    let p : c.place_in-place.result ≡ place c.args.wanted met = subst (λ xs. c.place_in-place.result ≡ place c.args.wanted xs) c.deref-2.ensures.value c.place_in-place.ensures in
    subst (λ old. old ≡ meet old (variable c.args.wanted)) c.self.view_is
    (sym (met_there c.self.inside.places.items met c.self.invariant c.args.wanted (λ e. c.if-place-len.false (omega (arith, p, e, c.len.ensures)))))
