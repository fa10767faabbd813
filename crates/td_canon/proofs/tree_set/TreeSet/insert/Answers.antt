use Rattle.std.proofs.Common.{◌≡◌, ◌∷◌, ◌++◌, ap, arith, drop, length, string_bytes, sym, ◌∙◌, subst, take}
use Rattle.td_canon.specs.TreeOrders.{SplitsAt, entries_by, entry_of}
use Rattle.td_canon.proofs.SetLemmas.{KeepsOrder-insert, length-entries}
use Rattle.td_canon.proofs.tree_set.TreeSet.insert.Goals as goal

pub insert-requires : goal.insert-requires
insert-requires c =
    let as_many = length-entries c.self.inside.held.items c.self.inside.order.items c.self.invariant.within in
    let seen : length (entries_by c.self.inside.held.items c.self.inside.order.items) ≡ length c.args.self.now = ap length c.self.view_is in
    omega (arith, c.requires.splits.within, c.in_ok-reserve.ensures.len)

pub invariant_of-self-2 : goal.invariant_of-self-2
invariant_of-self-2 c =
    (KeepsOrder-insert c.self.inside.held.items c.push.new.self.items c.self.inside.order.items c.reserve.new.self.items c.args.place c.len-number.result c.args.held c.insert.new.self.items
    c.self.invariant c.in_ok-reserve.ensures.items c.in_ok-push.ensures.items (omega (arith, c.len-number.ensures)) c.in_ok-insert.ensures.items
    (subst (λ s. SplitsAt s c.args.place (string_bytes c.args.held.text)) (sym c.self.view_is) c.requires.splits) c.requires.nodes (omega (arith, c.len-number.ensures))).0

pub returns-clause-ok : goal.returns-clause-ok
returns-clause-ok c =
    (KeepsOrder-insert c.self.inside.held.items c.push.new.self.items c.self.inside.order.items c.reserve.new.self.items c.args.place c.len-number.result c.args.held c.insert.new.self.items
    c.self.invariant c.in_ok-reserve.ensures.items c.in_ok-push.ensures.items (omega (arith, c.len-number.ensures)) c.in_ok-insert.ensures.items
    (subst (λ s. SplitsAt s c.args.place (string_bytes c.args.held.text)) (sym c.self.view_is) c.requires.splits) c.requires.nodes (omega (arith, c.len-number.ensures))).1
    ∙ ap (λ s. take c.args.place s ++ entry_of c.args.held ∷ drop c.args.place s) c.self.view_is

pub returns-clause-set : goal.returns-clause-set
returns-clause-set c =
    (KeepsOrder-insert c.self.inside.held.items c.push.new.self.items c.self.inside.order.items c.reserve.new.self.items c.args.place c.len-number.result c.args.held c.insert.new.self.items
    c.self.invariant c.in_ok-reserve.ensures.items c.in_ok-push.ensures.items (omega (arith, c.len-number.ensures)) c.in_ok-insert.ensures.items
    (subst (λ s. SplitsAt s c.args.place (string_bytes c.args.held.text)) (sym c.self.view_is) c.requires.splits) c.requires.nodes (omega (arith, c.len-number.ensures))).0.set
