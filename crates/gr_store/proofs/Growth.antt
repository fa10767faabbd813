-- A store that went on from an old one can be taken back to it.
use Rattle.std.proofs.Common.{◌≡◌, ◌+◌, ◌-◌, ◌<◌, ◌≤◌, List, [], ◌∷◌, ◌++◌, length, take, refl, sym, ◌∙◌, ap, subst, arith}
use Rattle.std.proofs.lemmas.List.{take_all, take_at, take-take, length-append}
use Rattle.gr_terms.specs.declared.Assertion.{Assertion}
use Rattle.gr_terms.specs.declared.Assertion.TheVariants.{Entry, Equate, Link}
use Rattle.gr_store.specs.Contents.{Contents, IsEarlier, mark_of, first_part, entry_count, Grows, accepting}
use Rattle.gr_store.proofs.States.{entry_count-push, entry_count-take}

pub Grows-refl : (c : Contents) → Grows c c
Grows-refl c = record {
  vars = omega arith;
  slots = omega arith;
  longer = omega arith;
  accepted = take_all (length c.accepted) c.accepted (omega arith);
  var_room = refl;
  slot_room = refl;
  entry_room = refl;
  assertion_room = refl;
}

pub Grows-trans : (a b c : Contents) → Grows a b → Grows b c → Grows a c
Grows-trans a b c h k = record {
  vars = omega (arith, h.vars, k.vars);
  slots = omega (arith, h.slots, k.slots);
  longer = omega (arith, h.longer, k.longer);
  accepted = sym (take-take (length a.accepted) (length b.accepted) c.accepted h.longer) ∙ ap (take (length a.accepted)) k.accepted ∙ h.accepted;
  var_room = k.var_room ∙ h.var_room;
  slot_room = k.slot_room ∙ h.slot_room;
  entry_room = k.entry_room ∙ h.entry_room;
  assertion_room = k.assertion_room ∙ h.assertion_room;
}

-- what equals a store that went on
pub Grows-same : (old mid new : Contents) → Grows old mid → mid ≡ new → Grows old new
Grows-same old mid new g same = subst (Grows old) same g

pub Grows-fresh : (c : Contents) → 0 < c.spare.vars → Grows c (record c { vars = c.vars + 1; spare = record c.spare { vars = c.spare.vars - 1 } })
Grows-fresh c room = record {
  vars = omega arith;
  slots = omega arith;
  longer = omega arith;
  accepted = take_all (length c.accepted) c.accepted (omega arith);
  var_room = omega arith;
  slot_room = refl;
  entry_room = refl;
  assertion_room = refl;
}

pub Grows-slot : (c : Contents) → 0 < c.spare.slots → Grows c (record c { slots = c.slots + 1; spare = record c.spare { slots = c.spare.slots - 1 } })
Grows-slot c room = record {
  vars = omega arith;
  slots = omega arith;
  longer = omega arith;
  accepted = take_all (length c.accepted) c.accepted (omega arith);
  var_room = refl;
  slot_room = omega arith;
  entry_room = refl;
  assertion_room = refl;
}

-- going back to where a store went on from gives what it was
pub first_part-grown : (old new : Contents) → Grows old new → first_part new (mark_of old) ≡ old
first_part-grown old new g =
    let v : new.spare.vars + (new.vars - old.vars) ≡ old.spare.vars = omega (arith, g.var_room, g.vars) in
    let s : new.spare.slots + (new.slots - old.slots) ≡ old.spare.slots = omega (arith, g.slot_room, g.slots) in
    let count : entry_count old.accepted ≤ entry_count new.accepted = omega (arith, ap entry_count g.accepted, entry_count-take (length old.accepted) new.accepted) in
    let e : new.spare.entries + (entry_count new.accepted - entry_count old.accepted) ≡ old.spare.entries = omega (arith, g.entry_room, count) in
    let a : new.spare.assertions + (length new.accepted - length old.accepted) ≡ old.spare.assertions = omega (arith, g.assertion_room, g.longer) in
    rw (g.accepted, v, s, e, a)

-- and its mark is one of the new store
pub IsEarlier-grown : (old new : Contents) → Grows old new → IsEarlier old (mark_of old) → IsEarlier new (mark_of old)
IsEarlier-grown old new g h = record {
  vars = g.vars;
  slots = g.slots;
  assertions = g.longer;
  entries = ap entry_count g.accepted;
  mentions = rw g.accepted (rw (take_all (length old.accepted) old.accepted (omega arith)) at h.mentions);
}

longer_by : (net : List Assertion) (x : Assertion) → length (net ++ x ∷ []) ≡ length net + 1
longer_by net x = length-append net (x ∷ [])

pub Grows-accepting : (c : Contents) (x : Assertion) → 0 < c.spare.assertions → entry_count (x ∷ []) ≤ c.spare.entries → Grows c (accepting c x)
Grows-accepting c (Entry s attr a) room entry_room = record {
  vars = omega arith;
  slots = omega arith;
  longer = omega (arith, longer_by c.accepted (Entry s attr a));
  accepted = take_at c.accepted (Entry s attr a ∷ []) (length c.accepted) refl;
  var_room = refl;
  slot_room = refl;
  entry_room = omega (arith, entry_count-push c.accepted (Entry s attr a));
  assertion_room = omega (arith, longer_by c.accepted (Entry s attr a));
}
Grows-accepting c (Equate a b) room entry_room = record {
  vars = omega arith;
  slots = omega arith;
  longer = omega (arith, longer_by c.accepted (Equate a b));
  accepted = take_at c.accepted (Equate a b ∷ []) (length c.accepted) refl;
  var_room = refl;
  slot_room = refl;
  entry_room = omega (arith, entry_count-push c.accepted (Equate a b));
  assertion_room = omega (arith, longer_by c.accepted (Equate a b));
}
Grows-accepting c (Link s t) room entry_room = record {
  vars = omega arith;
  slots = omega arith;
  longer = omega (arith, longer_by c.accepted (Link s t));
  accepted = take_at c.accepted (Link s t ∷ []) (length c.accepted) refl;
  var_room = refl;
  slot_room = refl;
  entry_room = omega (arith, entry_count-push c.accepted (Link s t));
  assertion_room = omega (arith, longer_by c.accepted (Link s t));
}
