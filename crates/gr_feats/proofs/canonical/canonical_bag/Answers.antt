use Rattle.std.proofs.Common.{◌≡◌, ap, subst, take, arith}
use Rattle.std.proofs.lemmas.List.{take_all}
use Rattle.gr_base.proofs.ListLemmas.{take-one_more}
use Rattle.gr_terms.specs.Views.{network_of}
use Rattle.gr_store.specs.Contents.{entry_attributes}
use Rattle.gr_feats.proofs.CanonicalLemmas.{IsCollected, IsCollected-done, IsCollected-missing, IsCollected-all, was_added}
use Rattle.gr_feats.proofs.canonical.canonical_bag.Goals as goal
use Rattle.gr_feats.proofs.canonical.canonical_bag.Goals.{in-Some+in_ok-_added, in_default}

pub entries-preserved : goal.entries-preserved
entries-preserved c =
    let N = network_of c.args.store.now.accepted in
    let attrs = entry_attributes c.args.store.now.accepted in
    rw (take-one_more attrs c.entries.at c.attr_at-attr.result c.attr_at-attr.ensures)
    (elim c.match-missing.branch [
      | in-Some+in_ok-_added w ↦ rw w.bag-is (IsCollected-missing N _ _ _ _ _ _ c.entries.invariant w.in-Some.ensures (was_added w.in_ok-_added._added _ _ w.in-Some.ensures.lacks w.in_ok-_added.ensures.added w.in_ok-_added.ensures.there) w.in_ok-_added.ensures.listed)
      | in_default w ↦ rw w.bag-is (IsCollected-done N _ _ _ _ c.entries.invariant w.in_default.ensures)
    ])

pub returns : goal.returns
returns c =
    let list = c.args.store.now.accepted in
    let all : take c.entries.at (entry_attributes list) ≡ entry_attributes list = take_all c.entries.at (entry_attributes list) (omega (arith, c.entries-test.false, ap (λ m. m.entries) c.mark-at-end.ensures.numbers)) in
    IsCollected-all list _ _ c.mark-at-end.ensures.agrees (subst (λ attrs. IsCollected (network_of list) c.args.slot.0 attrs c.entries.bag) all c.entries.invariant)
