use Rattle.std.proofs.Common.{sym, subst}
use Rattle.gr_terms.specs.Views.{network_of}
use Rattle.lx_anchor.specs.Counts.{IsBagBelow}
use Rattle.lx_anchor.specs.Sharing.{counted_pairs}
use Rattle.lx_anchor.specs.Writings.{HasMore}
use Rattle.lx_anchor.proofs.WritingLemmas.{joined, pairs-none}
use Rattle.lx_anchor.proofs.writing.joint_bag.Goals as goal

pub put_pairs-requires-clause-made : goal.put_pairs-requires-clause-made
put_pairs-requires-clause-made c = subst (λ b. IsBagBelow 4294967295 b) (sym (pairs-none c.args.bag.now)) c.requires.bag_made

pub returns : goal.returns
returns c =
    let N = network_of c.args.store.now.accepted in
    let first =
    subst (λ b. HasMore N b c.new-joint.result c.put_pairs.new.joint) (pairs-none c.args.bag.now) c.in_ok-put_pairs.ensures
    in
    joined N c.mark-agrees.ensures.agrees c.args.bag.now (counted_pairs c.args.first c.args.added.now) c.put_pairs.new.joint c.put_pairs-2.new.joint c.requires.joined
    (subst (λ b. HasMore N c.args.bag.now b c.put_pairs.new.joint) c.new-joint.ensures first) c.in_ok-put_pairs-2.ensures
