use Rattle.std.proofs.Common.{sym, subst, ◌∙◌}
use Rattle.gr_base.specs.Lists.{Each}
use Rattle.gr_terms.specs.Views.{network_of}
use Rattle.lx_anchor.specs.Counts.{IsLiteralBelow}
use Rattle.lx_anchor.proofs.WritingLemmas.{literals-joined, literals-none}
use Rattle.lx_anchor.proofs.writing.joint_literals.Goals as goal

pub put_literals-requires : goal.put_literals-requires
put_literals-requires c = subst (λ ls. Each (IsLiteralBelow 4294967295) ls) (sym (literals-none c.args.tree.now)) c.requires.tree_made

pub returns : goal.returns
returns c =
    literals-joined (network_of c.args.store.now.accepted) c.args.first c.args.tree.now c.args.entry.now c.from_vec-written.result c.put_literals.new.written c.put_literals-2.new.written (c.from_vec-written.ensures ∙ c.in_ok-with_capacity.ensures.items) c.in_ok-put_literals.ensures
    c.in_ok-put_literals-2.ensures
