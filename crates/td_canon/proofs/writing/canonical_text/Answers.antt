use Rattle.std.proofs.Common.{string_bytes}
use Rattle.td_canon.proofs.TextLemmas.{has_text}
use Rattle.td_canon.proofs.writing.canonical_text.Goals as goal

pub returns : goal.returns
returns c =
    has_text c.args.symbols.now c.args.tree.now c.requires.nodes c.in_ok-push_tree.field-0 c.push_tree.new.draft c.push_bag.new.draft c.push_literals.new.draft (string_bytes c.into_text.result)
    c.requires.named (rw c.new-draft.ensures at c.in_ok-push_tree.ensures.writes) c.in_ok-push_bag.ensures.writes c.in_ok-push_bag.ensures.distinct c.push_bag.ensures.listed c.in_ok-push_literals.ensures c.into_text.ensures
