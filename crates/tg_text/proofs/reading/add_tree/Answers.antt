use Rattle.tg_text.proofs.NextTree.{tree_is_added}
use Rattle.tg_text.proofs.reading.add_tree.Goals as goal

pub returns-clause-added : goal.returns-clause-added
returns-clause-added c =
    tree_is_added c.args.symbols.now c.read_tree.new.symbols c.args.trees.now c.add.new.self c.in-Some.tree c.args.text.now c.in_ok-_added._added c.is_table.ensures.once c.read_tree.ensures.grows c.requires.read (rw c.in-Some.is at c.in_ok-tree.ensures.tree) (rw c.in-Some.is at c.in_ok-tree.ensures.writable) c.if-not-is_next.ensures.next
    c.in_ok-_added.ensures.added c.in_ok-_added.ensures.there c.add.ensures.set c.add.ensures.whole

pub returns-clause-table : goal.returns-clause-table
returns-clause-table c = rw c.in-Some.is at c.in_ok-tree.ensures.table
