use Rattle.std.proofs.Common.{length, ◌*◌, ◌+◌, ◌-◌}
use Rattle.gr_grammar.specs.Grammars.{seq, tok, part}
use Rattle.tg_syntax.specs.declared.class.Class.TheVariants.{Byte}
use Rattle.tg_syntax.specs.Families.{node_part}
use Rattle.tg_syntax.proofs.Noting.{ReadRow}
use Rattle.tg_syntax.proofs.reader.Reader.+nodes.Given as goal

abbrev pub decreases-node : goal.decreases-node
decreases-node l = 3 * l.room + 1

abbrev pub decreases-next_node : goal.decreases-next_node
decreases-next_node l = 3 * l.room + 2

abbrev pub decreases-kids : goal.decreases-kids
decreases-kids l = 3 * l.room

abbrev pub invariant-kids-row : goal.invariant-kids-row
invariant-kids-row l = ReadRow (seq (tok (Byte 32)) (part (node_part (l.room - 1)))) l.initial.self.scanner.rest.now l.self.scanner.rest.now l.initial.self.broken l.self.broken

abbrev pub decreases-kids-row : goal.decreases-kids-row
decreases-kids-row l = length l.self.scanner.rest.now
