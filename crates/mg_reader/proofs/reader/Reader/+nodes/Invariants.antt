use Rattle.std.proofs.Common.{◌≡◌, ◌+◌, ◌*◌, ◌++◌, length}
use Rattle.gr_grammar.specs.Grammars.{Rounds, round_items}
use Rattle.mg_reader.specs.Grammar.{next_kid_text, system}
use Rattle.mg_reader.specs.Values.{next_kid_of}
use Rattle.mg_reader.specs.Complaints.{or_first, all_of, next_kid_bad}
use Rattle.mg_reader.proofs.reader.Reader.+nodes.Given as goal

abbrev pub decreases-kid_list : goal.decreases-kid_list
decreases-kid_list l = 6 * length l.self.now.cursor.rest.now + 5

abbrev pub decreases-perhaps_kids : goal.decreases-perhaps_kids
decreases-perhaps_kids l = 6 * length l.self.now.cursor.rest.now + 4

abbrev pub decreases-kids : goal.decreases-kids
decreases-kids l = 6 * length l.self.now.cursor.rest.now + 3

abbrev pub decreases-next_kid : goal.decreases-next_kid
decreases-next_kid l = 6 * length l.self.now.cursor.rest.now + 2

abbrev pub decreases-kid : goal.decreases-kid
decreases-kid l = 6 * length l.self.now.cursor.rest.now + 1

abbrev pub decreases-node : goal.decreases-node
decreases-node l = 6 * length l.self.now.cursor.rest.now + 0

abbrev pub invariant-kids-rows : goal.invariant-kids-rows
invariant-kids-rows l = (r : Rounds system next_kid_text l.initial.self.cursor.rest.now l.self.cursor.rest.now) × (l.row ≡ l.initial.row ++ round_items (λ ts rest m. next_kid_of m) r) × (l.self.complaint ≡ or_first l.initial.self.complaint (all_of (round_items (λ ts rest m. next_kid_bad m) r)))

abbrev pub decreases-kids-rows : goal.decreases-kids-rows
decreases-kids-rows l = length l.self.cursor.rest.now
