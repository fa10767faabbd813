use Rattle.std.proofs.Common.{◌≡◌, ◌++◌, length}
use Rattle.std.specs.Prelude.{min}
use Rattle.gr_grammar.specs.Grammars.{Rounds, round_items}
use Rattle.mg_reader.specs.Grammar.{item_text, system}
use Rattle.mg_reader.specs.Values.{item_of}
use Rattle.mg_reader.specs.Complaints.{or_first, item_read, item_row_bad}
use Rattle.mg_reader.proofs.Keys.{classes_of}
use Rattle.mg_reader.proofs.reader.Reader.items.Given as goal

abbrev pub invariant-rows : goal.invariant-rows
invariant-rows l = (r : Rounds system item_text l.initial.self.cursor.rest.now l.self.cursor.rest.now) × (l.row ≡ l.initial.row ++ round_items (λ ts rest m. item_of m) r) × (l.count ≡ min 4097 (classes_of 0 (round_items (λ ts rest m. item_read m) r))) × (l.self.complaint ≡ or_first l.initial.self.complaint (item_row_bad 0 (round_items (λ ts rest m. item_read m) r)))

abbrev pub decreases-rows : goal.decreases-rows
decreases-rows l = length l.self.cursor.rest.now
